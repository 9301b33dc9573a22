-- `zip` (Python Standard Library, Built-in Functions): a list of tuples, each of the next element of every argument, as many as the shortest has. First each
-- argument has to be one that can be walked. A step is taken for each tuple, and none for its elements; a character of a text costs its bytes when it is
-- taken. Nothing is taken of what a longer argument has more. Other way: each tuple hands on where the walks stand behind it; the code moves them where they
-- are, and puts the elements and the tuples at the end of vectors.
use Rattle.std.specs.Prelude.{ℕ, zero, suc, min, List, [], ◌∷◌, map, Option, Some, None, unwrap_or, Result, Ok, Err}
use Rattle.std.specs.List.{reduce}
use Rattle.rp_base.specs.declared.value.Raised.{Raised}
use Rattle.rp_base.specs.declared.value.Side.{Side}
use Rattle.rp_base.specs.declared.value.Value.{Value}
use Rattle.rp_store.specs.Heap.{Owned}
use Rattle.rp_ops.specs.Outcome.{State, Outcome, gives, on_found, on_value, stepped}
use Rattle.rp_ops.specs.Walk.{Cursor, next_of, not_walked, walk_of}
use Rattle.rp_native.specs.Numbers.{length_of}
use Rattle.rp_native.specs.Tables.{table}

-- goes on with what there is; an exception passes through
abbrev pub on_ok : {A B : Type 0} → Result A Raised → (A → Result B Raised) → Result B Raised
on_ok (Ok a) go = go a
on_ok (Err r) go = Err r

-- the walks of these values
abbrev pub walks : List Owned → List Value → Result (List Cursor) Raised
walks heap [] = Ok []
walks heap (v ∷ vs) = on_ok (walk_of heap v) (λ c. on_ok (walks heap vs) (λ cs. Ok (c ∷ cs)))

-- how many elements a value has that can be walked
abbrev pub size : List Owned → Value → ℕ
size heap v = unwrap_or (length_of heap v) 0

-- how many the shortest value has; 0 of no values
abbrev pub shortest : List Owned → List Value → ℕ
shortest heap vs = unwrap_or (reduce min (map (size heap) vs)) 0

-- with so many steps left
abbrev pub with_steps : {A : Type 0} → ℕ → Outcome A → Outcome A
with_steps n o = record o { state = record o.state { steps = n } }

-- what was found; `zip` asks for no element that is not there
abbrev pub found : Option (Value × Cursor) → State → Outcome (Value × Cursor)
found (Some t) s = gives t s
found None s = not_walked s

-- the next element of a walk, of which the step is not counted, and where the walk then stands
abbrev pub element : Cursor → State → Outcome (Value × Cursor)
element c s = with_steps s.steps (on_value (next_of c (record s { steps = 1 })) found)

-- the next element of each walk, and where the walks then stand
abbrev pub row : List Cursor → State → Outcome (List Value × List Cursor)
row [] s = gives ([], []) s
row (c ∷ cs) s = on_value (element c s) (λ e s. on_value (row cs s) (λ r s. gives (e.0 ∷ r.0, e.1 ∷ r.1) s))

-- so many rows, each for a step
abbrev pub rows : ℕ → List Cursor → State → Outcome (List (List Value))
rows zero cs s = gives [] s
rows (suc n) cs s = on_value (stepped s (row cs)) (λ r s. on_value (rows n r.1 s) (λ more s. gives (r.0 ∷ more) s))

-- `zip(v, w, ..)`
abbrev pub zip : Side → List Value → State → Outcome Value
zip side vs s = on_found (walks s.store.heap vs) s (λ cs s. on_value (rows (shortest s.store.heap vs) cs s) (table side))
