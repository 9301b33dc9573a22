-- Lists of tuples (Python Standard Library, Built-in Functions: enumerate and zip). The list and its tuples are charged together, before any is made. Other
-- way: the tuples and the list stand behind the heap as one list of objects; the code adds one after another.
use Rattle.std.specs.Prelude.{ℕ, pos, ◌+◌, List, [], ◌∷◌, ◌++◌, length, map, sum_by}
use Rattle.std.specs.List.{range_with_len}
use Rattle.rp_base.specs.declared.value.Rock.TheVariants as rock
use Rattle.rp_base.specs.declared.value.Side.{Side}
use Rattle.rp_base.specs.declared.value.Value.{Value}
use Rattle.rp_base.specs.declared.value.Value.TheVariants as value
use Rattle.rp_store.specs.Heap.{Owned}
use Rattle.rp_store.specs.Object as object
use Rattle.rp_store.specs.Store.{Cells, added}
use Rattle.rp_ops.specs.Outcome.{State, Outcome, charged, gives, on_value}
use Rattle.rp_ops.specs.Walk.{elements}

-- a tuple of a side
abbrev pub tuple_of : Side → List Value → Owned
tuple_of side row = record { owner = side; content = object.tuple row }

-- references to the objects at so many places, from one on
abbrev pub references : ℕ → ℕ → List Value
references from count = map (λ i. value.Ref (record { 0 = i })) (range_with_len from count)

-- one cell for the list and one for each tuple in it; one for each tuple and one for each element of it
abbrev pub table_cells : List (List Value) → ℕ
table_cells rows = (1 + length rows) + sum_by (λ row. 1 + length row) rows

-- the store with the tuples put last
abbrev pub with_tuples : Side → List (List Value) → Cells → Cells
with_tuples side rows store = record store { heap = store.heap ++ map (tuple_of side) rows }

-- the same, and behind them the list of them
abbrev pub with_table : Side → List (List Value) → Cells → Cells
with_table side rows store = added (with_tuples side rows store) side (object.list (references (length store.heap) (length rows)))

abbrev pub makes_table : Side → List (List Value) → State → Outcome Value
makes_table side rows s = gives (value.Ref (record { 0 = length s.store.heap + length rows })) (record s { store = with_table side rows s.store })

-- a new list of new tuples, which have these elements
abbrev pub table : Side → List (List Value) → State → Outcome Value
table side rows s = charged (table_cells rows) s (makes_table side rows)

-- each element behind its index, from a number on
abbrev pub numbered : ℕ → List Value → List (List Value)
numbered n [] = []
numbered n (v ∷ vs) = (value.Rock (rock.Int (pos n)) ∷ v ∷ []) ∷ numbered (n + 1) vs

-- `enumerate(v)`
abbrev pub enumerate : Side → Value → State → Outcome Value
enumerate side v s = on_value (elements v s) (λ vs s. table side (numbered 0 vs) s)
