-- An element of a walk takes a step.
use Rattle.std.proofs.Common.{◌<◌, ◌==◌, ◌+◌, ℕ, zero, suc, Bool, true, false, List, [], ◌∷◌, length, Option, Some, None, Result, Ok, Err, if◌then◌else◌, subst, arith}
use Rattle.std.specs.Prelude.{IfOk, IfSome, codes, encode_utf8_all, nat_lt, slice_get}
use Rattle.rp_base.specs.declared.kind.Kind.TheVariants.{RuntimeError}
use Rattle.rp_base.specs.declared.value.OpEnd.{OpEnd}
use Rattle.rp_base.specs.declared.value.Rock.TheVariants as rock
use Rattle.rp_base.specs.declared.value.Value.{Value}
use Rattle.rp_base.specs.declared.value.Value.TheVariants as value
use Rattle.rp_store.specs.Store.{Cells}
use Rattle.rp_ops.specs.Outcome as plain
use Rattle.rp_ops.specs.Outcome.{End, Meets, ends, gives, on_value, raises}
use Rattle.rp_ops.specs.Walk.{Cursor, characters_from, elements_from, elements_in, keys_from, keys_in, next_character, next_of, taken}
use Rattle.rp_frame.specs.declared.spot.Spot.{Spot}
use Rattle.rp_access.specs.Spots.{next_at}

-- an answer with so many steps left, where there were so many: an element took one
abbrev FellTo : {A : Type 0} → ℕ → Result (Option A) End → ℕ → Type 0
FellTo n (Ok (Some e)) left = left < n
FellTo n (Ok None) left = Unit {0}
FellTo n (Err e) left = Unit {0}

abbrev Fell : {A : Type 0} → ℕ → plain.Outcome (Option A) → Type 0
Fell n o = FellTo n o.answer o.state.steps

taken_fell : (v : Option Value) (c : Cursor) (store : Cells) (n : ℕ) → Fell n (taken v c (plain.state_of store n))
taken_fell None c store n = tt {0}
taken_fell (Some v) c store zero = tt {0}
taken_fell (Some v) c store (suc n) = omega arith

key_fell : (b : Bool) (v : Option Value) (c : Cursor) (store : Cells) (n : ℕ)
    → Fell n (if b then taken v c (plain.state_of store n) else raises RuntimeError (codes "dict size") (plain.state_of store n))
key_fell true v c store n = taken_fell v c store n
key_fell false v c store n = tt {0}

character_charged : (b : Bool) (v : Value) (cs : List ℕ) (cells : ℕ) (store : Cells) (n : ℕ)
    → Fell {A = Value × Cursor} (suc n) (on_value (if b then ends plain.no_cell (plain.state_of store n) else gives v (plain.with_used (plain.state_of store n) cells)) (λ v s. gives (Some (v, characters_from cs)) s))
character_charged true v cs cells store n = tt {0}
character_charged false v cs cells store n = omega arith

character_fell : (cs : List ℕ) (store : Cells) (n : ℕ) → Fell n (next_character cs (plain.state_of store n))
character_fell [] store n = tt {0}
character_fell (c ∷ cs) store zero = tt {0}
character_fell (c ∷ cs) store (suc n) =
    let cells = store.used + length (encode_utf8_all (c ∷ [])) in
    character_charged (nat_lt store.limit cells) (value.Rock (rock.Text (c ∷ []))) cs cells store n

next_fell : (c : Cursor) (s : plain.State) → Fell s.steps (next_of c s)
next_fell (elements_from lent at i) s = taken_fell (slice_get (elements_in s.store.heap lent at) i) (elements_from lent at (i + 1)) s.store s.steps
next_fell (keys_from at i size) s =
    key_fell (length (keys_in s.store.heap at) == size) (slice_get (keys_in s.store.heap at) i) (keys_from at (i + 1) size) s.store s.steps
next_fell (characters_from cs) s = character_fell cs s.store s.steps

-- an element that was given took a step
pub element_took : (r : Result (Option (Value × Spot)) OpEnd) (v : Value) (c : Cursor) (s t : plain.State) → Meets (next_at v r) t (next_of c s)
    → IfOk r (λ found. IfSome found (λ _. t.steps < s.steps))
element_took (Ok (Some e)) v c s t h = subst (λ (o : plain.Outcome (Option (Value × Cursor))). Fell s.steps o) h (next_fell c s)
element_took (Ok None) v c s t h = tt
element_took (Err e) v c s t h = tt
