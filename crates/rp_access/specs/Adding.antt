-- What comprehensions add to what they make, as the code has functions for it; each is a part of a form of rp_meaning.
use Rattle.std.specs.Prelude.{◌≡◌, List}
use Rattle.rp_base.specs.declared.value.Oid.{Oid}
use Rattle.rp_base.specs.declared.value.Value.{Value}
use Rattle.rp_meaning.specs.State.{State, Outcome, plainly}
use Rattle.rp_ops.specs.Outcome as plain
use Rattle.rp_ops.specs.Outcome.{gives, with_change}
use Rattle.rp_store.specs.Heap.{Owned, changed_at}
use Rattle.rp_store.specs.Writers.{pushed}

-- one cell is used
abbrev pub charged_one : plain.State → plain.Outcome (Unit {0})
charged_one s = plain.charged 1 s (gives (tt {0}))

-- what stands at a place stays as it is where a value would be put at its end: it is no list
abbrev pub HasNoEnd : List Owned → Oid → Type 0
HasNoEnd heap at = (v : Value) → changed_at heap at (pushed v) ≡ heap

-- a value at the end of the list at a place, for one cell
abbrev pub put : Oid → Value → plain.State → plain.Outcome (Unit {0})
put at v s = plain.charged 1 s (λ s. gives (tt {0}) (with_change s at (pushed v)))

abbrev pub element_put : Oid → Value → State → Outcome (Unit {0})
element_put at v s = plainly (put at v) s
