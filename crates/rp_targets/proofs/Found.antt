-- What code may hold, where it matched on what a part gave.
use Rattle.std.proofs.Common.{◌≡◌, List, Option, Some, subst}
use Rattle.std.specs.Prelude.{IfSome}
use Rattle.rp_base.specs.declared.value.Side.{Side}
use Rattle.rp_base.specs.declared.value.Value.{Value}
use Rattle.rp_store.specs.Heap.{Owned}
use Rattle.rp_store.specs.Kept.{IsFit}

pub found_fit : (o : Option Value) (a : Value) → o ≡ Some a → (heap : List Owned) (side : Side) → IfSome o (IsFit heap side) → IsFit heap side a
found_fit o a is heap side fit = subst (λ (o : Option Value). IfSome o (IsFit heap side)) is fit
