-- Exposed values, and the functions of scripts.
use Rattle.std.proofs.Common.{◌≡◌, ℕ, zero, suc, false, true≢false, List, [], ◌∷◌, length, nat_eq, Option, Some, None, refl}
use Rattle.std.specs.Prelude.{IfSome}
use Rattle.rp_base.specs.declared.native.TheConstants.NativeId.{FUNCTIONS}
use Rattle.rp_base.specs.declared.value.Oid.{Oid}
use Rattle.rp_base.specs.declared.value.Side.{Side}
use Rattle.rp_base.specs.declared.value.Value.{Value}
use Rattle.rp_base.specs.declared.value.Value.TheVariants as value
use Rattle.rp_meaning.specs.Scopes.{functions_of}
use Rattle.rp_store.specs.Heap.{Owned, owner_at}
use Rattle.rp_store.specs.Kept.{IsFit, IsSound}
use Rattle.rp_access.specs.Rocks.{IsRock}

-- the functions that a script has
pub functions_of_script : (n : ℕ) → nat_eq n 0 ≡ false → functions_of (record { 0 = n }) ≡ FUNCTIONS
functions_of_script zero script = absurd (true≢false script)
functions_of_script (suc n) script = refl

-- what the first object holds is sound, where there is one
pub first_sound : (heap : List Owned) (at : Oid) (v : Option Value) → at.0 ≡ 0 → nat_eq (length heap) 0 ≡ false
    → ((owner : Side) → owner_at heap at ≡ Some owner → IfSome v (IsFit heap owner)) → IfSome v (IsSound heap)
first_sound [] at v first some fit = absurd (true≢false some)
first_sound (o ∷ os) at None first some fit = tt
first_sound (o ∷ os) at (Some v) first some fit = (fit o.owner (rw first refl)).0

pub rock_fit : (heap : List Owned) (side : Side) (v : Option Value) → IfSome v IsRock → IfSome v (IsFit heap side)
rock_fit heap side None rock = tt
rock_fit heap side (Some (value.Rock r)) rock = (tt, tt)
rock_fit heap side (Some (value.Ref at)) rock = absurd rock
rock_fit heap side (Some (value.Prox at)) rock = absurd rock
