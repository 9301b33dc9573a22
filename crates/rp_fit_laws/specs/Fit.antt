-- Objects that fit the programs whose code made them: each function is of the code of its number, with a value for each
-- parameter that has a default, in a scope of the block around it; and each scope is of a code block, with a slot for each
-- local name of that, in a scope of the block around it (Python Language Reference, Naming and binding; Function
-- definitions).
use Rattle.std.specs.Prelude.{◌≡◌, ℕ, zero, suc, List, length, Option, Some, None, option_and_then}
use Rattle.rp_base.specs.declared.value.Oid.{Oid}
use Rattle.rp_base.specs.declared.value.Side.{Side}
use Rattle.rp_base.specs.declared.value.Value.{Value}
use Rattle.rp_store.specs.Heap.{Owned, content_at, owner_at}
use Rattle.rp_store.specs.Object as object
use Rattle.rp_store.specs.Object.{Content}
use Rattle.rp_meaning.specs.Blocks.{Code}
use Rattle.rp_meaning.specs.Frame.{Program}
use Rattle.rp_meaning.specs.Running.{params_of}
use Rattle.rp_apart_laws.specs.Apart.{Each}
use Rattle.rp_fit_laws.specs.Programs.{around, defaults_of}

-- the number of the block of a scope; the scope of the exposed names has none
abbrev pub block_of : Content → Option ℕ
block_of (object.scope block parent vs) = block
block_of c = None

-- a scope of that block of a side's program stands there
pub record IsScope (heap : List Owned) (side : Side) (number : ℕ) (at : Oid) : Type 0 where
  pub owner : owner_at heap at ≡ Some side
  pub block : option_and_then block_of (content_at heap at) ≡ Some number

-- a scope of a block, where there is such a block
abbrev pub IsScopeOf : List Owned → Side → Option ℕ → Oid → Type 0
IsScopeOf heap side None at = ⊥
IsScopeOf heap side (Some block) at = IsScope heap side block at

-- values for the defaults of code, where there is such code
abbrev pub AreDefaults : Option Code → List Value → Type 0
AreDefaults None ds = ⊥
AreDefaults (Some code) ds = length ds ≡ defaults_of (params_of code)

module _ (programs : Side → Program) (heap : List Owned) where
  -- what is around the scope of a block: nothing around that of the program itself
  abbrev pub IsParent : Side → ℕ → Option Oid → Type 0
  IsParent side zero parent = parent ≡ None
  IsParent side (suc n) None = ⊥
  IsParent side (suc n) (Some at) = IsScopeOf heap side (around (programs side) (suc n)) at

  -- an object of an owner
  abbrev pub Fits : Side → Content → Type 0
  Fits owner (object.function name side number within ds) = (side ≡ owner)
      × AreDefaults ((programs owner).code number) ds
      × IsScopeOf heap owner (around (programs owner) number) within
  Fits owner (object.scope (Some number) parent vs) = (length vs ≡ length ((programs owner).layouts.locals number))
      × IsParent owner number parent
  Fits owner (object.scope None parent vs) = parent ≡ None
  Fits owner c = Unit {0}

-- each object, of whichever owner
abbrev pub AreFit : (Side → Program) → List Owned → Type 0
AreFit programs heap = Each (λ o. Fits programs heap o.owner o.content) heap

-- each function and each scope of a block is of one of these sides
abbrev pub IsCodeOf : (Side → Type 0) → Side → Content → Type 0
IsCodeOf sides owner (object.function name side number within ds) = sides owner
IsCodeOf sides owner (object.scope (Some number) parent vs) = sides owner
IsCodeOf sides owner c = Unit {0}

abbrev pub AreCodeOf : (Side → Type 0) → List Owned → Type 0
AreCodeOf sides heap = Each (λ o. IsCodeOf sides o.owner o.content) heap

-- so objects fit other programs too, where these sides have the same
abbrev pub FitElsewhere : (Side → Type 0) → Type 0
FitElsewhere sides = (p q : Side → Program) (heap : List Owned) → ((side : Side) → sides side → p side ≡ q side)
    → AreCodeOf sides heap → AreFit p heap → AreFit q heap
