-- Places that are in the store.
use Rattle.std.specs.Prelude.{ℕ, List, true}
use Rattle.std.specs.List.{All}
use Rattle.rp_base.specs.declared.value.Value.{Value}
use Rattle.rp_base.specs.declared.value.Value.TheVariants as value
use Rattle.rp_decl.specs.Places.{IsHeld as IsNameHeld}
use Rattle.rp_store.specs.Heap.{Owned, IsHeld}
use Rattle.rp_store.specs.Object.{Content, class}

-- the object that the value names, if it names one, is in the store
abbrev pub IsValueHeld : List Owned → Value → Type 0
IsValueHeld heap (value.Rock rock) = Unit {0}
IsValueHeld heap (value.Ref at) = IsHeld heap at
IsValueHeld heap (value.Prox at) = IsHeld heap at

-- the name of a declared class is one of these
abbrev pub IsNamed : List (List ℕ) → Content → Type 0
IsNamed names (class name true methods) = IsNameHeld names name
IsNamed names _ = Unit {0}

abbrev pub AreNamed : List (List ℕ) → List Owned → Type 0
AreNamed names heap = All (λ o. IsNamed names o.content) heap

-- the object is no declared class
abbrev pub IsUndeclared : Content → Type 0
IsUndeclared (class name true methods) = ⊥
IsUndeclared _ = Unit {0}
