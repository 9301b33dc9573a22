-- Objects such as code of their owners makes them: the class of an object, its methods and their receivers and its
-- scopes are of its owner, and a variable of a script refers to objects of others through proxies alone. What a list,
-- a tuple, a dict or a field holds is as it may be, since code takes each value that it gets (zope.security, proxies).
use Rattle.std.specs.Prelude.{◌≡◌, ℕ, List, Option, Some}
use Rattle.std.specs.List.{position_from}
use Rattle.std.specs.Option.{option_map}
use Rattle.rp_base.specs.Same.{same_text}
use Rattle.rp_base.specs.declared.value.Oid.{Oid}
use Rattle.rp_base.specs.declared.value.Side.{Side}
use Rattle.rp_base.specs.declared.value.Value.{Value}
use Rattle.rp_base.specs.declared.value.Value.TheVariants as value
use Rattle.rp_decl.specs.Records.{Class}
use Rattle.rp_store.specs.declared.object.Callee.{Callee}
use Rattle.rp_store.specs.declared.object.Callee.TheVariants as callee
use Rattle.rp_store.specs.Heap.{Owned, owner_at}
use Rattle.rp_store.specs.Object as object
use Rattle.rp_store.specs.Object.{Content}
use Rattle.rp_meaning.specs.Load.{trusted}
use Rattle.rp_apart_laws.specs.Apart.{Each, OnSome}
use Rattle.rp_owner_laws.specs.Owners.{IsOrdered}

module _ (heap : List Owned) where
  -- the object at a place is of that side
  abbrev pub IsOf : Side → Oid → Type 0
  IsOf side at = owner_at heap at ≡ Some side

  -- a value as a variable of a side holds it: one of the trusted side any, one of a script plain references to its own
  -- objects alone
  abbrev pub IsHeldBy : Side → Value → Type 0
  IsHeldBy side (value.Rock r) = Unit {0}
  IsHeldBy side (value.Ref at) = (side.0 ≡ 0 → ⊥) → IsOf side at
  IsHeldBy side (value.Prox at) = Unit {0}

  abbrev pub IsReceiver : Side → Value → Type 0
  IsReceiver owner (value.Rock r) = Unit {0}
  IsReceiver owner (value.Ref at) = IsOf owner at
  IsReceiver owner (value.Prox at) = ⊥

  abbrev pub IsCallee : Side → Callee → Type 0
  IsCallee owner (callee.Function at) = IsOf owner at
  IsCallee owner (callee.Native id) = Unit {0}

  -- what an object of an owner refers to
  abbrev pub Suits : Side → Content → Type 0
  Suits owner (object.list xs) = Unit {0}
  Suits owner (object.tuple xs) = Unit {0}
  Suits owner (object.dict es) = Unit {0}
  Suits owner (object.instance of fs) = IsOf owner of
  Suits owner (object.class name declared ms) = Each (λ m. IsOf owner m.1) ms
  Suits owner (object.function name side block within ds) = (side ≡ owner) × IsOf owner within
  Suits owner (object.method v called) = IsReceiver owner v × IsCallee owner called
  Suits owner (object.scope block parent vs) = OnSome (IsOf owner) parent × Each (OnSome (IsHeldBy owner)) vs

-- each object, of whichever owner
abbrev pub AreOrdered : List Owned → Type 0
AreOrdered heap = Each (λ o. Suits heap o.owner o.content) heap

-- so those of each script are such as its code makes them
abbrev pub AllAreOrdered : Type 0
AllAreOrdered = (heap : List Owned) → AreOrdered heap → (n : ℕ) → IsOrdered n heap

-- the place of a declared class of a name
abbrev pub place_of : List Class → List ℕ → Option Oid
place_of classes word = option_map (λ i. record { 0 = i }) (position_from (λ c. same_text word c.name) 1 classes)

-- what stands at the places of the declared classes is of the trusted side, so that a `class` statement of the module
-- that gives methods to a declared class gives them to a class of its own
abbrev pub ClassesAreTrusted : List Class → List Owned → Type 0
ClassesAreTrusted classes heap = (word : List ℕ) → OnSome (IsOf heap trusted) (place_of classes word)
