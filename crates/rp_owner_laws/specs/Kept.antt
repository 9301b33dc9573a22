-- What stays of the objects that were there, while code runs, of one of two kinds: of each its owner and its kind,
-- whatever code runs; and each object of another owner whole, while code of a script runs that is let through no proxy
-- (zope.security, proxies: the objects of others are reached through proxies alone).
use Rattle.std.specs.Prelude.{◌≡◌, ℕ, suc, nat_eq, Bool, true, false, List, [], ◌∷◌, slice_get, Option, Some, None}
use Rattle.rp_base.specs.declared.value.Oid.{Oid}
use Rattle.rp_base.specs.declared.value.Side.{Side}
use Rattle.rp_base.specs.declared.value.Value.{Value}
use Rattle.rp_base.specs.declared.value.Value.TheVariants as value
use Rattle.rp_store.specs.declared.object.Callee.{Callee}
use Rattle.rp_store.specs.declared.object.Callee.TheVariants as callee
use Rattle.rp_store.specs.Heap.{Owned}
use Rattle.rp_store.specs.Object as object
use Rattle.rp_store.specs.Object.{Content}
use Rattle.rp_store.specs.Shape.{shaped}
use Rattle.rp_apart_laws.specs.Apart.{Each, OnSome}

-- what is kept of the objects that were there: owners and kinds, or what the script of that number, from 0 on, does not
-- own
pub data Keeper : Type 0 where
  shapes : List Owned → Keeper
  own : ℕ → List Owned → Keeper

abbrev pub old_of : Keeper → List Owned
old_of (shapes old) = old
old_of (own n old) = old

-- the side whose code it is; the sides of scripts are counted from 1 on
abbrev pub Acts : Keeper → Side → Type 0
Acts (shapes old) side = Unit {0}
Acts (own n old) side = side.0 ≡ suc n

-- what stood at a place is the script's own, or nothing stood there
abbrev pub IsOwn : Keeper → Option Owned → Type 0
IsOwn (shapes old) o = Unit {0}
IsOwn (own n old) None = Unit {0}
IsOwn (own n old) (Some o) = o.owner.0 ≡ suc n

abbrev pub Usable : Keeper → Oid → Type 0
Usable k at = IsOwn k (slice_get (old_of k) at.0)

-- a value as the code holds it: objects of others through proxies alone
abbrev pub Holds : Keeper → Value → Type 0
Holds k (value.Rock r) = Unit {0}
Holds k (value.Ref at) = Usable k at
Holds k (value.Prox at) = Unit {0}

-- a value that refers to no object of others, also through no proxy
abbrev pub Bare : Keeper → Value → Type 0
Bare k (value.Rock r) = Unit {0}
Bare k (value.Ref at) = Usable k at
Bare k (value.Prox at) = Usable k at

abbrev pub CalleeFits : Keeper → Callee → Type 0
CalleeFits k (callee.Function at) = Usable k at
CalleeFits k (callee.Native id) = Unit {0}

-- An object of the code's own: its code, its scopes, its class, its methods and their receivers are its own. What a
-- list, a tuple, a dict or a field holds is as it may be, since code takes each value that it gets.
abbrev pub Fits : Keeper → Content → Type 0
Fits k (object.list xs) = Unit {0}
Fits k (object.tuple xs) = Unit {0}
Fits k (object.dict es) = Unit {0}
Fits k (object.instance of fs) = Usable k of
Fits k (object.class name declared ms) = Each (λ m. Usable k m.1) ms
Fits k (object.function name side block within ds) = Acts k side × Usable k within
Fits k (object.method v called) = Bare k v × CalleeFits k called
Fits k (object.scope block parent vs) = OnSome (Usable k) parent × Each (OnSome (Holds k)) vs

-- an object that was there, by whether it is the script's own: as it was, or still its own
abbrev pub StaysBy : Keeper → Bool → Owned → Owned → Type 0
StaysBy k true o new = (new.owner ≡ o.owner) × Fits k new.content
StaysBy k false o new = new ≡ o

abbrev pub Stays : Keeper → Owned → Owned → Type 0
Stays (shapes old) o new = shaped new ≡ shaped o
Stays (own n old) o new = StaysBy (own n old) (nat_eq o.owner.0 (suc n)) o new

-- an object that was not
abbrev pub IsNew : Keeper → Owned → Type 0
IsNew (shapes old) new = Unit {0}
IsNew (own n old) new = Fits (own n old) new.content

abbrev pub StayFrom : Keeper → List Owned → List Owned → Type 0
StayFrom k [] heap = Each (IsNew k) heap
StayFrom k (o ∷ os) [] = ⊥
StayFrom k (o ∷ os) (new ∷ news) = Stays k o new × StayFrom k os news

-- the objects, behind what was done
abbrev pub Kept : Keeper → List Owned → Type 0
Kept k heap = StayFrom k (old_of k) heap
