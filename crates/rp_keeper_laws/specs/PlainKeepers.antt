-- What is kept of objects, as far as plain operations are concerned: it stays so where an object that may be changed is
-- changed in what it holds alone, and where objects that may be made are made.
use Rattle.std.proofs.Common.{◌≡◌, List, [], ◌++◌}
use Rattle.rp_base.specs.declared.value.Oid.{Oid}
use Rattle.rp_base.specs.declared.value.Value.{Value}
use Rattle.rp_base.specs.declared.value.Value.TheVariants as value
use Rattle.rp_store.specs.Heap.{Owned, changed_at}
use Rattle.rp_store.specs.Object as object
use Rattle.rp_store.specs.Object.{Content, Entries}
use Rattle.rp_apart_laws.specs.Apart.{Each}

-- an object without what lists, dicts and fields hold
abbrev pub rest : Content → Content
rest (object.list xs) = object.list []
rest (object.dict es) = object.dict []
rest (object.instance of fs) = object.instance of []
rest c = c

-- a change of what a list, a dict or fields hold
abbrev pub Mild : (Content → Content) → Type 0
Mild f = (c : Content) → rest (f c) ≡ rest c

-- each object of some is such
abbrev pub AllFit : (Content → Type 0) → List Owned → Type 0
AllFit fits news = Each (λ (o : Owned). fits o.content) news

pub record PlainKeeper : Type 1 where
  pub Kept : List Owned → Type 0
  -- which objects may be changed
  pub Usable : Oid → Type 0
  -- which may be made
  pub Fits : Content → Type 0
  pub list : (xs : List Value) → Fits (object.list xs)
  pub tuple : (xs : List Value) → Fits (object.tuple xs)
  pub dict : (es : Entries) → Fits (object.dict es)
  pub changed : (heap : List Owned) (at : Oid) (f : Content → Content) → Mild f → Usable at → Kept heap
      → Kept (changed_at heap at f)
  pub appended : (heap news : List Owned) → AllFit Fits news → Kept heap → Kept (heap ++ news)

-- a value that refers, also through a proxy, to an object that may be changed or to none
abbrev pub Bare : PlainKeeper → Value → Type 0
Bare k (value.Rock r) = Unit {0}
Bare k (value.Ref at) = k.Usable at
Bare k (value.Prox at) = k.Usable at
