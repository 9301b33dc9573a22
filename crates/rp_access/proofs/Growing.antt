-- A world stays faithful where built-in functions and methods have changed its store and taken steps.
use Rattle.std.proofs.Common.{◌≡◌, ℕ, zero, suc, Bool, true, List, [], ◌∷◌, Option, Some, None, IsSomeAnd, refl, sym, ap, ◌∙◌, subst}
use Rattle.std.specs.Option.{IfSome, option_map}
use Rattle.std.specs.Prelude.{slice_get}
use Rattle.std.proofs.lemmas.List.Elements.{All-append, All-cons, All-head, All-nil, All-tail, All-weaker}
use Rattle.rp_base.specs.declared.meter.Meter.{Meter}
use Rattle.rp_base.specs.declared.value.Name.{Name}
use Rattle.rp_base.specs.declared.value.Oid.{Oid}
use Rattle.rp_base.specs.declared.value.Side.{Side}
use Rattle.rp_decl.specs.Places.{IsHeld as IsNameHeld}
use Rattle.rp_methods.specs.Classes.{AddsNoClass}
use Rattle.rp_native.specs.Objects.{IsContainer, IsContainerOf}
use Rattle.rp_ops.specs.Growth.{Gains}
use Rattle.rp_proxy.specs.Faithful.{IsFaithful}
use Rattle.rp_proxy.specs.Held.{AreNamed, IsNamed}
use Rattle.rp_proxy.specs.declared.world.World.{World}
use Rattle.rp_store.specs.Heap.{Owned, content_at}
use Rattle.rp_store.specs.Object as object
use Rattle.rp_store.specs.Object.{Content}
use Rattle.rp_store.specs.Parts.{IsClass}
use Rattle.rp_store.specs.Shape.{KeepsShape, shape, shape_at}
use Rattle.rp_store.specs.Store.{Cells}

-- the world with another store and another meter
abbrev pub gone_on : World → Cells → Meter → World
gone_on w store m = record w { store = store; running = record w.running { meter = m } }

named_faithful : (w : World) (store : Cells) (m : Meter) → AreNamed w.names store.heap → IsFaithful w → IsFaithful (gone_on w store m)
named_faithful w store m named h = record {
  read = h.read;
  ordered = h.ordered;
  rows = h.rows;
  rows_within = h.rows_within;
  grants = h.grants;
  classes = named;
  entries = h.entries;
}

pub IsFaithful-same : (w : World) (store : Cells) (m : Meter) → store.heap ≡ w.store.heap → IsFaithful w → IsFaithful (gone_on w store m)
IsFaithful-same w store m e h = named_faithful w store m (subst (AreNamed w.names) (sym e) h.classes) h

-- containers are gained

container_named : (names : List (List ℕ)) (c : Content) → IsContainer c → IsNamed names c
container_named names (object.list xs) h = tt
container_named names (object.tuple xs) h = tt
container_named names (object.dict es) h = tt
container_named names c h = absurd h

pub IsFaithful-gained : (w : World) (store : Cells) (m : Meter) (side : Side) → Gains (IsContainerOf side) w.store.heap store.heap → IsFaithful w → IsFaithful (gone_on w store m)
IsFaithful-gained w store m side gains h =
    named_faithful w store m (subst (AreNamed w.names) (sym gains.1.0)
    (All-append (λ o. IsNamed w.names o.content) w.store.heap gains.0 h.classes
    (All-weaker (IsContainerOf side) (λ o. IsNamed w.names o.content) (λ o is. container_named w.names o.content is.1) gains.0 gains.1.1))) h

-- no class is made

module _ (names : List (List ℕ)) where
  one_named : (os : List Owned) → AreNamed names os → (i : ℕ) → IfSome (option_map (λ o. o.content) (slice_get os i)) (IsNamed names)
  one_named [] h i = tt
  one_named (o ∷ os) h zero = All-head (λ o. IsNamed names o.content) o os h
  one_named (o ∷ os) h (suc i) = one_named os (All-tail (λ o. IsNamed names o.content) o os h) i

  all_named : (os : List Owned) → ((i : ℕ) → IfSome (option_map (λ o. o.content) (slice_get os i)) (IsNamed names)) → AreNamed names os
  all_named [] h = All-nil (λ o. IsNamed names o.content)
  all_named (o ∷ os) h = All-cons (λ o. IsNamed names o.content) o os (h zero) (all_named os (λ i. h (suc i)))

  module _ (old new : List Owned) (keeps : KeepsShape old new) (none : AddsNoClass old new) (named : AreNamed names old) (i : ℕ) where
    abbrev at : Oid
    at = record { 0 = i }

    -- a declared class that stood there has its name
    same_class : (name other : Name) (declared : Bool) (ms more : List (Name × Oid)) → content_at new at ≡ Some (object.class name true ms)
        → content_at old at ≡ Some (object.class other declared more) → IsNameHeld names name
    same_class name other declared ms more new_is old_is =
        let kept : shape_at new at ≡ Some (object.class other declared []) = keeps.shape at (object.class other declared []) (ap (option_map shape) old_is) in
        let both : Some (object.class other declared []) ≡ Some (object.class name true []) = sym kept ∙ ap (option_map shape) new_is in
        let is_declared : declared ≡ true = cc in
        let is_name : other ≡ name = cc in
        let held : IsNamed names (object.class other declared more) = subst (λ (x : Option Content). IfSome x (IsNamed names)) old_is (one_named old named i) in
        subst (IsNameHeld names) is_name (subst (λ (d : Bool). IsNamed names (object.class other d more)) is_declared held)

    was_class : (x : Option Content) → content_at old at ≡ x → IsSomeAnd x IsClass → (name : Name) (ms : List (Name × Oid)) → content_at new at ≡ Some (object.class name true ms) → IsNameHeld names name
    was_class None e h name ms is = absurd h
    was_class (Some (object.class other declared more)) e h name ms is = same_class name other declared ms more is e
    was_class (Some c) e h name ms is = absurd h

    now_named : (x : Option Content) → content_at new at ≡ x → IfSome x (IsNamed names)
    now_named None e = tt
    now_named (Some (object.class name true ms)) e =
        was_class (content_at old at) refl (none.class at (subst (λ (x : Option Content). IsSomeAnd x IsClass) (sym e) tt)) name ms e
    now_named (Some c) e = tt

pub IsFaithful-kept_classes : (w : World) (store : Cells) (m : Meter) → KeepsShape w.store.heap store.heap → AddsNoClass w.store.heap store.heap → IsFaithful w → IsFaithful (gone_on w store m)
IsFaithful-kept_classes w store m keeps none h =
    named_faithful w store m (all_named w.names store.heap
    (λ i. now_named w.names w.store.heap store.heap keeps none h.classes i (content_at store.heap (record { 0 = i })) refl)) h
