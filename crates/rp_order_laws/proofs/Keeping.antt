-- How objects stay such as code of their owners makes them, as objects change and are made.
use Rattle.std.proofs.Common.{◌≡◌, refl, sym, ap, subst, ◌∙◌, ℕ, zero, suc, Bool, true, false, if◌then◌else◌, List, []}
use Rattle.std.proofs.Common.{◌∷◌, ◌++◌, length, slice_get, Option, Some, None, nat_eq}
use Rattle.std.proofs.lemmas.Bool.{eqb-true}
use Rattle.std.specs.Option.{option_map, option_map_or}
use Rattle.rp_base.specs.declared.value.Name.{Name}
use Rattle.rp_base.specs.declared.value.Oid.{Oid}
use Rattle.rp_base.specs.declared.value.Side.{Side}
use Rattle.rp_base.specs.declared.value.Value.{Value}
use Rattle.rp_base.specs.declared.value.Value.TheVariants as value
use Rattle.rp_decl.specs.Records.{Class}
use Rattle.rp_proxy.specs.Taken as taking
use Rattle.rp_proxy.specs.Taken.{taken}
use Rattle.rp_store.specs.declared.object.Callee.{Callee}
use Rattle.rp_store.specs.declared.object.Callee.TheVariants as callee
use Rattle.rp_store.specs.Heap.{Owned, changed_at, changed_from, content_at}
use Rattle.rp_store.specs.Object as object
use Rattle.rp_store.specs.Object.{Content}
use Rattle.rp_meaning.specs.Load.{trusted}
use Rattle.rp_apart_laws.proofs.Lists.{each_append, each_get}
use Rattle.rp_apart_laws.specs.Apart.{Each, OnSome}
use Rattle.rp_owner_laws.specs.Kept as kept
use Rattle.rp_owner_laws.specs.Kept.{own}
use Rattle.rp_keeper_laws.specs.PlainKeepers.{Mild, rest}
use Rattle.rp_order_laws.specs.Ordered.{AllAreOrdered, AreOrdered, ClassesAreTrusted, IsCallee, IsHeldBy, IsOf}
use Rattle.rp_order_laws.specs.Ordered.{IsReceiver, Suits, place_of}
use Rattle.rp_keeper_laws.proofs.Mildly.{IsMade, StayFrom, Stays}
use Rattle.rp_keeper_laws.proofs.Everything.{each_more, some_more}

-- ---- owners stay

abbrev pub Grows : List Owned → List Owned → Type 0
Grows old new = (at : Oid) (side : Side) → IsOf old side at → IsOf new side at

pub grows_not : (heap : List Owned) → Grows heap heap
grows_not heap at side h = h

pub grows_on : (a b c : List Owned) → Grows a b → Grows b c → Grows a c
grows_on a b c g h at side p = h at side (g at side p)

module _ (old new : List Owned) (g : Grows old new) where
  pub held_later : (side : Side) (v : Value) → IsHeldBy old side v → IsHeldBy new side v
  held_later side (value.Rock r) h = tt
  held_later side (value.Ref at) h = λ p. g at side (h p)
  held_later side (value.Prox at) h = tt

  pub slot_later : (side : Side) (o : Option Value) → OnSome (IsHeldBy old side) o → OnSome (IsHeldBy new side) o
  slot_later side None h = tt
  slot_later side (Some v) h = held_later side v h

  receiver_later : (side : Side) (v : Value) → IsReceiver old side v → IsReceiver new side v
  receiver_later side (value.Rock r) h = tt
  receiver_later side (value.Ref at) h = g at side h
  receiver_later side (value.Prox at) h = absurd h

  callee_later : (side : Side) (c : Callee) → IsCallee old side c → IsCallee new side c
  callee_later side (callee.Function at) h = g at side h
  callee_later side (callee.Native id) h = tt

  pub suits_later : (side : Side) (c : Content) → Suits old side c → Suits new side c
  suits_later side (object.list xs) h = tt
  suits_later side (object.tuple xs) h = tt
  suits_later side (object.dict es) h = tt
  suits_later side (object.instance of fs) h = g of side h
  suits_later side (object.class name declared ms) h =
      each_more (λ (m : Name × Oid). IsOf old side m.1) (λ (m : Name × Oid). IsOf new side m.1)
      (λ m p. g m.1 side p) ms h
  suits_later side (object.function name unit block within ds) h = (h.0, g within side h.1)
  suits_later side (object.method v called) h = (receiver_later side v h.0, callee_later side called h.1)
  suits_later side (object.scope block parent vs) h = (
    some_more (IsOf old side) (IsOf new side) (λ at p. g at side p) parent h.0,
    each_more (OnSome (IsHeldBy old side)) (OnSome (IsHeldBy new side)) (slot_later side) vs h.1,
  )

  pub all_later : (os : List Owned) → Each (λ (o : Owned). Suits old o.owner o.content) os
      → Each (λ (o : Owned). Suits new o.owner o.content) os
  all_later os h = each_more (λ (o : Owned). Suits old o.owner o.content) (λ (o : Owned). Suits new o.owner o.content)
      (λ o p. suits_later o.owner o.content p) os h

  pub classes_later : (classes : List Class) → ClassesAreTrusted classes old → ClassesAreTrusted classes new
  classes_later classes h word =
      some_more (IsOf old trusted) (IsOf new trusted) (λ at p. g at trusted p) (place_of classes word) (h word)

-- ---- an object that changes

changed_owner : (heap : List Owned) (i j : ℕ) (f : Content → Content) (side : Side)
    → option_map (λ (o : Owned). o.owner) (slice_get heap j) ≡ Some side
    → option_map (λ (o : Owned). o.owner) (slice_get (changed_from heap i f) j) ≡ Some side
changed_owner [] i j f side h = h
changed_owner (x ∷ xs) zero zero f side h = h
changed_owner (x ∷ xs) zero (suc j) f side h = h
changed_owner (x ∷ xs) (suc i) zero f side h = h
changed_owner (x ∷ xs) (suc i) (suc j) f side h = changed_owner xs i j f side h

pub changed_grows : (heap : List Owned) (at : Oid) (f : Content → Content) → Grows heap (changed_at heap at f)
changed_grows heap at f it side h = changed_owner heap at.0 it.0 f side h

-- a change that leaves an object such, in a heap
abbrev pub SparesIn : List Owned → (Content → Content) → Owned → Type 0
SparesIn heap f o = Suits heap o.owner o.content → Suits heap o.owner (f o.content)

changed_each : (all heap : List Owned) (i : ℕ) (f : Content → Content) → OnSome (SparesIn all f) (slice_get heap i)
    → Each (λ (o : Owned). Suits all o.owner o.content) heap
    → Each (λ (o : Owned). Suits all o.owner o.content) (changed_from heap i f)
changed_each all [] i f p h = tt
changed_each all (x ∷ xs) zero f p h = (p h.0, h.1)
changed_each all (x ∷ xs) (suc i) f p h = (h.0, changed_each all xs i f p h.1)

pub changed_ordered : (heap : List Owned) (at : Oid) (f : Content → Content)
    → OnSome (SparesIn heap f) (slice_get heap at.0) → AreOrdered heap → AreOrdered (changed_at heap at f)
changed_ordered heap at f p h =
    all_later heap (changed_at heap at f) (changed_grows heap at f) (changed_at heap at f)
    (changed_each heap heap at.0 f p h)

-- where the object at a place is of a side, it is enough that those of that side stay such
pub spares_of : (heap : List Owned) (at : Oid) (f : Content → Content) (side : Side) → IsOf heap side at
    → ((c : Content) → Suits heap side c → Suits heap side (f c)) → OnSome (SparesIn heap f) (slice_get heap at.0)
spares_of heap at f side h more = by (slice_get heap at.0) h
  where
    by : (o : Option Owned) → option_map (λ (o : Owned). o.owner) o ≡ Some side → OnSome (SparesIn heap f) o
    by None h = tt
    by (Some o) h =
        let e : o.owner ≡ side = cc in
        subst (λ (s : Side). Suits heap s o.content → Suits heap s (f o.content)) (sym e) (more o.content)

-- ---- objects that are made

appended_owner : (heap news : List Owned) (j : ℕ) (side : Side)
    → option_map (λ (o : Owned). o.owner) (slice_get heap j) ≡ Some side
    → option_map (λ (o : Owned). o.owner) (slice_get (heap ++ news) j) ≡ Some side
appended_owner [] news j side h = absurd (cc)
appended_owner (x ∷ xs) news zero side h = h
appended_owner (x ∷ xs) news (suc j) side h = appended_owner xs news j side h

pub appended_grows : (heap news : List Owned) → Grows heap (heap ++ news)
appended_grows heap news at side h = appended_owner heap news at.0 side h

pub appended_ordered : (heap : List Owned) (side : Side) (c : Content) → Suits heap side c → AreOrdered heap
    → AreOrdered (heap ++ record { owner = side; content = c } ∷ [])
appended_ordered heap side c p h =
    let news : List Owned = record { owner = side; content = c } ∷ [] in
    each_append (λ (o : Owned). Suits (heap ++ news) o.owner o.content) heap news
    (all_later heap (heap ++ news) (appended_grows heap news) heap h)
    (suits_later heap (heap ++ news) (appended_grows heap news) side c p, tt)

pub last_owner : (heap : List Owned) (side : Side) (c : Content)
    → IsOf (heap ++ record { owner = side; content = c } ∷ []) side (record { 0 = length heap })
last_owner [] side c = refl
last_owner (x ∷ xs) side c = last_owner xs side c

-- ---- plain operations

mildly_owner : (olds heap : List Owned) (j : ℕ) (side : Side) → StayFrom olds heap
    → option_map (λ (o : Owned). o.owner) (slice_get olds j) ≡ Some side
    → option_map (λ (o : Owned). o.owner) (slice_get heap j) ≡ Some side
mildly_owner [] heap j side h e = absurd (cc)
mildly_owner (o ∷ os) [] j side h e = absurd h
mildly_owner (o ∷ os) (x ∷ xs) zero side h e = ap Some h.0.0 ∙ e
mildly_owner (o ∷ os) (x ∷ xs) (suc j) side h e = mildly_owner os xs j side h.1 e

pub mildly_grows : (old heap : List Owned) → StayFrom old heap → Grows old heap
mildly_grows old heap h at side e = mildly_owner old heap at.0 side h e

suits_rest : (heap : List Owned) (side : Side) (c : Content) → Suits heap side c → Suits heap side (rest c)
suits_rest heap side (object.list xs) h = tt
suits_rest heap side (object.tuple xs) h = tt
suits_rest heap side (object.dict es) h = tt
suits_rest heap side (object.instance of fs) h = h
suits_rest heap side (object.class name declared ms) h = h
suits_rest heap side (object.function name unit block within ds) h = h
suits_rest heap side (object.method v called) h = h
suits_rest heap side (object.scope block parent vs) h = h

rest_suits : (heap : List Owned) (side : Side) (c : Content) → Suits heap side (rest c) → Suits heap side c
rest_suits heap side (object.list xs) h = tt
rest_suits heap side (object.tuple xs) h = tt
rest_suits heap side (object.dict es) h = tt
rest_suits heap side (object.instance of fs) h = h
rest_suits heap side (object.class name declared ms) h = h
rest_suits heap side (object.function name unit block within ds) h = h
rest_suits heap side (object.method v called) h = h
rest_suits heap side (object.scope block parent vs) h = h

pub suits_mild : (heap : List Owned) (side : Side) (f : Content → Content) → Mild f → (c : Content)
    → Suits heap side c → Suits heap side (f c)
suits_mild heap side f m c p = rest_suits heap side (f c)
    (subst (Suits heap side) (sym (m c)) (suits_rest heap side c p))

stays_suit : (heap : List Owned) (o new : Owned) → Stays o new
    → Suits heap o.owner o.content → Suits heap new.owner new.content
stays_suit heap o new h p =
    rest_suits heap new.owner new.content
    (subst (λ (c : Content). Suits heap new.owner c) (sym h.1)
    (suits_rest heap new.owner o.content (subst (λ (s : Side). Suits heap s o.content) (sym h.0) p)))

pub made_suits : (heap : List Owned) (side : Side) (c : Content) → IsMade c
    → Suits heap side c
made_suits heap side (object.list xs) h = tt
made_suits heap side (object.tuple xs) h = tt
made_suits heap side (object.dict es) h = tt
made_suits heap side (object.instance of fs) h = absurd h
made_suits heap side (object.class name declared ms) h = absurd h
made_suits heap side (object.function name unit block within ds) h = absurd h
made_suits heap side (object.method v called) h = absurd h
made_suits heap side (object.scope block parent vs) h = absurd h

mildly_each : (heap : List Owned) (olds news : List Owned) → StayFrom olds news
    → Each (λ (o : Owned). Suits heap o.owner o.content) olds → Each (λ (o : Owned). Suits heap o.owner o.content) news
mildly_each heap [] news h p = each_more (λ (o : Owned). IsMade o.content) (λ (o : Owned). Suits heap o.owner o.content)
    (λ o q. made_suits heap o.owner o.content q) news h
mildly_each heap (o ∷ os) [] h p = absurd h
mildly_each heap (o ∷ os) (x ∷ xs) h p = (stays_suit heap o x h.0 p.0, mildly_each heap os xs h.1 p.1)

pub mildly_ordered : (old heap : List Owned) → StayFrom old heap → AreOrdered old → AreOrdered heap
mildly_ordered old heap h p =
    mildly_each heap old heap h (all_later old heap (mildly_grows old heap h) old p)

-- ---- what is read of objects

pub owned_suits : (heap : List Owned) (at : Oid) → AreOrdered heap
    → OnSome (λ (o : Owned). Suits heap o.owner o.content) (slice_get heap at.0)
owned_suits heap at h = each_get (λ (o : Owned). Suits heap o.owner o.content) heap at.0 h

-- the object of a side at a place
pub read_suits : (heap : List Owned) (side : Side) (at : Oid) → AreOrdered heap → IsOf heap side at
    → OnSome (Suits heap side) (content_at heap at)
read_suits heap side at h p = by (slice_get heap at.0) (owned_suits heap at h) p
  where
    by : (o : Option Owned) → OnSome (λ (o : Owned). Suits heap o.owner o.content) o
        → option_map (λ (o : Owned). o.owner) o ≡ Some side
        → OnSome (Suits heap side) (option_map (λ (o : Owned). o.content) o)
    by None h e = tt
    by (Some o) h e = let f : o.owner ≡ side = cc in subst (λ (s : Side). Suits heap s o.content) f h

-- ---- what code of a side takes

same_side : (a b : Side) → a.0 ≡ b.0 → a ≡ b
same_side a b e = ap (λ (n : ℕ). record { 0 = n }) e

owned_is : (side : Side) (o : Option Owned)
    → option_map_or (λ (owner : Side). nat_eq owner.0 side.0) (option_map (λ (o : Owned). o.owner) o) false ≡ true
    → option_map (λ (o : Owned). o.owner) o ≡ Some side
owned_is side None e = absurd (cc)
owned_is side (Some o) e = ap Some (same_side o.owner side (eqb-true o.owner.0 side.0 e))

reference_held : (heap : List Owned) (side : Side) (at : Oid) → IsHeldBy heap side (taking.reference_for heap side at)
reference_held heap side at = by (taking.owns heap side at) refl
  where
    by : (b : Bool) → taking.owns heap side at ≡ b → IsHeldBy heap side (if b then value.Ref at else value.Prox at)
    by true e = λ p. owned_is side (slice_get heap at.0) e
    by false e = tt

script_held : (heap : List Owned) (side : Side) (v : Value) → IsHeldBy heap side (taking.taken_by_script heap side v)
script_held heap side (value.Rock r) = tt
script_held heap side (value.Ref at) = reference_held heap side at
script_held heap side (value.Prox at) = reference_held heap side at

pub any_held : (heap : List Owned) (side : Side) (v : Value) → side.0 ≡ 0 → IsHeldBy heap side v
any_held heap side (value.Rock r) e = tt
any_held heap side (value.Ref at) e = λ p. absurd (p e)
any_held heap side (value.Prox at) e = tt

pub taken_held : (heap : List Owned) (side : Side) (v : Value) → IsHeldBy heap side (taken heap side v)
taken_held heap side v = by (nat_eq side.0 0) refl
  where
    by : (b : Bool) → nat_eq side.0 0 ≡ b → IsHeldBy heap side (if b then v else taking.taken_by_script heap side v)
    by true e = any_held heap side v (eqb-true side.0 0 e)
    by false e = script_held heap side v

-- ---- so the objects of each script are such as its code makes them

module _ (heap : List Owned) (n : ℕ) where
  pub own_place : (side : Side) (at : Oid) → side.0 ≡ suc n → IsOf heap side at → kept.Usable (own n heap) at
  own_place side at e h = by (slice_get heap at.0) h
    where
      by : (o : Option Owned) → option_map (λ (o : Owned). o.owner) o ≡ Some side → kept.IsOwn (own n heap) o
      by None h = tt
      by (Some o) h = let f : o.owner ≡ side = cc in ap (λ (s : Side). s.0) f ∙ e

  own_held : (side : Side) (v : Value) → side.0 ≡ suc n → IsHeldBy heap side v → kept.Holds (own n heap) v
  own_held side (value.Rock r) e h = tt
  own_held side (value.Ref at) e h = own_place side at e (h (λ z. absurd (zero-not-suc (sym z ∙ e))))
    where
      zero-not-suc : 0 ≡ suc n → ⊥
      zero-not-suc e = absurd (cc)
  own_held side (value.Prox at) e h = tt

  own_slot : (side : Side) → side.0 ≡ suc n → (o : Option Value) → OnSome (IsHeldBy heap side) o
      → OnSome (kept.Holds (own n heap)) o
  own_slot side e None h = tt
  own_slot side e (Some v) h = own_held side v e h

  own_receiver : (side : Side) (v : Value) → side.0 ≡ suc n → IsReceiver heap side v → kept.Bare (own n heap) v
  own_receiver side (value.Rock r) e h = tt
  own_receiver side (value.Ref at) e h = own_place side at e h
  own_receiver side (value.Prox at) e h = absurd h

  own_callee : (side : Side) (c : Callee) → side.0 ≡ suc n → IsCallee heap side c → kept.CalleeFits (own n heap) c
  own_callee side (callee.Function at) e h = own_place side at e h
  own_callee side (callee.Native id) e h = tt

  own_fits : (side : Side) (c : Content) → side.0 ≡ suc n → Suits heap side c → kept.Fits (own n heap) c
  own_fits side (object.list xs) e h = tt
  own_fits side (object.tuple xs) e h = tt
  own_fits side (object.dict es) e h = tt
  own_fits side (object.instance of fs) e h = own_place side of e h
  own_fits side (object.class name declared ms) e h =
      each_more (λ (m : Name × Oid). IsOf heap side m.1) (λ (m : Name × Oid). kept.Usable (own n heap) m.1)
      (λ m p. own_place side m.1 e p) ms h
  own_fits side (object.function name unit block within ds) e h =
      (ap (λ (s : Side). s.0) h.0 ∙ e, own_place side within e h.1)
  own_fits side (object.method v called) e h = (own_receiver side v e h.0, own_callee side called e h.1)
  own_fits side (object.scope block parent vs) e h = (
    some_more (IsOf heap side) (kept.Usable (own n heap)) (λ at p. own_place side at e p) parent h.0,
    each_more (OnSome (IsHeldBy heap side)) (OnSome (kept.Holds (own n heap))) (own_slot side e) vs h.1,
  )

pub all_are_ordered : AllAreOrdered
all_are_ordered heap h n =
    each_more (λ (o : Owned). Suits heap o.owner o.content)
    (λ (o : Owned). o.owner.0 ≡ suc n → kept.Fits (own n heap) o.content)
    (λ o p e. own_fits heap n o.owner o.content e p) heap h
