-- What is kept of the objects that were there, as objects change and are made, and what it tells of those that the code
-- may use.
use Rattle.std.proofs.Common.{◌≡◌, refl, sym, ap, subst, ◌∙◌, ℕ, zero, suc, Bool, true, false, if◌then◌else◌, List, []}
use Rattle.std.proofs.Common.{◌∷◌}
use Rattle.std.proofs.Common.{◌++◌, length, slice_get, Option, Some, None, arith, nat_eq, eq-eqb}
use Rattle.std.proofs.lemmas.Bool.{eqb-true}
use Rattle.std.specs.Option.{option_map, option_map_or}
use Rattle.rp_base.specs.declared.value.Name.{Name}
use Rattle.rp_base.specs.declared.value.Oid.{Oid}
use Rattle.rp_base.specs.declared.value.Side.{Side}
use Rattle.rp_base.specs.declared.value.Value.{Value}
use Rattle.rp_base.specs.declared.value.Value.TheVariants as value
use Rattle.rp_proxy.specs.Taken as taking
use Rattle.rp_proxy.specs.Taken.{taken}
use Rattle.rp_store.specs.declared.object.Callee.{Callee}
use Rattle.rp_store.specs.declared.object.Callee.TheVariants as callee
use Rattle.rp_store.specs.Heap.{Owned, changed_from, content_at}
use Rattle.rp_store.specs.Object as object
use Rattle.rp_store.specs.Object.{Content}
use Rattle.rp_store.specs.Shape.{shape}
use Rattle.rp_apart_laws.proofs.Lists.{each_append, each_get}
use Rattle.rp_apart_laws.specs.Apart.{Each, OnSome}
use Rattle.rp_owner_laws.specs.Kept.{Acts, Bare, CalleeFits, Fits, Holds, IsNew, IsOwn, Keeper, Kept}
use Rattle.rp_owner_laws.specs.Kept.{StayFrom, Stays, StaysBy}
use Rattle.rp_owner_laws.specs.Kept.{Usable, old_of, own, shapes}
use Rattle.rp_keeper_laws.specs.PlainKeepers.{AllFit, Mild, PlainKeeper, rest}

-- ---- lists

pub each_any : {A : Type 0} (P : A → Type 0) → ((x : A) → P x) → (xs : List A) → Each P xs
each_any P f [] = tt
each_any P f (x ∷ xs) = (f x, each_any P f xs)

pub some_any : {A : Type 0} (P : A → Type 0) → ((x : A) → P x) → (o : Option A) → OnSome P o
some_any P f None = tt
some_any P f (Some x) = f x

-- ---- of what keeps shapes alone, everything holds

pub any_value : (old : List Owned) (v : Value) → Holds (shapes old) v
any_value old (value.Rock r) = tt
any_value old (value.Ref at) = tt
any_value old (value.Prox at) = tt

pub any_bare : (old : List Owned) (v : Value) → Bare (shapes old) v
any_bare old (value.Rock r) = tt
any_bare old (value.Ref at) = tt
any_bare old (value.Prox at) = tt

any_callee : (old : List Owned) (c : Callee) → CalleeFits (shapes old) c
any_callee old (callee.Function at) = tt
any_callee old (callee.Native id) = tt

any_fits : (old : List Owned) (c : Content) → Fits (shapes old) c
any_fits old (object.list xs) = tt
any_fits old (object.tuple xs) = tt
any_fits old (object.dict es) = tt
any_fits old (object.instance of fs) = tt
any_fits old (object.class name declared ms) = each_any (λ (m : Name × Oid). Usable (shapes old) m.1) (λ m. tt) ms
any_fits old (object.function name side block within ds) = (tt, tt)
any_fits old (object.method v called) = (any_bare old v, any_callee old called)
any_fits old (object.scope block parent vs) = (
  some_any (Usable (shapes old)) (λ at. tt) parent,
  each_any (OnSome (Holds (shapes old))) (some_any (Holds (shapes old)) (any_value old)) vs,
)

-- ---- what a change leaves of an object

abbrev pub Spares : Keeper → (Content → Content) → Type 0
Spares (shapes old) f = (c : Content) → shape (f c) ≡ shape c
Spares (own n old) f = (c : Content) → Fits (own n old) c → Fits (own n old) (f c)

shape_rest : (c : Content) → shape c ≡ shape (rest c)
shape_rest (object.list xs) = refl
shape_rest (object.tuple xs) = refl
shape_rest (object.dict es) = refl
shape_rest (object.instance of fs) = refl
shape_rest (object.class name declared ms) = refl
shape_rest (object.function name side block within ds) = refl
shape_rest (object.method v called) = refl
shape_rest (object.scope block parent vs) = refl

fits_rest : (k : Keeper) (c : Content) → Fits k c → Fits k (rest c)
fits_rest k (object.list xs) h = tt
fits_rest k (object.tuple xs) h = tt
fits_rest k (object.dict es) h = tt
fits_rest k (object.instance of fs) h = h
fits_rest k (object.class name declared ms) h = h
fits_rest k (object.function name side block within ds) h = h
fits_rest k (object.method v called) h = h
fits_rest k (object.scope block parent vs) h = h

rest_fits : (k : Keeper) (c : Content) → Fits k (rest c) → Fits k c
rest_fits k (object.list xs) h = tt
rest_fits k (object.tuple xs) h = tt
rest_fits k (object.dict es) h = tt
rest_fits k (object.instance of fs) h = h
rest_fits k (object.class name declared ms) h = h
rest_fits k (object.function name side block within ds) h = h
rest_fits k (object.method v called) h = h
rest_fits k (object.scope block parent vs) h = h

pub fits_mild : (k : Keeper) (f : Content → Content) → Mild f → (c : Content) → Fits k c → Fits k (f c)
fits_mild k f m c h = rest_fits k (f c) (subst (Fits k) (sym (m c)) (fits_rest k c h))

pub mild : (k : Keeper) (f : Content → Content) → Mild f → Spares k f
mild (shapes old) f m = λ c. shape_rest (f c) ∙ ap shape (m c) ∙ sym (shape_rest c)
mild (own n old) f m = λ c h. fits_mild (own n old) f m c h

-- ---- objects that change

abbrev owned_as : Side → Content → Owned
owned_as side content = record { owner = side; content = content }

abbrev with_content : Owned → (Content → Content) → Owned
with_content o f = record { owner = o.owner; content = f o.content }

stays_by_changed : (n : ℕ) (old : List Owned) (b : Bool) (o new : Owned) (f : Content → Content) → Spares (own n old) f
    → b ≡ true → StaysBy (own n old) b o new → StaysBy (own n old) b o (with_content new f)
stays_by_changed n old true o new f m e h = (h.0, m new.content h.1)
stays_by_changed n old false o new f m e h = absurd (cc)

stays_changed : (k : Keeper) (o new : Owned) (f : Content → Content) → Spares k f → IsOwn k (Some o) → Stays k o new
    → Stays k o (with_content new f)
stays_changed (shapes old) o new f m p h =
    ap (owned_as new.owner) (m new.content) ∙ h
stays_changed (own n old) o new f m p h =
    stays_by_changed n old (nat_eq o.owner.0 (suc n)) o new f m (eq-eqb o.owner.0 (suc n) p) h

new_changed : (k : Keeper) (new : Owned) (f : Content → Content) → Spares k f → IsNew k new
    → IsNew k (with_content new f)
new_changed (shapes old) new f m h = tt
new_changed (own n old) new f m h = m new.content h

each_changed : (k : Keeper) (heap : List Owned) (i : ℕ) (f : Content → Content) → Spares k f → Each (IsNew k) heap
    → Each (IsNew k) (changed_from heap i f)
each_changed k [] i f m h = tt
each_changed k (x ∷ xs) zero f m h = (new_changed k x f m h.0, h.1)
each_changed k (x ∷ xs) (suc i) f m h = (h.0, each_changed k xs i f m h.1)

pub changed : (k : Keeper) (olds heap : List Owned) (i : ℕ) (f : Content → Content) → Spares k f
    → IsOwn k (slice_get olds i) → StayFrom k olds heap → StayFrom k olds (changed_from heap i f)
changed k [] heap i f m p h = each_changed k heap i f m h
changed k (o ∷ os) [] i f m p h = absurd h
changed k (o ∷ os) (x ∷ xs) zero f m p h = (stays_changed k o x f m p h.0, h.1)
changed k (o ∷ os) (x ∷ xs) (suc i) f m p h = (h.0, changed k os xs i f m p h.1)

-- ---- objects that are made

is_new : (k : Keeper) (new : Owned) → Fits k new.content → IsNew k new
is_new (shapes old) new h = tt
is_new (own n old) new h = h

all_new : (k : Keeper) (news : List Owned) → AllFit (Fits k) news → Each (IsNew k) news
all_new k [] p = tt
all_new k (x ∷ xs) p = (is_new k x p.0, all_new k xs p.1)

appended_from : (k : Keeper) (olds heap news : List Owned) → AllFit (Fits k) news → StayFrom k olds heap
    → StayFrom k olds (heap ++ news)
appended_from k [] heap news p h = each_append (IsNew k) heap news h (all_new k news p)
appended_from k (o ∷ os) [] news p h = absurd h
appended_from k (o ∷ os) (x ∷ xs) news p h = (h.0, appended_from k os xs news p h.1)

pub appended : (k : Keeper) (heap news : List Owned) → AllFit (Fits k) news → Kept k heap → Kept k (heap ++ news)
appended k heap news p h = appended_from k (old_of k) heap news p h

-- so plain operations keep it
abbrev pub plain_keeper : Keeper → PlainKeeper
plain_keeper k = record {
  Kept = λ heap. Kept k heap;
  Usable = λ at. Usable k at;
  Fits = λ c. Fits k c;
  list = λ xs. tt;
  tuple = λ xs. tt;
  dict = λ es. tt;
  changed = λ heap at f m usable h. changed k (old_of k) heap at.0 f (mild k f m) usable h;
  appended = λ heap news p h. appended k heap news p h;
}

next_from : (n : ℕ) (old olds heap : List Owned) → StayFrom (own n old) olds heap
    → IsOwn (own n old) (slice_get olds (length heap))
next_from n old [] heap h = tt
next_from n old (o ∷ os) [] h = absurd h
next_from n old (o ∷ os) (x ∷ xs) h = next_from n old os xs h.1

-- the place of the next object
pub next_usable : (k : Keeper) (heap : List Owned) → Kept k heap → Usable k (record { 0 = length heap })
next_usable (shapes old) heap h = tt
next_usable (own n old) heap h = next_from n old old heap h

-- ---- what is read of objects

abbrev pub OwnedFits : Keeper → Owned → Type 0
OwnedFits k o = Fits k o.content

fits_by : (n : ℕ) (old : List Owned) (b : Bool) (o new : Owned) → b ≡ true → StaysBy (own n old) b o new
    → Fits (own n old) new.content
fits_by n old true o new e h = h.1
fits_by n old false o new e h = absurd (cc)

fits_from : (n : ℕ) (old olds heap : List Owned) (i : ℕ) → StayFrom (own n old) olds heap
    → IsOwn (own n old) (slice_get olds i) → OnSome (OwnedFits (own n old)) (slice_get heap i)
fits_from n old [] heap i h p = each_get (OwnedFits (own n old)) heap i h
fits_from n old (o ∷ os) [] i h p = absurd h
fits_from n old (o ∷ os) (x ∷ xs) zero h p =
    fits_by n old (nat_eq o.owner.0 (suc n)) o x (eq-eqb o.owner.0 (suc n) p) h.0
fits_from n old (o ∷ os) (x ∷ xs) (suc i) h p = fits_from n old os xs i h.1 p

pub owned_fits : (k : Keeper) (heap : List Owned) (at : Oid) → Kept k heap → Usable k at
    → OnSome (OwnedFits k) (slice_get heap at.0)
owned_fits (shapes old) heap at h p =
    some_any (OwnedFits (shapes old)) (λ o. any_fits old o.content) (slice_get heap at.0)
owned_fits (own n old) heap at h p = fits_from n old old heap at.0 h p

pub read_fits : (k : Keeper) (heap : List Owned) (at : Oid) → Kept k heap → Usable k at
    → OnSome (Fits k) (content_at heap at)
read_fits k heap at h p = by (slice_get heap at.0) (owned_fits k heap at h p)
  where
    by : (o : Option Owned) → OnSome (OwnedFits k) o → OnSome (Fits k) (option_map (λ (o : Owned). o.content) o)
    by None h = h
    by (Some o) h = h

-- ---- what code of a side takes

abbrev owned_by : Side → Option Owned → Bool
owned_by side o =
    option_map_or (λ (owner : Side). nat_eq owner.0 side.0) (option_map (λ (o : Owned). o.owner) o) false

own_by : (n : ℕ) (old : List Owned) (b : Bool) (o new : Owned) → nat_eq o.owner.0 (suc n) ≡ b
    → StaysBy (own n old) b o new → new.owner.0 ≡ suc n → o.owner.0 ≡ suc n
own_by n old true o new e h p = eqb-true o.owner.0 (suc n) e
own_by n old false o new e h p = sym (ap (λ (o : Owned). o.owner.0) h) ∙ p

own_from : (n : ℕ) (old olds heap : List Owned) (side : Side) (i : ℕ) → side.0 ≡ suc n
    → StayFrom (own n old) olds heap → owned_by side (slice_get heap i) ≡ true
    → IsOwn (own n old) (slice_get olds i)
own_from n old [] heap side i a h e = tt
own_from n old (o ∷ os) [] side i a h e = absurd h
own_from n old (o ∷ os) (x ∷ xs) side zero a h e =
    own_by n old (nat_eq o.owner.0 (suc n)) o x refl h.0 (eqb-true x.owner.0 side.0 e ∙ a)
own_from n old (o ∷ os) (x ∷ xs) side (suc i) a h e = own_from n old os xs side i a h.1 e

reference_held : (n : ℕ) (old heap : List Owned) (side : Side) (at : Oid) → side.0 ≡ suc n → Kept (own n old) heap
    → Holds (own n old) (taking.reference_for heap side at)
reference_held n old heap side at a h = by (taking.owns heap side at) refl
  where
    by : (b : Bool) → taking.owns heap side at ≡ b
        → Holds (own n old) (if b then value.Ref at else value.Prox at)
    by true e = own_from n old old heap side at.0 a h e
    by false e = tt

script_held : (n : ℕ) (old heap : List Owned) (side : Side) (v : Value) → side.0 ≡ suc n → Kept (own n old) heap
    → Holds (own n old) (taking.taken_by_script heap side v)
script_held n old heap side (value.Rock r) a h = tt
script_held n old heap side (value.Ref at) a h = reference_held n old heap side at a h
script_held n old heap side (value.Prox at) a h = reference_held n old heap side at a h

pub taken_held : (k : Keeper) (heap : List Owned) (side : Side) (v : Value) → Acts k side → Kept k heap
    → Holds k (taken heap side v)
taken_held (shapes old) heap side v a h = any_value old (taken heap side v)
taken_held (own n old) heap side v a h = by (nat_eq side.0 0) refl
  where
    by : (b : Bool) → nat_eq side.0 0 ≡ b
        → Holds (own n old) (if b then v else taking.taken_by_script heap side v)
    by true e = let z : side.0 ≡ 0 = eqb-true side.0 0 e in let i : side.0 ≡ suc n = a in absurd (omega arith)
    by false e = script_held n old heap side v a h
