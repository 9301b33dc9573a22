-- What plain operations leave of an object, by what their parts leave.
use Rattle.std.proofs.Common.{◌≡◌, refl, ap, ◌∙◌, ℕ, zero, suc, ◌+◌, Bool, true, false, if◌then◌else◌, List, [], ◌∷◌}
use Rattle.std.proofs.Common.{◌++◌, length, slice_get, Option, Some, None, Result, Ok, Err}
use Rattle.std.specs.Prelude.{nat_lt}
use Rattle.std.specs.Option.{option_map, option_map_or}
use Rattle.rp_base.specs.declared.value.Name.{Name}
use Rattle.rp_base.specs.declared.value.Oid.{Oid}
use Rattle.rp_base.specs.declared.value.Raised.{Raised}
use Rattle.rp_base.specs.declared.value.Rock.{Rock}
use Rattle.rp_base.specs.declared.value.Side.{Side}
use Rattle.rp_base.specs.declared.value.Value.{Value}
use Rattle.rp_items.specs.Items.{without_rock}
use Rattle.rp_ops.specs.Depth.{nested}
use Rattle.rp_ops.specs.Outcome as plain
use Rattle.rp_ops.specs.Outcome.{End, ends, gives, no_cell, on_answer, on_found, on_value, with_used}
use Rattle.rp_store.specs.Cost.{cost}
use Rattle.rp_store.specs.Heap.{Owned, changed_from}
use Rattle.rp_store.specs.Key.{key_form}
use Rattle.rp_store.specs.Object as object
use Rattle.rp_store.specs.Object.{Content}
use Rattle.rp_store.specs.Store.{made}
use Rattle.rp_store.specs.Writers.{extended, inserted, pushed, with_element, with_elements, with_entry, with_field}
use Rattle.rp_store.specs.Writers.{with_methods, with_rock, with_slot, without_element, without_entry, without_field}
use Rattle.rp_store.specs.declared.key.Key.{Key}
use Rattle.rp_fixed_laws.specs.Fixed.{IsAt, IsFixed, Placed}

-- ---- heaps

abbrev content_in : Option Owned → Option Content
content_in o = option_map (λ (o : Owned). o.content) o

there_before : (heap more : List Owned) (i : ℕ) (c : Content) → content_in (slice_get heap i) ≡ Some c
    → content_in (slice_get (heap ++ more) i) ≡ Some c
there_before [] more i c h = absurd (cc)
there_before (o ∷ os) more zero c h = h
there_before (o ∷ os) more (suc i) c h = there_before os more i c h

pub appended : (k : Placed) (heap more : List Owned) → IsAt k heap → IsAt k (heap ++ more)
appended k heap more h = there_before heap more k.at.0 k.content h

-- a change leaves objects that are fixed
abbrev pub Spares : (Content → Content) → Type 0
Spares change = (c : Content) → IsFixed c → change c ≡ c

there_still : (heap : List Owned) (j : ℕ) (change : Content → Content) → Spares change → (i : ℕ) (c : Content)
    → IsFixed c
    → content_in (slice_get heap i) ≡ Some c → content_in (slice_get (changed_from heap j change) i) ≡ Some c
there_still [] j change spares i c fixed h = absurd (cc)
there_still (o ∷ os) zero change spares zero c fixed h =
    let e : o.content ≡ c = cc in ap (λ (c : Content). Some (change c)) e ∙ ap Some (spares c fixed)
there_still (o ∷ os) zero change spares (suc i) c fixed h = h
there_still (o ∷ os) (suc j) change spares zero c fixed h = h
there_still (o ∷ os) (suc j) change spares (suc i) c fixed h = there_still os j change spares i c fixed h

pub changed : (k : Placed) → IsFixed k.content → (heap : List Owned) (j : ℕ) (change : Content → Content)
    → Spares change → IsAt k heap → IsAt k (changed_from heap j change)
changed k fixed heap j change spares h = there_still heap j change spares k.at.0 k.content fixed h

-- ---- writers

pub pushed_spares : (v : Value) → Spares (pushed v)
pushed_spares v (object.list xs) fixed = absurd fixed
pushed_spares v c fixed = refl

pub extended_spares : (vs : List Value) → Spares (extended vs)
extended_spares vs (object.list xs) fixed = absurd fixed
extended_spares vs c fixed = refl

pub elements_spare : (vs : List Value) → Spares (with_elements vs)
elements_spare vs (object.list xs) fixed = absurd fixed
elements_spare vs c fixed = refl

pub inserted_spares : (i : ℕ) (v : Value) → Spares (inserted i v)
inserted_spares i v (object.list xs) fixed = absurd fixed
inserted_spares i v c fixed = refl

pub element_spares : (i : ℕ) (v : Value) → Spares (with_element i v)
element_spares i v (object.list xs) fixed = absurd fixed
element_spares i v c fixed = refl

pub removal_spares : (i : ℕ) → Spares (without_element i)
removal_spares i (object.list xs) fixed = absurd fixed
removal_spares i c fixed = refl

entry_spares : (key : Key) (r : Rock) (v : Value) → Spares (with_entry key r v)
entry_spares key r v (object.dict es) fixed = absurd fixed
entry_spares key r v c fixed = refl

pub rock_spares : (r : Rock) (v : Value) → Spares (with_rock r v)
rock_spares r v c fixed = by (key_form r)
  where
    by : (o : Option Key) → option_map_or (λ (key : Key). with_entry key r v c) o c ≡ c
    by None = refl
    by (Some key) = entry_spares key r v c fixed

entry_removal_spares : (key : Key) → Spares (without_entry key)
entry_removal_spares key (object.dict es) fixed = absurd fixed
entry_removal_spares key c fixed = refl

pub rock_removal_spares : (r : Rock) → Spares (without_rock r)
rock_removal_spares r c fixed = by (key_form r)
  where
    by : (o : Option Key) → option_map_or (λ (key : Key). without_entry key c) o c ≡ c
    by None = refl
    by (Some key) = entry_removal_spares key c fixed

pub field_spares : (n : Name) (v : Value) → Spares (with_field n v)
field_spares n v (object.instance of fs) fixed = absurd fixed
field_spares n v c fixed = refl

pub field_removal_spares : (n : Name) → Spares (without_field n)
field_removal_spares n (object.instance of fs) fixed = absurd fixed
field_removal_spares n c fixed = refl

pub methods_spare : (ms : List (Name × Oid)) → Spares (with_methods ms)
methods_spare ms (object.class n declared old) fixed = absurd fixed
methods_spare ms c fixed = refl

pub slot_spares : (i : ℕ) (v : Option Value) → Spares (with_slot i v)
slot_spares i v (object.scope block parent vs) fixed = absurd fixed
slot_spares i v c fixed = refl

-- ---- plain operations

abbrev pub There : Placed → plain.State → Type 0
There k s = IsAt k s.store.heap

-- the object is there behind an operation
pub record Leaves {A : Type 0} (k : Placed) (o : plain.Outcome A) : Type 0 where
  pub there : There k o.state

abbrev pub Does : {A : Type 0} → Placed → (plain.State → plain.Outcome A) → Type 0
Does k does = (s : plain.State) → There k s → Leaves k (does s)

pub kept : {A : Type 0} {k : Placed} {o : plain.Outcome A} → There k o.state → Leaves k o
kept h = record { there = h }

-- what gives a value changes nothing
pub kept_giving : {A : Type 0} {k : Placed} (a : A) → Does k (gives a)
kept_giving a s h = kept h

pub bind : {A B : Type 0} {k : Placed} {o : plain.Outcome A} {go : A → plain.State → plain.Outcome B}
    → Leaves k o → ((a : A) → Does k (go a)) → Leaves k (on_value o go)
bind {A} {B} {k} {o} {go} h more = by o.answer
  where
    by : (answer : Result A End) → Leaves k (on_answer answer o.state go)
    by (Ok a) = more a o.state h.there
    by (Err e) = kept h.there

pub found : {A B : Type 0} {k : Placed} {go : A → plain.State → plain.Outcome B} (r : Result A Raised) (s : plain.State)
    → There k s → ((a : A) → Does k (go a)) → Leaves k (on_found r s go)
found {A} {B} {k} {go} r s h more = by r
  where
    by : (r : Result A Raised) → Leaves k (on_found r s go)
    by (Ok a) = more a s h
    by (Err e) = kept h

-- by what there may be
pub maybe : {X A : Type 0} {k : Placed} {f : X → plain.Outcome A} {d : plain.Outcome A} (x : Option X)
    → ((y : X) → Leaves k (f y)) → Leaves k d → Leaves k (option_map_or f x d)
maybe None some none = none
maybe (Some y) some none = some y

pub chosen : {A : Type 0} {k : Placed} {x y : plain.Outcome A} (b : Bool) → Leaves k x → Leaves k y
    → Leaves k (if b then x else y)
chosen true h i = h
chosen false h i = i

-- as deep as it goes
abbrev pub OnSome : {X : Type 0} → (X → Type 0) → Option X → Type 0
OnSome P None = Unit {0}
OnSome P (Some x) = P x

pub within : {X A : Type 0} {k : Placed} {go : X → plain.Outcome A} (P : X → Type 0) (x : Option X) (s : plain.State)
    → OnSome P x → There k s → ((y : X) → P y → Leaves k (go y)) → Leaves k (nested x s go)
within P None s i h more = kept h
within P (Some y) s i h more = more y i

pub step : {A : Type 0} {k : Placed} {go : plain.State → plain.Outcome A} (s : plain.State) → There k s → Does k go
    → Leaves k (plain.stepped s go)
step {A} {k} {go} s h more = by s.steps
  where
    by : (n : ℕ) → Leaves k (plain.stepped (record s { steps = n }) go)
    by zero = kept h
    by (suc n) = more (record s { steps = n }) h

pub charge : {A : Type 0} {k : Placed} {go : plain.State → plain.Outcome A} (cells : ℕ) (s : plain.State) → There k s
    → Does k go → Leaves k (plain.charged cells s go)
charge {A} {k} {go} cells s h more = by (nat_lt s.store.limit (s.store.used + cells))
  where
    by : (b : Bool) → Leaves k (if b then ends no_cell s else go (with_used s (s.store.used + cells)))
    by true = kept h
    by false = more (with_used s (s.store.used + cells)) h

abbrev next_place : plain.State → Oid
next_place s = record { 0 = length s.store.heap }

pub makes : {k : Placed} (side : Side) (content : Content) (s : plain.State) → There k s
    → Leaves k (plain.makes side content s)
makes {k} side content s h = by (nat_lt s.store.limit (s.store.used + cost content))
  where
    by : (b : Bool) → Leaves k (if b then ends no_cell s else gives (next_place s)
        (record s { store = made s.store side content }))
    by true = kept h
    by false = kept (appended k s.store.heap (record { owner = side; content = content } ∷ []) h)

pub change : {A : Type 0} {k : Placed} → IsFixed k.content → (a : A) (s : plain.State) (at : Oid)
    (f : Content → Content) → Spares f → There k s → Leaves k (gives a (plain.with_change s at f))
change {A} {k} fixed a s at f spares h = kept (changed k fixed s.store.heap at.0 f spares h)
