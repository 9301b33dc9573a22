-- What plain operations keep, by what their parts keep.
use Rattle.std.proofs.Common.{◌≡◌, refl, ℕ, zero, suc, ◌+◌, Bool, true, false, if◌then◌else◌, List, [], ◌∷◌}
use Rattle.std.proofs.Common.{length, Option, Some, None, Result, Ok, Err}
use Rattle.std.specs.Prelude.{nat_lt}
use Rattle.std.specs.Option.{option_map_or}
use Rattle.rp_base.specs.declared.value.Name.{Name}
use Rattle.rp_base.specs.declared.value.Oid.{Oid}
use Rattle.rp_base.specs.declared.value.Raised.{Raised}
use Rattle.rp_base.specs.declared.value.Rock.{Rock}
use Rattle.rp_base.specs.declared.value.Side.{Side}
use Rattle.rp_base.specs.declared.value.Value.{Value}
use Rattle.rp_items.specs.Items.{without_rock}
use Rattle.rp_ops.specs.Depth.{nested}
use Rattle.rp_ops.specs.Outcome as plain
use Rattle.rp_ops.specs.Outcome.{End, ends, gives, no_cell, on_answer, on_found, on_value, with_used}
use Rattle.rp_store.specs.Cost.{cost}
use Rattle.rp_store.specs.Key.{key_form}
use Rattle.rp_store.specs.Object as object
use Rattle.rp_store.specs.Object.{Content}
use Rattle.rp_store.specs.Store.{made}
use Rattle.rp_store.specs.Writers.{extended, inserted, pushed, with_element, with_elements, with_entry, with_field}
use Rattle.rp_store.specs.Writers.{with_rock, without_element, without_entry, without_field}
use Rattle.rp_store.specs.declared.key.Key.{Key}
use Rattle.rp_apart_laws.specs.Apart.{OnSome}
use Rattle.rp_keeper_laws.specs.PlainKeepers.{Mild, PlainKeeper, rest}

-- ---- writers

pub pushed_spares : (v : Value) → Mild (pushed v)
pushed_spares v (object.list xs) = refl
pushed_spares v c = refl

pub extended_spares : (vs : List Value) → Mild (extended vs)
extended_spares vs (object.list xs) = refl
extended_spares vs c = refl

pub elements_spare : (vs : List Value) → Mild (with_elements vs)
elements_spare vs (object.list xs) = refl
elements_spare vs c = refl

pub inserted_spares : (i : ℕ) (v : Value) → Mild (inserted i v)
inserted_spares i v (object.list xs) = refl
inserted_spares i v c = refl

pub element_spares : (i : ℕ) (v : Value) → Mild (with_element i v)
element_spares i v (object.list xs) = refl
element_spares i v c = refl

pub removal_spares : (i : ℕ) → Mild (without_element i)
removal_spares i (object.list xs) = refl
removal_spares i c = refl

entry_spares : (key : Key) (r : Rock) (v : Value) → Mild (with_entry key r v)
entry_spares key r v (object.dict es) = refl
entry_spares key r v c = refl

pub rock_spares : (r : Rock) (v : Value) → Mild (with_rock r v)
rock_spares r v c = by (key_form r)
  where
    by : (o : Option Key) → rest (option_map_or (λ (key : Key). with_entry key r v c) o c) ≡ rest c
    by None = refl
    by (Some key) = entry_spares key r v c

entry_removal_spares : (key : Key) → Mild (without_entry key)
entry_removal_spares key (object.dict es) = refl
entry_removal_spares key c = refl

pub rock_removal_spares : (r : Rock) → Mild (without_rock r)
rock_removal_spares r c = by (key_form r)
  where
    by : (o : Option Key) → rest (option_map_or (λ (key : Key). without_entry key c) o c) ≡ rest c
    by None = refl
    by (Some key) = entry_removal_spares key c

pub field_spares : (n : Name) (v : Value) → Mild (with_field n v)
field_spares n v (object.instance of fs) = refl
field_spares n v c = refl

pub field_removal_spares : (n : Name) → Mild (without_field n)
field_removal_spares n (object.instance of fs) = refl
field_removal_spares n c = refl

-- ---- plain operations

abbrev pub There : PlainKeeper → plain.State → Type 0
There k s = k.Kept s.store.heap

-- it is kept behind an operation
pub record Leaves {A : Type 0} (k : PlainKeeper) (o : plain.Outcome A) : Type 0 where
  pub there : There k o.state

abbrev pub Does : {A : Type 0} → PlainKeeper → (plain.State → plain.Outcome A) → Type 0
Does k does = (s : plain.State) → There k s → Leaves k (does s)

pub kept : {A : Type 0} {k : PlainKeeper} {o : plain.Outcome A} → There k o.state → Leaves k o
kept h = record { there = h }

-- what gives a value changes nothing
pub kept_giving : {A : Type 0} {k : PlainKeeper} (a : A) → Does k (gives a)
kept_giving a s h = kept h

pub bind : {A B : Type 0} {k : PlainKeeper} {o : plain.Outcome A} {go : A → plain.State → plain.Outcome B}
    → Leaves k o → ((a : A) → Does k (go a)) → Leaves k (on_value o go)
bind {A} {B} {k} {o} {go} h more = by o.answer
  where
    by : (answer : Result A End) → Leaves k (on_answer answer o.state go)
    by (Ok a) = more a o.state h.there
    by (Err e) = kept h.there

pub found : {A B : Type 0} {k : PlainKeeper} {go : A → plain.State → plain.Outcome B} (r : Result A Raised)
    (s : plain.State) → There k s → ((a : A) → Does k (go a)) → Leaves k (on_found r s go)
found {A} {B} {k} {go} r s h more = by r
  where
    by : (r : Result A Raised) → Leaves k (on_found r s go)
    by (Ok a) = more a s h
    by (Err e) = kept h

-- by what there may be
pub maybe : {X A : Type 0} {k : PlainKeeper} {f : X → plain.Outcome A} {d : plain.Outcome A} (x : Option X)
    → ((y : X) → Leaves k (f y)) → Leaves k d → Leaves k (option_map_or f x d)
maybe None some none = none
maybe (Some y) some none = some y

pub chosen : {A : Type 0} {k : PlainKeeper} {x y : plain.Outcome A} (b : Bool) → Leaves k x → Leaves k y
    → Leaves k (if b then x else y)
chosen true h i = h
chosen false h i = i

-- as deep as it goes
pub within : {X A : Type 0} {k : PlainKeeper} {go : X → plain.Outcome A} (P : X → Type 0) (x : Option X)
    (s : plain.State) → OnSome P x → There k s → ((y : X) → P y → Leaves k (go y)) → Leaves k (nested x s go)
within P None s i h more = kept h
within P (Some y) s i h more = more y i

pub step : {A : Type 0} {k : PlainKeeper} {go : plain.State → plain.Outcome A} (s : plain.State) → There k s → Does k go
    → Leaves k (plain.stepped s go)
step {A} {k} {go} s h more = by s.steps
  where
    by : (n : ℕ) → Leaves k (plain.stepped (record s { steps = n }) go)
    by zero = kept h
    by (suc n) = more (record s { steps = n }) h

pub charge : {A : Type 0} {k : PlainKeeper} {go : plain.State → plain.Outcome A} (cells : ℕ) (s : plain.State)
    → There k s
    → Does k go → Leaves k (plain.charged cells s go)
charge {A} {k} {go} cells s h more = by (nat_lt s.store.limit (s.store.used + cells))
  where
    by : (b : Bool) → Leaves k (if b then ends no_cell s else go (with_used s (s.store.used + cells)))
    by true = kept h
    by false = more (with_used s (s.store.used + cells)) h

abbrev next_place : plain.State → Oid
next_place s = record { 0 = length s.store.heap }

pub makes : {k : PlainKeeper} (side : Side) (content : Content) → k.Fits content → (s : plain.State) → There k s
    → Leaves k (plain.makes side content s)
makes {k} side content p s h = by (nat_lt s.store.limit (s.store.used + cost content))
  where
    by : (b : Bool) → Leaves k (if b then ends no_cell s else gives (next_place s)
        (record s { store = made s.store side content }))
    by true = kept h
    by false = kept (k.appended s.store.heap (record { owner = side; content = content } ∷ []) (p, tt) h)

pub change : {A : Type 0} {k : PlainKeeper} (at : Oid) → k.Usable at → (a : A) (s : plain.State) (f : Content → Content)
    → Mild f → There k s → Leaves k (gives a (plain.with_change s at f))
change {A} {k} at usable a s f m h =
    kept (k.changed s.store.heap at f m usable h)
