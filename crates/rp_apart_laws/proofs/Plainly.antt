-- What plain operations leave of an object to which nothing refers, by what their parts leave.
use Rattle.std.proofs.Common.{◌≡◌, refl, subst, ◌∙◌, ℕ, zero, suc, ◌+◌, Bool, true, false, if◌then◌else◌}
use Rattle.std.proofs.Common.{List, [], ◌∷◌, ◌++◌, length, slice_get, Option, Some, None, Result, Ok, Err, ◌<◌, arith}
use Rattle.std.specs.Prelude.{nat_lt}
use Rattle.std.specs.Option.{option_map, option_map_or}
use Rattle.rp_base.specs.declared.value.Name.{Name}
use Rattle.rp_base.specs.declared.value.Oid.{Oid}
use Rattle.rp_base.specs.declared.value.Raised.{Raised}
use Rattle.rp_base.specs.declared.value.Rock.{Rock}
use Rattle.rp_base.specs.declared.value.Side.{Side}
use Rattle.rp_base.specs.declared.value.Value.{Value}
use Rattle.rp_items.specs.Items.{without_rock}
use Rattle.rp_ops.specs.Depth.{nested}
use Rattle.rp_ops.specs.Outcome as plain
use Rattle.rp_ops.specs.Outcome.{End, ends, gives, no_cell, on_answer, on_found, on_value, with_used}
use Rattle.rp_store.specs.Cost.{cost}
use Rattle.rp_store.specs.Heap.{Owned, changed_at, changed_from, content_at}
use Rattle.rp_store.specs.Key.{key_form, same_key, same_name}
use Rattle.rp_store.specs.Object as object
use Rattle.rp_store.specs.Object.{Content}
use Rattle.rp_store.specs.Store.{made}
use Rattle.rp_store.specs.Writers.{extended, first_written, inserted, pushed, with_element, with_elements, with_entry}
use Rattle.rp_store.specs.Writers.{with_field, with_methods, with_rock, with_slot, without_element, without_entry}
use Rattle.rp_store.specs.Writers.{without_field}
use Rattle.rp_store.specs.declared.key.Key.{Key}
use Rattle.rp_store.proofs.CallerLemmas.{content_at-changed_other}
use Rattle.rp_fixed_laws.specs.Fixed.{Placed}
use Rattle.rp_fixed_laws.proofs.Plainly.{appended}
use Rattle.rp_apart_laws.specs.Apart.{
  Avoids,
  ContentAvoids,
  Each,
  HeapAvoids,
  IsLeft,
  IsOther,
  Nothing,
  OnSome,
  OnValue,
}
use Rattle.rp_apart_laws.proofs.Lists.{each_append, each_entry, each_get, each_insert, each_remove, each_set}
use Rattle.rp_apart_laws.proofs.Lists.{each_without}

-- ---- what is read of a heap

pub content_avoids : (a : Oid) (heap : List Owned) (i : ℕ) → HeapAvoids a heap
    → OnSome (λ (o : Owned). ContentAvoids a o.content) (slice_get heap i)
content_avoids a heap i h = each_get (λ (o : Owned). ContentAvoids a o.content) heap i h

pub read_avoids : (a : Oid) (heap : List Owned) (at : Oid) → HeapAvoids a heap
    → OnSome (ContentAvoids a) (content_at heap at)
read_avoids a heap at h = by (slice_get heap at.0) (content_avoids a heap at.0 h)
  where
    by : (o : Option Owned) → OnSome (λ (o : Owned). ContentAvoids a o.content) o
        → OnSome (ContentAvoids a) (option_map (λ (o : Owned). o.content) o)
    by None h = tt
    by (Some o) h = h

-- of what is read, whatever there is
pub read_on : {X A : Type 0} (P : X → Type 0) (Q : A → Type 0) (f : X → A) (d : A) (o : Option X) → OnSome P o
    → ((x : X) → P x → Q (f x)) → Q d → Q (option_map_or f o d)
read_on P Q f d None h some none = none
read_on P Q f d (Some x) h some none = some x h

-- ---- writers

-- a change puts nothing in that refers to the object
abbrev pub KeepsApart : Oid → (Content → Content) → Type 0
KeepsApart a change = (c : Content) → ContentAvoids a c → ContentAvoids a (change c)

pub pushed_apart : (a : Oid) (v : Value) → Avoids a v → KeepsApart a (pushed v)
pushed_apart a v p (object.list xs) h = each_append (Avoids a) xs (v ∷ []) h (p, tt)
pushed_apart a v p c h = h

pub extended_apart : (a : Oid) (vs : List Value) → Each (Avoids a) vs → KeepsApart a (extended vs)
extended_apart a vs p (object.list xs) h = each_append (Avoids a) xs vs h p
extended_apart a vs p c h = h

pub elements_apart : (a : Oid) (vs : List Value) → Each (Avoids a) vs → KeepsApart a (with_elements vs)
elements_apart a vs p (object.list xs) h = p
elements_apart a vs p c h = h

pub inserted_apart : (a : Oid) (i : ℕ) (v : Value) → Avoids a v → KeepsApart a (inserted i v)
inserted_apart a i v p (object.list xs) h = each_insert (Avoids a) xs i v h p
inserted_apart a i v p c h = h

pub element_apart : (a : Oid) (i : ℕ) (v : Value) → Avoids a v → KeepsApart a (with_element i v)
element_apart a i v p (object.list xs) h = each_set (Avoids a) xs i v h p
element_apart a i v p c h = h

pub removal_apart : (a : Oid) (i : ℕ) → KeepsApart a (without_element i)
removal_apart a i (object.list xs) h = each_remove (Avoids a) xs i h
removal_apart a i c h = h

abbrev SecondAvoids : Oid → Rock × Value → Type 0
SecondAvoids a x = Avoids a x.1

entry_apart : (a : Oid) (key : Key) (r : Rock) (v : Value) → Avoids a v → KeepsApart a (with_entry key r v)
entry_apart a key r v p (object.dict es) h =
    each_entry (SecondAvoids a) same_key es key (first_written key r es, v) h p
entry_apart a key r v p c h = h

pub rock_apart : (a : Oid) (r : Rock) (v : Value) → Avoids a v → KeepsApart a (with_rock r v)
rock_apart a r v p c h = by (key_form r)
  where
    by : (o : Option Key) → ContentAvoids a (option_map_or (λ (key : Key). with_entry key r v c) o c)
    by None = h
    by (Some key) = entry_apart a key r v p c h

entry_removal_apart : (a : Oid) (key : Key) → KeepsApart a (without_entry key)
entry_removal_apart a key (object.dict es) h = each_without (SecondAvoids a) (same_key key) es h
entry_removal_apart a key c h = h

pub rock_removal_apart : (a : Oid) (r : Rock) → KeepsApart a (without_rock r)
rock_removal_apart a r c h = by (key_form r)
  where
    by : (o : Option Key) → ContentAvoids a (option_map_or (λ (key : Key). without_entry key c) o c)
    by None = h
    by (Some key) = entry_removal_apart a key c h

pub field_apart : (a : Oid) (n : Name) (v : Value) → Avoids a v → KeepsApart a (with_field n v)
field_apart a n v p (object.instance of fs) h = (h.0, each_entry (Avoids a) same_name fs n v h.1 p)
field_apart a n v p c h = h

pub field_removal_apart : (a : Oid) (n : Name) → KeepsApart a (without_field n)
field_removal_apart a n (object.instance of fs) h = (h.0, each_without (Avoids a) (same_name n) fs h.1)
field_removal_apart a n c h = h

pub methods_apart : (a : Oid) (ms : List (Name × Oid)) → Each (λ (m : Name × Oid). IsOther a m.1) ms
    → KeepsApart a (with_methods ms)
methods_apart a ms p (object.class n declared old) h = p
methods_apart a ms p c h = h

pub slot_apart : (a : Oid) (i : ℕ) (v : Option Value) → OnSome (Avoids a) v → KeepsApart a (with_slot i v)
slot_apart a i v p (object.scope block parent vs) h = (h.0, each_set (OnSome (Avoids a)) vs i v h.1 p)
slot_apart a i v p c h = h

-- ---- heaps

pub each_changed : (a : Oid) (heap : List Owned) (i : ℕ) (change : Content → Content) → KeepsApart a change
    → HeapAvoids a heap → HeapAvoids a (changed_from heap i change)
each_changed a [] i change keeps h = tt
each_changed a (o ∷ os) zero change keeps h = (keeps o.content h.0, h.1)
each_changed a (o ∷ os) (suc i) change keeps h = (h.0, each_changed a os i change keeps h.1)

pub left_changed : (k : Placed) (heap : List Owned) (at : Oid) (change : Content → Content) → IsOther k.at at
    → KeepsApart k.at change → IsLeft k heap → IsLeft k (changed_at heap at change)
left_changed k heap at change other keeps h = record {
  there = content_at-changed_other heap at k.at change other ∙ h.there;
  others = each_changed k.at heap at.0 change keeps h.others;
}

pub left_added : (k : Placed) (heap more : List Owned) → HeapAvoids k.at more → IsLeft k heap
    → IsLeft k (heap ++ more)
left_added k heap more p h = record {
  there = appended k heap more h.there;
  others = each_append (λ (o : Owned). ContentAvoids k.at o.content) heap more h.others p;
}

none_behind : (heap : List Owned) → option_map (λ (o : Owned). o.content) (slice_get heap (length heap)) ≡ None
none_behind [] = refl
none_behind (o ∷ os) = none_behind os

-- what is put last is another object
pub last_other : (k : Placed) (heap : List Owned) → IsLeft k heap → length heap ≡ k.at.0 → ⊥
last_other k heap h e =
    let none : option_map (λ (o : Owned). o.content) (slice_get heap k.at.0) ≡ None =
    subst (λ (i : ℕ). option_map (λ (o : Owned). o.content) (slice_get heap i) ≡ None) e (none_behind heap) in
    let some : option_map (λ (o : Owned). o.content) (slice_get heap k.at.0) ≡ Some k.content = h.there in
    cc

-- the object stands before the end
pub place_below : (k : Placed) (heap : List Owned) → IsLeft k heap → k.at.0 < length heap
place_below k heap h = below heap k.at.0 h.there
  where
    below : (heap : List Owned) (i : ℕ) → option_map (λ (o : Owned). o.content) (slice_get heap i) ≡ Some k.content
        → i < length heap
    below [] i e = absurd (cc)
    below (o ∷ os) zero e = omega arith
    below (o ∷ os) (suc i) e = let less = below os i e in omega arith

-- ---- plain operations

abbrev pub There : Placed → plain.State → Type 0
There k s = IsLeft k s.store.heap

pub record Leaves {A : Type 0} (k : Placed) (P : A → Type 0) (o : plain.Outcome A) : Type 0 where
  pub there : There k o.state
  pub gives : OnValue P o.answer

abbrev pub Does : {A : Type 0} → Placed → (A → Type 0) → (plain.State → plain.Outcome A) → Type 0
Does k P does = (s : plain.State) → There k s → Leaves k P (does s)

pub kept : {A : Type 0} {k : Placed} {P : A → Type 0} {o : plain.Outcome A} → There k o.state → OnValue P o.answer
    → Leaves k P o
kept h p = record { there = h; gives = p }

-- what gives a value changes nothing
pub kept_giving : {A : Type 0} {k : Placed} {P : A → Type 0} (a : A) → P a → Does k P (gives a)
kept_giving a p s h = kept h p

-- less is said of the value
pub weaker : {A : Type 0} {k : Placed} {P Q : A → Type 0} {o : plain.Outcome A} → ((a : A) → P a → Q a)
    → Leaves k P o → Leaves k Q o
weaker {A} {k} {P} {Q} {o} more h = record { there = h.there; gives = by o.answer h.gives }
  where
    by : (r : Result A End) → OnValue P r → OnValue Q r
    by (Ok a) p = more a p
    by (Err e) p = tt

pub bind : {A B : Type 0} {k : Placed} {P : A → Type 0} {Q : B → Type 0} {o : plain.Outcome A}
    {go : A → plain.State → plain.Outcome B} → Leaves k P o → ((a : A) → P a → Does k Q (go a))
    → Leaves k Q (on_value o go)
bind {A} {B} {k} {P} {Q} {o} {go} h more = by o.answer h.gives
  where
    by : (answer : Result A End) → OnValue P answer → Leaves k Q (on_answer answer o.state go)
    by (Ok a) p = more a p o.state h.there
    by (Err e) p = kept h.there tt

pub found : {A B : Type 0} {k : Placed} {Q : B → Type 0} {go : A → plain.State → plain.Outcome B} (r : Result A Raised)
    (s : plain.State) → There k s → ((a : A) → Does k Q (go a)) → Leaves k Q (on_found r s go)
found (Ok a) s h more = more a s h
found (Err e) s h more = kept h tt

-- by what there may be, of which something is known
pub maybe : {X A : Type 0} {k : Placed} {Q : A → Type 0} {f : X → plain.Outcome A} {d : plain.Outcome A}
    (P : X → Type 0)
    (x : Option X) → OnSome P x → ((y : X) → P y → Leaves k Q (f y)) → Leaves k Q d → Leaves k Q (option_map_or f x d)
maybe P None p some none = none
maybe P (Some y) p some none = some y p

-- the same, where nothing is known
pub possibly : {X A : Type 0} {k : Placed} {Q : A → Type 0} {f : X → plain.Outcome A} {d : plain.Outcome A}
    (x : Option X)
    → ((y : X) → Leaves k Q (f y)) → Leaves k Q d → Leaves k Q (option_map_or f x d)
possibly None some none = none
possibly (Some y) some none = some y

pub chosen : {A : Type 0} {k : Placed} {P : A → Type 0} {x y : plain.Outcome A} (b : Bool) → Leaves k P x
    → Leaves k P y → Leaves k P (if b then x else y)
chosen true h i = h
chosen false h i = i

pub within : {X A : Type 0} {k : Placed} {Q : A → Type 0} {go : X → plain.Outcome A} (P : X → Type 0) (x : Option X)
    (s : plain.State) → OnSome P x → There k s → ((y : X) → P y → Leaves k Q (go y)) → Leaves k Q (nested x s go)
within P None s i h more = kept h tt
within P (Some y) s i h more = more y i

pub step : {A : Type 0} {k : Placed} {P : A → Type 0} {go : plain.State → plain.Outcome A} (s : plain.State)
    → There k s → Does k P go → Leaves k P (plain.stepped s go)
step {A} {k} {P} {go} s h more = by s.steps
  where
    by : (n : ℕ) → Leaves k P (plain.stepped (record s { steps = n }) go)
    by zero = kept h tt
    by (suc n) = more (record s { steps = n }) h

pub charge : {A : Type 0} {k : Placed} {P : A → Type 0} {go : plain.State → plain.Outcome A} (cells : ℕ)
    (s : plain.State) → There k s → Does k P go → Leaves k P (plain.charged cells s go)
charge {A} {k} {P} {go} cells s h more = by (nat_lt s.store.limit (s.store.used + cells))
  where
    by : (b : Bool) → Leaves k P (if b then ends no_cell s else go (with_used s (s.store.used + cells)))
    by true = kept h tt
    by false = more (with_used s (s.store.used + cells)) h

abbrev pub next_place : plain.State → Oid
next_place s = record { 0 = length s.store.heap }

pub makes : {k : Placed} (side : Side) (content : Content) → ContentAvoids k.at content → (s : plain.State)
    → There k s → Leaves k (IsOther k.at) (plain.makes side content s)
makes {k} side content p s h = by (nat_lt s.store.limit (s.store.used + cost content))
  where
    by : (b : Bool) → Leaves k (IsOther k.at) (if b then ends no_cell s else gives (next_place s)
        (record s { store = made s.store side content }))
    by true = kept h tt
    by false =
        kept (left_added k s.store.heap (record { owner = side; content = content } ∷ []) (p, tt) h)
        (last_other k s.store.heap h)

pub change : {A : Type 0} {k : Placed} {P : A → Type 0} (a : A) → P a → (s : plain.State) (at : Oid)
    (f : Content → Content) → IsOther k.at at → KeepsApart k.at f → There k s
    → Leaves k P (gives a (plain.with_change s at f))
change {A} {k} {P} a p s at f other keeps h = kept (left_changed k s.store.heap at f other keeps h) p
