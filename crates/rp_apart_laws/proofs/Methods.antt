-- The built-in methods leave an object to which nothing refers (Python Standard Library, Built-in Types).
use Rattle.std.proofs.Common.{ℕ, ◌+◌, ◌-◌, ◌*◌, if◌then◌else◌, List, [], ◌∷◌, ◌++◌, length, map, reverse}
use Rattle.std.proofs.Common.{encode_utf8_all, slice_get, Option, Some, None, negsuc}
use Rattle.std.specs.Prelude.{ℤ, nat_lt}
use Rattle.std.specs.List.{concat, list_all}
use Rattle.std.specs.Map.{lookup}
use Rattle.std.specs.Option.{option_and_then}
use Rattle.std.specs.Str.{drop_trailing_whitespace, skip_leading_whitespace}
use Rattle.rp_attributes.specs.BuiltIns.{counts_of, receiver_of, takes}
use Rattle.rp_attributes.specs.declared.built_ins.Counts.{Counts}
use Rattle.rp_base.specs.declared.native.NativeId.{NativeId}
use Rattle.rp_base.specs.declared.native.NativeId.TheVariants as native
use Rattle.rp_base.specs.declared.value.Oid.{Oid}
use Rattle.rp_base.specs.declared.value.Rock.{Rock}
use Rattle.rp_base.specs.declared.value.Rock.TheVariants as rock
use Rattle.rp_base.specs.declared.value.Side.{Side}
use Rattle.rp_base.specs.declared.value.Value.{Value}
use Rattle.rp_base.specs.declared.value.Value.TheVariants as value
use Rattle.rp_compare.specs.Membership.{begins}
use Rattle.rp_items.specs.Items.{from_end, place_within, without_rock}
use Rattle.rp_items.specs.Slices.{owner_of}
use Rattle.rp_methods.specs.Dicts as dicts
use Rattle.rp_methods.specs.Lists as lists
use Rattle.rp_methods.specs.Methods as methods
use Rattle.rp_methods.specs.Texts as texts
use Rattle.rp_ops.specs.Depth.{deepest}
use Rattle.rp_ops.specs.Keys.{index_number, key_named}
use Rattle.rp_ops.specs.Operand.{is_some_element, lent}
use Rattle.rp_ops.specs.Outcome as plain
use Rattle.rp_ops.specs.View.{key_rock}
use Rattle.rp_store.specs.Heap.{Owned, content_at, elements_at, entry_at, entry_of}
use Rattle.rp_store.specs.Key.{key_form, same_key}
use Rattle.rp_store.specs.Object as object
use Rattle.rp_store.specs.Object.{Content}
use Rattle.rp_store.specs.Parts as parts
use Rattle.rp_store.specs.Writers.{extended, inserted, pushed, with_elements, without_element}
use Rattle.rp_store.specs.declared.key.Key.{Key}
use Rattle.rp_fixed_laws.specs.Fixed.{Placed}
use Rattle.rp_apart_laws.specs.Apart.{Avoids, ContentAvoids, Each, HeapAvoids, IsOther, Nothing, OnSome}
use Rattle.rp_apart_laws.proofs.Lists.{each_append, each_get, each_lookup, each_made, each_map, each_reverse}
use Rattle.rp_apart_laws.proofs.Objects.{set_item}
use Rattle.rp_apart_laws.proofs.Operations.{Entry, Values, elements, lent_avoids, new_object, new_text}
use Rattle.rp_apart_laws.proofs.Plainly.{Does, KeepsApart, Leaves, There, bind, change, charge, chosen, elements_apart}
use Rattle.rp_apart_laws.proofs.Plainly.{extended_apart, found, inserted_apart, kept, kept_giving, last_other, left_added, maybe}
use Rattle.rp_apart_laws.proofs.Plainly.{possibly, pushed_apart, read_avoids, read_on, removal_apart}
use Rattle.rp_apart_laws.proofs.Plainly.{rock_removal_apart, step}
use Rattle.rp_apart_laws.proofs.Tests.{equal}

-- ---- what a heap has at a place

list_avoids : (a : Oid) (c : Content) → ContentAvoids a c → Each (Avoids a) (parts.elements c)
list_avoids a (object.list xs) p = p
list_avoids a c p = tt

elements_at_avoid : (a : Oid) (heap : List Owned) (at : Oid) → HeapAvoids a heap
    → Each (Avoids a) (elements_at heap at)
elements_at_avoid a heap at h =
    read_on (ContentAvoids a) (Each (Avoids a)) parts.elements [] (content_at heap at) (read_avoids a heap at h)
    (list_avoids a) tt

abbrev EntriesAvoid : Oid → List Entry → Type 0
EntriesAvoid a es = Each (λ e. Avoids a e.1.1) es

abbrev SecondAvoids : Oid → Rock × Value → Type 0
SecondAvoids a x = Avoids a x.1

dict_avoids : (a : Oid) (c : Content) → ContentAvoids a c → EntriesAvoid a (parts.entries c)
dict_avoids a (object.dict es) p = p
dict_avoids a c p = tt

entries_of_avoid : (a : Oid) (heap : List Owned) (at : Oid) → HeapAvoids a heap
    → EntriesAvoid a (dicts.entries_of heap at)
entries_of_avoid a heap at h =
    read_on (ContentAvoids a) (EntriesAvoid a) parts.entries [] (content_at heap at) (read_avoids a heap at h)
    (dict_avoids a) tt

entry_at_avoids : (a : Oid) (heap : List Owned) (at : Oid) (key : Key) → HeapAvoids a heap
    → OnSome (SecondAvoids a) (entry_at heap at key)
entry_at_avoids a heap at key h =
    read_on (ContentAvoids a) (OnSome (SecondAvoids a)) (λ (c : Content). lookup (same_key key) (parts.entries c)) None
    (content_at heap at) (read_avoids a heap at h)
    (λ c p. each_lookup (SecondAvoids a) (same_key key) (parts.entries c) (dict_avoids a c p)) tt

entry_of_avoids : (a : Oid) (heap : List Owned) (at : Oid) (r : Rock) → HeapAvoids a heap
    → OnSome (SecondAvoids a) (entry_of heap at r)
entry_of_avoids a heap at r h = by (key_form r)
  where
    by : (o : Option Key) → OnSome (SecondAvoids a) (option_and_then (entry_at heap at) o)
    by None = tt
    by (Some key) = entry_at_avoids a heap at key h

-- ---- lists and tuples

grows : {k : Placed} (cells : ℕ) (at : Oid) (f : Content → Content) → IsOther k.at at → KeepsApart k.at f
    → Does k (Avoids k.at) (lists.grows cells at f)
grows cells at f other keeps s h = charge cells s h (λ s h. change lists.none tt s at f other keeps h)

append : {k : Placed} (at : Oid) (vs : List Value) → IsOther k.at at → Values k vs
    → Does k (Avoids k.at) (lists.append at vs)
append at [] other p s h = kept h tt
append {k} at (x ∷ []) other p s h = grows 1 at (pushed x) other (pushed_apart k.at x p.0) s h
append at (x ∷ y ∷ vs) other p s h = kept h tt

extend : {k : Placed} (at : Oid) (vs : List Value) → IsOther k.at at → Does k (Avoids k.at) (lists.extend at vs)
extend at [] other s h = kept h tt
extend {k} at (w ∷ []) other s h =
    bind (elements w s h) (λ vs p s h. grows (length vs) at (extended vs) other (extended_apart k.at vs p) s h)
extend at (x ∷ y ∷ vs) other s h = kept h tt

insert_at : {k : Placed} (at : Oid) (i : ℤ) (x : Value) → IsOther k.at at → Avoids k.at x
    → Does k (Avoids k.at) (lists.insert_at at i x)
insert_at {k} at i x other p s h =
    let n : ℕ = length (elements_at s.store.heap at) in
    grows 1 at (inserted (lists.brought n (from_end n i)) x) other
    (inserted_apart k.at (lists.brought n (from_end n i)) x p) s h

insert : {k : Placed} (at : Oid) (vs : List Value) → IsOther k.at at → Values k vs
    → Does k (Avoids k.at) (lists.insert at vs)
insert at [] other p s h = kept h tt
insert at (x ∷ []) other p s h = kept h tt
insert at (i ∷ x ∷ []) other p s h = possibly (index_number i) (λ z. insert_at at z x other p.1.0 s h) (kept h tt)
insert at (x ∷ y ∷ z ∷ vs) other p s h = kept h tt

taken_out : {k : Placed} (at : Oid) (i : ℕ) → IsOther k.at at → Does k (Avoids k.at) (lists.taken_out at i)
taken_out {k} at i other s h =
    maybe (Avoids k.at) (slice_get (elements_at s.store.heap at) i)
    (each_get (Avoids k.at) (elements_at s.store.heap at) i (elements_at_avoid k.at s.store.heap at h.others))
    (λ v p. change v p s at (without_element i) other (removal_apart k.at i) h) (kept h tt)

pop_at : {k : Placed} (at : Oid) (i : ℤ) → IsOther k.at at → Does k (Avoids k.at) (lists.pop_at at i)
pop_at at i other s h =
    let n : ℕ = length (elements_at s.store.heap at) in
    found (place_within n (from_end n i)) s h (λ p s h. taken_out at p other s h)

pop : {k : Placed} (at : Oid) (vs : List Value) → IsOther k.at at → Does k (Avoids k.at) (lists.pop at vs)
pop at [] other s h = pop_at at (negsuc 0) other s h
pop at (i ∷ []) other s h = possibly (index_number i) (λ z. pop_at at z other s h) (kept h tt)
pop at (x ∷ y ∷ vs) other s h = kept h tt

sought : {k : Placed} (n : ℕ) (a : Value) (xs : List Value) → Does k Nothing (lists.sought n a xs)
sought n a [] s h = kept h tt
sought n a (x ∷ xs) s h =
    step s h (λ s h. bind (equal deepest a x s h) (λ b p s h. chosen b (kept_giving n tt s h) (sought (n + 1) a xs s h)))

counted : {k : Placed} (n : ℕ) (a : Value) (xs : List Value) → Does k Nothing (lists.counted n a xs)
counted n a [] s h = kept h tt
counted n a (x ∷ xs) s h =
    step s h (λ s h. bind (equal deepest a x s h) (λ b p s h. counted (if b then n + 1 else n) a xs s h))

index : {k : Placed} (at : Oid) (vs : List Value) → Does k (Avoids k.at) (lists.index at vs)
index at [] s h = kept h tt
index at (x ∷ []) s h = bind (sought 0 x (lists.held_at at s) s h) (λ n p s h. kept h tt)
index at (x ∷ y ∷ vs) s h = kept h tt

count : {k : Placed} (at : Oid) (vs : List Value) → Does k (Avoids k.at) (lists.count at vs)
count at [] s h = kept h tt
count at (x ∷ []) s h = bind (counted 0 x (lists.held_at at s) s h) (λ n p s h. kept h tt)
count at (x ∷ y ∷ vs) s h = kept h tt

remove : {k : Placed} (at : Oid) (vs : List Value) → IsOther k.at at → Does k (Avoids k.at) (lists.remove at vs)
remove at [] other s h = kept h tt
remove {k} at (x ∷ []) other s h = bind (sought 0 x (elements_at s.store.heap at) s h)
    (λ i p s h. change lists.none tt s at (without_element i) other (removal_apart k.at i) h)
remove at (x ∷ y ∷ vs) other s h = kept h tt

reversed : {k : Placed} (at : Oid) (vs : List Value) → IsOther k.at at → Does k (Avoids k.at) (lists.reversed at vs)
reversed {k} at [] other s h =
    let turned : List Value = reverse (elements_at s.store.heap at) in
    change lists.none tt s at (with_elements turned) other
    (elements_apart k.at turned
    (each_reverse (Avoids k.at) (elements_at s.store.heap at) (elements_at_avoid k.at s.store.heap at h.others))) h
reversed at (x ∷ vs) other s h = kept h tt

list_method : {k : Placed} (at : Oid) (id : NativeId) (vs : List Value) → IsOther k.at at → Values k vs
    → Does k (Avoids k.at) (lists.list_method at id vs)
list_method at native.Append vs other p s h = append at vs other p s h
list_method at native.Extend vs other p s h = extend at vs other s h
list_method at native.Insert vs other p s h = insert at vs other p s h
list_method at native.Pop vs other p s h = pop at vs other s h
list_method at native.Remove vs other p s h = remove at vs other s h
list_method at native.Index vs other p s h = index at vs s h
list_method at native.Count vs other p s h = count at vs s h
list_method at native.Reverse vs other p s h = reversed at vs other s h
list_method at id vs other p s h = kept h tt

tuple_method : {k : Placed} (at : Oid) (id : NativeId) (vs : List Value) → Does k (Avoids k.at)
    (lists.tuple_method at id vs)
tuple_method at native.Index vs s h = index at vs s h
tuple_method at native.Count vs s h = count at vs s h
tuple_method at id vs s h = kept h tt

-- ---- dicts

with_key : {k : Placed} {go : Value → plain.State → plain.Outcome Value} (vs : List Value) (s : plain.State) → There k s
    → ((v : Value) → Does k (Avoids k.at) (go v)) → Leaves k (Avoids k.at) (dicts.with_key vs s go)
with_key vs s h more = possibly (slice_get vs 0) (λ v. more v s h) (kept h tt)

default_avoids : (a : Oid) (vs : List Value) → Each (Avoids a) vs → Avoids a (dicts.default_in vs)
default_avoids a vs p =
    read_on (Avoids a) (Avoids a) (λ (d : Value). d) lists.none (slice_get vs 1) (each_get (Avoids a) vs 1 p)
    (λ d q. q) tt

get_or : {k : Placed} (at : Oid) (key d : Value) → Avoids k.at d → Does k (Avoids k.at) (dicts.get_or at key d)
get_or {k} at key d p s h = found (key_named key) s h (λ r s h.
    maybe (SecondAvoids k.at) (entry_of s.store.heap at r) (entry_of_avoids k.at s.store.heap at r h.others)
    (λ e q. kept h q) (kept h p))

get : {k : Placed} (at : Oid) (vs : List Value) → Values k vs → Does k (Avoids k.at) (dicts.get at vs)
get {k} at vs p s h =
    with_key vs s h (λ key s h. get_or at key (dicts.default_in vs) (default_avoids k.at vs p) s h)

missed : {k : Placed} (d : Option Value) (r : Rock) → OnSome (Avoids k.at) d → Does k (Avoids k.at) (dicts.missed d r)
missed (Some d) r p s h = kept h p
missed None r p s h = kept h tt

pop_or : {k : Placed} (at : Oid) (key : Value) (d : Option Value) → IsOther k.at at → OnSome (Avoids k.at) d
    → Does k (Avoids k.at) (dicts.pop_or at key d)
pop_or {k} at key d other p s h = found (key_named key) s h (λ r s h.
    maybe (SecondAvoids k.at) (entry_of s.store.heap at r) (entry_of_avoids k.at s.store.heap at r h.others)
    (λ e q. change e.1 q s at (without_rock r) other (rock_removal_apart k.at r) h) (missed d r p s h))

dict_pop : {k : Placed} (at : Oid) (vs : List Value) → IsOther k.at at → Values k vs
    → Does k (Avoids k.at) (dicts.dict_pop at vs)
dict_pop {k} at vs other p s h =
    with_key vs s h (λ key s h. pop_or at key (slice_get vs 1) other (each_get (Avoids k.at) vs 1 p) s h)

set_default : {k : Placed} (at : Oid) (key d : Value) → IsOther k.at at → Avoids k.at d
    → Does k (Avoids k.at) (dicts.set_default at key d)
set_default {k} at key d other p s h = found (key_named key) s h (λ r s h.
    maybe (SecondAvoids k.at) (entry_of s.store.heap at r) (entry_of_avoids k.at s.store.heap at r h.others)
    (λ e q. kept h q) (bind (set_item (value.Ref at) (value.Rock r) d other p s h) (λ _ q s h. kept h p)))

setdefault : {k : Placed} (at : Oid) (vs : List Value) → IsOther k.at at → Values k vs
    → Does k (Avoids k.at) (dicts.setdefault at vs)
setdefault {k} at vs other p s h =
    with_key vs s h (λ key s h. set_default at key (dicts.default_in vs) other (default_avoids k.at vs p) s h)

keys : {k : Placed} (at : Oid) (vs : List Value) → Does k (Avoids k.at) (dicts.keys at vs)
keys {k} at [] s h =
    new_object (owner_of at s) (object.list (map key_rock (dicts.entries_of s.store.heap at)))
    (each_made (Avoids k.at) key_rock (λ e. tt) (dicts.entries_of s.store.heap at)) s h
keys at (x ∷ vs) s h = kept h tt

values : {k : Placed} (at : Oid) (vs : List Value) → Does k (Avoids k.at) (dicts.values at vs)
values {k} at [] s h =
    new_object (owner_of at s) (object.list (map (λ (e : Entry). e.1.1) (dicts.entries_of s.store.heap at)))
    (each_map (λ (e : Entry). Avoids k.at e.1.1) (Avoids k.at) (λ (e : Entry). e.1.1) (λ e q. q)
    (dicts.entries_of s.store.heap at) (entries_of_avoid k.at s.store.heap at h.others)) s h
values at (x ∷ vs) s h = kept h tt

copy : {k : Placed} (at : Oid) (vs : List Value) → Does k (Avoids k.at) (dicts.copy at vs)
copy {k} at [] s h =
    new_object (owner_of at s) (object.dict (dicts.entries_of s.store.heap at))
    (entries_of_avoid k.at s.store.heap at h.others) s h
copy at (x ∷ vs) s h = kept h tt

with_added : {k : Placed} (side : Side) (c : Content) → ContentAvoids k.at c → (s : plain.State) → There k s
    → There k (dicts.with_added side c s)
with_added {k} side c p s h = left_added k s.store.heap (record { owner = side; content = c } ∷ []) (p, tt) h

next_other : {k : Placed} (s : plain.State) → There k s → Avoids k.at (dicts.next_object s)
next_other {k} s h = last_other k s.store.heap h

abbrev PairsAvoid : Oid → List (Rock × Value) → Type 0
PairsAvoid a es = Each (λ e. Avoids a e.1) es

tuples_listed : {k : Placed} (side : Side) (es : List (Rock × Value)) (made : List Value) → PairsAvoid k.at es
    → Values k made → Does k (Avoids k.at) (dicts.tuples_listed side es made)
tuples_listed side [] made p q s h = kept (with_added side (object.list made) q s h) (next_other s h)
tuples_listed {k} side (e ∷ es) made p q s h =
    tuples_listed side es (made ++ dicts.next_object s ∷ []) p.1
    (each_append (Avoids k.at) made (dicts.next_object s ∷ []) q (next_other s h, tt))
    (dicts.with_added side (object.tuple (value.Rock e.0 ∷ e.1 ∷ [])) s)
    (with_added side (object.tuple (value.Rock e.0 ∷ e.1 ∷ [])) (tt, (p.0, tt)) s h)

pairs_avoid : (a : Oid) (seen : Value → Value) → ((v : Value) → Avoids a v → Avoids a (seen v)) → (es : List Entry)
    → EntriesAvoid a es → PairsAvoid a (dicts.pairs seen es)
pairs_avoid a seen keeps [] p = tt
pairs_avoid a seen keeps (e ∷ es) p = (keeps e.1.1 p.0, pairs_avoid a seen keeps es p.1)

items : {k : Placed} (at : Oid) (vs : List Value) → Does k (Avoids k.at) (dicts.items at vs)
items {k} at [] s h =
    let es : List (Rock × Value) = dicts.pairs (λ v. v) (dicts.entries_of s.store.heap at) in
    let p : PairsAvoid k.at es = pairs_avoid k.at (λ v. v) (λ v q. q) (dicts.entries_of s.store.heap at)
    (entries_of_avoid k.at s.store.heap at h.others) in
    charge (1 + length es * 4) s h (λ t h. tuples_listed (owner_of at s) es [] p tt t h)
items at (x ∷ vs) s h = kept h tt

put_all : {k : Placed} (at : Oid) (es : List (Rock × Value)) → IsOther k.at at → PairsAvoid k.at es
    → Does k (Avoids k.at) (dicts.put_all at es)
put_all at [] other p s h = kept h tt
put_all at (e ∷ es) other p s h =
    bind (set_item (value.Ref at) (value.Rock e.0) e.1 other p.0 s h) (λ _ q s h. put_all at es other p.1 s h)

roomed : {k : Placed} {go : plain.State → plain.Outcome Value} (cells : ℕ) (s : plain.State) → There k s
    → Does k (Avoids k.at) go → Leaves k (Avoids k.at) (dicts.roomed cells s go)
roomed cells s h more = chosen (nat_lt s.store.limit (s.store.used + cells)) (kept h tt) (more s h)

content_pairs_avoid : (a : Oid) (seen : Value → Value) → ((v : Value) → Avoids a v → Avoids a (seen v)) → (c : Content)
    → ContentAvoids a c → OnSome (PairsAvoid a) (dicts.content_pairs seen c)
content_pairs_avoid a seen keeps (object.dict es) p = pairs_avoid a seen keeps es p
content_pairs_avoid a seen keeps c p = tt

pairs_given_avoid : (a : Oid) (heap : List Owned) → HeapAvoids a heap → (v : Value)
    → OnSome (PairsAvoid a) (dicts.pairs_given heap v)
pairs_given_avoid a heap h (value.Rock r) = tt
pairs_given_avoid a heap h (value.Ref at) =
    read_on (ContentAvoids a) (OnSome (PairsAvoid a)) (dicts.content_pairs (λ v. v)) None (content_at heap at)
    (read_avoids a heap at h) (content_pairs_avoid a (λ v. v) (λ v q. q)) tt
pairs_given_avoid a heap h (value.Prox at) =
    read_on (ContentAvoids a) (OnSome (PairsAvoid a)) (dicts.content_pairs lent) None (content_at heap at)
    (read_avoids a heap at h) (content_pairs_avoid a lent (lent_avoids a)) tt

update : {k : Placed} (at : Oid) (vs : List Value) → IsOther k.at at → Does k (Avoids k.at) (dicts.update at vs)
update at [] other s h = kept h tt
update {k} at (d ∷ []) other s h =
    maybe (PairsAvoid k.at) (dicts.pairs_given s.store.heap d) (pairs_given_avoid k.at s.store.heap h.others d)
    (λ es p. roomed (dicts.new_keys s.store.heap at 0 es) s h (λ s h. put_all at es other p s h)) (kept h tt)
update at (x ∷ y ∷ vs) other s h = kept h tt

dict_method : {k : Placed} (at : Oid) (id : NativeId) (vs : List Value) → IsOther k.at at → Values k vs
    → Does k (Avoids k.at) (dicts.dict_method at id vs)
dict_method at native.Get vs other p s h = get at vs p s h
dict_method at native.Keys vs other p s h = keys at vs s h
dict_method at native.Values vs other p s h = values at vs s h
dict_method at native.Pop vs other p s h = dict_pop at vs other p s h
dict_method at native.SetDefault vs other p s h = setdefault at vs other p s h
dict_method at native.Copy vs other p s h = copy at vs s h
dict_method at native.Items vs other p s h = items at vs s h
dict_method at native.Update vs other p s h = update at vs other s h
dict_method at id vs other p s h = kept h tt

-- ---- texts

on_text : {k : Placed} {go : List ℕ → plain.State → plain.Outcome Value} (v : Value) (s : plain.State) → There k s
    → ((t : List ℕ) → Does k (Avoids k.at) (go t)) → Leaves k (Avoids k.at) (texts.on_text v s go)
on_text v s h more = possibly (texts.text_in v) (λ t. more t s h) (kept h tt)

on_some : {k : Placed} {go : plain.State → plain.Outcome Value} (t : List ℕ) (s : plain.State) → There k s → Does k
    (Avoids k.at) go
    → Leaves k (Avoids k.at) (texts.on_some t s go)
on_some t s h more = chosen (is_some_element t) (more s h) (kept h tt)

-- a test of a text
startswith : {k : Placed} (t : List ℕ) (vs : List Value) → Does k (Avoids k.at) (texts.startswith t vs)
startswith t [] s h = kept h tt
startswith t (u ∷ []) s h = on_text u s h (λ u. kept_giving (texts.truth (begins u t)) tt)
startswith t (x ∷ y ∷ vs) s h = kept h tt

endswith : {k : Placed} (t : List ℕ) (vs : List Value) → Does k (Avoids k.at) (texts.endswith t vs)
endswith t [] s h = kept h tt
endswith t (u ∷ []) s h = on_text u s h (λ u. kept_giving (texts.truth (texts.ends u t)) tt)
endswith t (x ∷ y ∷ vs) s h = kept h tt

found_place : {k : Placed} (o : Option ℕ) → Does k (Avoids k.at) (plain.gives (texts.place_number o))
found_place (Some n) s h = kept h tt
found_place None s h = kept h tt

find : {k : Placed} (t : List ℕ) (vs : List Value) → Does k (Avoids k.at) (texts.find t vs)
find t [] s h = kept h tt
find t (u ∷ []) s h = on_text u s h (λ u. found_place (texts.place_in u t))
find t (x ∷ y ∷ vs) s h = kept h tt

isdigit : {k : Placed} (t : List ℕ) (vs : List Value) → Does k (Avoids k.at) (texts.isdigit t vs)
isdigit t [] s h = kept h tt
isdigit t (x ∷ vs) s h = kept h tt

strip : {k : Placed} (t : List ℕ) (vs : List Value) → Does k (Avoids k.at) (texts.strip t vs)
strip t [] s h = new_text (drop_trailing_whitespace (skip_leading_whitespace t)) s h
strip t (x ∷ vs) s h = kept h tt

joined_all : {k : Placed} (t : List ℕ) (vs : List Value) → Does k (Avoids k.at) (texts.joined_all t vs)
joined_all t vs s h = chosen (list_all texts.is_text vs) (new_text (texts.joined t (map texts.letters_of vs)) s h)
    (kept h tt)

join : {k : Placed} (t : List ℕ) (vs : List Value) → Does k (Avoids k.at) (texts.join t vs)
join t [] s h = kept h tt
join t (w ∷ []) s h = bind (elements w s h) (λ vs p s h. joined_all t vs s h)
join t (x ∷ y ∷ vs) s h = kept h tt

count_text : {k : Placed} (t u : List ℕ) → Does k (Avoids k.at) (texts.count_text t u)
count_text t u s h = on_some u s h (kept_giving (lists.number (length (texts.pieces u t) - 1)) tt)

count_in_text : {k : Placed} (t : List ℕ) (vs : List Value) → Does k (Avoids k.at) (texts.count t vs)
count_in_text t [] s h = kept h tt
count_in_text t (u ∷ []) s h = on_text u s h (λ u s h. count_text t u s h)
count_in_text t (x ∷ y ∷ vs) s h = kept h tt

replace_text : {k : Placed} (t a b : List ℕ) → Does k (Avoids k.at) (texts.replace_text t a b)
replace_text t a b s h = on_some a s h (λ s h. new_text (texts.joined b (texts.pieces a t)) s h)

replace : {k : Placed} (t : List ℕ) (vs : List Value) → Does k (Avoids k.at) (texts.replace t vs)
replace t [] s h = kept h tt
replace t (x ∷ []) s h = kept h tt
replace t (a ∷ b ∷ []) s h = on_text a s h (λ a s h. on_text b s h (λ b s h. replace_text t a b s h))
replace t (x ∷ y ∷ z ∷ vs) s h = kept h tt

texts_listed : {k : Placed} (side : Side) (ts : List (List ℕ)) → Does k (Avoids k.at) (texts.texts_listed side ts)
texts_listed {k} side ts s h = charge {go = λ s. plain.gives (dicts.next_object s)
    (dicts.with_added side (object.list (map texts.text_value ts)) s)}
    (1 + length ts + length (encode_utf8_all (concat ts))) s h
    (λ s h. kept (with_added side (object.list (map texts.text_value ts))
    (each_made (Avoids k.at) texts.text_value (λ t. tt) ts) s h) (next_other s h))

split_by : {k : Placed} (side : Side) (t u : List ℕ) → Does k (Avoids k.at) (texts.split_by side t u)
split_by side t u s h = on_some u s h (λ s h. texts_listed side (texts.pieces u t) s h)

split : {k : Placed} (side : Side) (t : List ℕ) (vs : List Value) → Does k (Avoids k.at) (texts.split side t vs)
split side t [] s h = texts_listed side (texts.words t) s h
split side t (u ∷ []) s h = on_text u s h (λ u s h. split_by side t u s h)
split side t (x ∷ y ∷ vs) s h = kept h tt

text_method : {k : Placed} (side : Side) (t : List ℕ) (id : NativeId) (vs : List Value)
    → Does k (Avoids k.at) (texts.text_method side t id vs)
text_method side t native.Join vs s h = join t vs s h
text_method side t native.Strip vs s h = strip t vs s h
text_method side t native.StartsWith vs s h = startswith t vs s h
text_method side t native.EndsWith vs s h = endswith t vs s h
text_method side t native.Find vs s h = find t vs s h
text_method side t native.IsDigit vs s h = isdigit t vs s h
text_method side t native.Count vs s h = count_in_text t vs s h
text_method side t native.Replace vs s h = replace t vs s h
text_method side t native.Split vs s h = split side t vs s h
text_method side t id vs s h = kept h tt

-- ---- by the receiver

content_method : {k : Placed} (at : Oid) (c : Content) (id : NativeId) (vs : List Value) → IsOther k.at at → Values k vs
    → Does k (Avoids k.at) (methods.content_method at c id vs)
content_method at (object.list xs) id vs other p s h = list_method at id vs other p s h
content_method at (object.tuple xs) id vs other p s h = tuple_method at id vs s h
content_method at (object.dict es) id vs other p s h = dict_method at id vs other p s h
content_method at c id vs other p s h = kept h tt

object_method : {k : Placed} (at : Oid) (id : NativeId) (vs : List Value) → IsOther k.at at → Values k vs
    → Does k (Avoids k.at) (methods.object_method at id vs)
object_method at id vs other p s h =
    possibly (content_at s.store.heap at) (λ c. content_method at c id vs other p s h) (kept h tt)

rock_method : {k : Placed} (side : Side) (r : Rock) (id : NativeId) (vs : List Value)
    → Does k (Avoids k.at) (methods.rock_method side r id vs)
rock_method side (rock.Text t) id vs s h = text_method side t id vs s h
rock_method side r id vs s h = kept h tt

method_of : {k : Placed} (side : Side) (v : Value) (id : NativeId) (vs : List Value) → Avoids k.at v → Values k vs
    → Does k (Avoids k.at) (methods.method_of side v id vs)
method_of side (value.Rock r) id vs other p s h = rock_method side r id vs s h
method_of side (value.Ref at) id vs other p s h = object_method at id vs other p s h
method_of side (value.Prox at) id vs other p s h = object_method at id vs other p s h

checked : {k : Placed} {go : plain.State → plain.Outcome Value} (c : Option Counts) (n : ℕ) (s : plain.State)
    → There k s → Does k (Avoids k.at) go → Leaves k (Avoids k.at) (methods.checked c n s go)
checked None n s h more = kept h tt
checked (Some c) n s h more = chosen (takes c n) (more s h) (kept h tt)

pub method_leaves : {k : Placed} (side : Side) (v : Value) (id : NativeId) (vs : List Value) → Avoids k.at v
    → Values k vs → Does k (Avoids k.at) (methods.method side v id vs)
method_leaves side v id vs other p s h = checked (counts_of (receiver_of s.store.heap v) id) (length vs) s h
    (λ s h. method_of side v id vs other p s h)
