-- The built-in methods keep what is kept of objects (Python Standard Library, Built-in Types).
use Rattle.std.proofs.Common.{ℕ, ◌+◌, ◌-◌, ◌*◌, if◌then◌else◌, List, [], ◌∷◌, ◌++◌, length, map, reverse}
use Rattle.std.proofs.Common.{encode_utf8_all, slice_get, Option, Some, None, negsuc}
use Rattle.std.specs.Prelude.{ℤ, nat_lt}
use Rattle.std.specs.List.{concat, list_all}
use Rattle.std.specs.Str.{drop_trailing_whitespace, skip_leading_whitespace}
use Rattle.rp_attributes.specs.BuiltIns.{counts_of, receiver_of, takes}
use Rattle.rp_attributes.specs.declared.built_ins.Counts.{Counts}
use Rattle.rp_base.specs.declared.native.NativeId.{NativeId}
use Rattle.rp_base.specs.declared.native.NativeId.TheVariants as native
use Rattle.rp_base.specs.declared.value.Oid.{Oid}
use Rattle.rp_base.specs.declared.value.Rock.{Rock}
use Rattle.rp_base.specs.declared.value.Rock.TheVariants as rock
use Rattle.rp_base.specs.declared.value.Side.{Side}
use Rattle.rp_base.specs.declared.value.Value.{Value}
use Rattle.rp_base.specs.declared.value.Value.TheVariants as value
use Rattle.rp_compare.specs.Membership.{begins}
use Rattle.rp_items.specs.Items.{from_end, place_within, without_rock}
use Rattle.rp_items.specs.Slices.{owner_of}
use Rattle.rp_methods.specs.Dicts as dicts
use Rattle.rp_methods.specs.Lists as lists
use Rattle.rp_methods.specs.Methods as methods
use Rattle.rp_methods.specs.Texts as texts
use Rattle.rp_ops.specs.Depth.{deepest}
use Rattle.rp_ops.specs.Keys.{index_number, key_named}
use Rattle.rp_ops.specs.Operand.{is_some_element}
use Rattle.rp_ops.specs.Outcome as plain
use Rattle.rp_ops.specs.View.{key_rock}
use Rattle.rp_store.specs.Heap.{content_at, elements_at, entry_of}
use Rattle.rp_store.specs.Object as object
use Rattle.rp_store.specs.Object.{Content}
use Rattle.rp_store.specs.Writers.{extended, inserted, pushed, with_elements, without_element}
use Rattle.rp_keeper_laws.specs.PlainKeepers.{Bare, Mild, PlainKeeper}
use Rattle.rp_keeper_laws.proofs.Plainly.{Does, Leaves, There, bind, change, charge, chosen}
use Rattle.rp_keeper_laws.proofs.Plainly.{elements_spare, extended_spares, found, inserted_spares, kept, kept_giving}
use Rattle.rp_keeper_laws.proofs.Plainly.{maybe}
use Rattle.rp_keeper_laws.proofs.Plainly.{pushed_spares, removal_spares, rock_removal_spares, step}
use Rattle.rp_keeper_laws.proofs.Operations.{Entry, elements, equal, new_dict, new_list, new_text}
use Rattle.rp_keeper_laws.proofs.Objects.{set_item}

-- ---- lists and tuples

grows : {k : PlainKeeper} → (cells : ℕ) (at : Oid) (f : Content → Content) → Mild f → k.Usable at → Does k
    (lists.grows cells at f)
grows cells at f spares usable s h = charge cells s h (λ s h. change at usable lists.none s f spares h)

append : {k : PlainKeeper} → (at : Oid) (vs : List Value) → k.Usable at → Does k (lists.append at vs)
append at [] usable s h = kept h
append at (x ∷ []) usable s h = grows 1 at (pushed x) (pushed_spares x) usable s h
append at (x ∷ y ∷ vs) usable s h = kept h

extend : {k : PlainKeeper} → (at : Oid) (vs : List Value) → k.Usable at → Does k (lists.extend at vs)
extend at [] usable s h = kept h
extend at (w ∷ []) usable s h =
    bind (elements w s h) (λ vs s h. grows (length vs) at (extended vs) (extended_spares vs) usable s h)
extend at (x ∷ y ∷ vs) usable s h = kept h

insert_at : {k : PlainKeeper} → (at : Oid) (i : ℤ) (x : Value) → k.Usable at → Does k (lists.insert_at at i x)
insert_at at i x usable s h =
    let n : ℕ = length (elements_at s.store.heap at) in
    grows 1 at (inserted (lists.brought n (from_end n i)) x)
    (inserted_spares (lists.brought n (from_end n i)) x) usable s h

insert : {k : PlainKeeper} → (at : Oid) (vs : List Value) → k.Usable at → Does k (lists.insert at vs)
insert at [] usable s h = kept h
insert at (x ∷ []) usable s h = kept h
insert at (i ∷ x ∷ []) usable s h = maybe (index_number i) (λ z. insert_at at z x usable s h) (kept h)
insert at (x ∷ y ∷ z ∷ vs) usable s h = kept h

taken_out : {k : PlainKeeper} → (at : Oid) (p : ℕ) → k.Usable at → Does k (lists.taken_out at p)
taken_out at p usable s h = maybe (slice_get (elements_at s.store.heap at) p)
    (λ v. change at usable v s (without_element p) (removal_spares p) h) (kept h)

pop_at : {k : PlainKeeper} → (at : Oid) (i : ℤ) → k.Usable at → Does k (lists.pop_at at i)
pop_at at i usable s h =
    let n : ℕ = length (elements_at s.store.heap at) in
    found (place_within n (from_end n i)) s h (λ p s h. taken_out at p usable s h)

pop : {k : PlainKeeper} → (at : Oid) (vs : List Value) → k.Usable at → Does k (lists.pop at vs)
pop at [] usable s h = pop_at at (negsuc 0) usable s h
pop at (i ∷ []) usable s h = maybe (index_number i) (λ z. pop_at at z usable s h) (kept h)
pop at (x ∷ y ∷ vs) usable s h = kept h

sought : {k : PlainKeeper} (n : ℕ) (a : Value) (xs : List Value) → Does k (lists.sought n a xs)
sought n a [] s h = kept h
sought n a (x ∷ xs) s h =
    step s h (λ s h. bind (equal deepest a x s h) (λ b s h. chosen b (kept_giving n s h) (sought (n + 1) a xs s h)))

counted : {k : PlainKeeper} (n : ℕ) (a : Value) (xs : List Value) → Does k (lists.counted n a xs)
counted n a [] s h = kept h
counted n a (x ∷ xs) s h =
    step s h (λ s h. bind (equal deepest a x s h) (λ b s h. counted (if b then n + 1 else n) a xs s h))

index : {k : PlainKeeper} (at : Oid) (vs : List Value) → Does k (lists.index at vs)
index at [] s h = kept h
index at (x ∷ []) s h = bind (sought 0 x (lists.held_at at s) s h) (λ n s h. kept h)
index at (x ∷ y ∷ vs) s h = kept h

count : {k : PlainKeeper} (at : Oid) (vs : List Value) → Does k (lists.count at vs)
count at [] s h = kept h
count at (x ∷ []) s h = bind (counted 0 x (lists.held_at at s) s h) (λ n s h. kept h)
count at (x ∷ y ∷ vs) s h = kept h

remove : {k : PlainKeeper} → (at : Oid) (vs : List Value) → k.Usable at → Does k (lists.remove at vs)
remove at [] usable s h = kept h
remove at (x ∷ []) usable s h = bind (sought 0 x (elements_at s.store.heap at) s h)
    (λ p s h. change at usable lists.none s (without_element p) (removal_spares p) h)
remove at (x ∷ y ∷ vs) usable s h = kept h

reversed : {k : PlainKeeper} → (at : Oid) (vs : List Value) → k.Usable at → Does k (lists.reversed at vs)
reversed at [] usable s h =
    let turned : List Value = reverse (elements_at s.store.heap at) in
    change at usable lists.none s (with_elements turned) (elements_spare turned) h
reversed at (x ∷ vs) usable s h = kept h

list_method : {k : PlainKeeper} → (at : Oid) (id : NativeId) (vs : List Value) → k.Usable at → Does k
    (lists.list_method at id vs)
list_method at native.Append vs usable s h = append at vs usable s h
list_method at native.Extend vs usable s h = extend at vs usable s h
list_method at native.Insert vs usable s h = insert at vs usable s h
list_method at native.Pop vs usable s h = pop at vs usable s h
list_method at native.Remove vs usable s h = remove at vs usable s h
list_method at native.Index vs usable s h = index at vs s h
list_method at native.Count vs usable s h = count at vs s h
list_method at native.Reverse vs usable s h = reversed at vs usable s h
list_method at id vs usable s h = kept h

tuple_method : {k : PlainKeeper} (at : Oid) (id : NativeId) (vs : List Value) → Does k (lists.tuple_method at id vs)
tuple_method at native.Index vs s h = index at vs s h
tuple_method at native.Count vs s h = count at vs s h
tuple_method at id vs s h = kept h

-- ---- dicts

with_key : {k : PlainKeeper} {go : Value → plain.State → plain.Outcome Value} (vs : List Value) (s : plain.State)
    → There k s
    → ((v : Value) → Does k (go v)) → Leaves k (dicts.with_key vs s go)
with_key vs s h more = maybe (slice_get vs 0) (λ v. more v s h) (kept h)

get_or : {k : PlainKeeper} (at : Oid) (key d : Value) → Does k (dicts.get_or at key d)
get_or at key d s h =
    found (key_named key) s h (λ r s h. maybe (entry_of s.store.heap at r) (λ e. kept h) (kept h))

get : {k : PlainKeeper} (at : Oid) (vs : List Value) → Does k (dicts.get at vs)
get at vs s h = with_key vs s h (λ key s h. get_or at key (dicts.default_in vs) s h)

missed : {k : PlainKeeper} (d : Option Value) (r : Rock) → Does k (dicts.missed d r)
missed (Some d) r s h = kept h
missed None r s h = kept h

pop_or : {k : PlainKeeper} → (at : Oid) (key : Value) (d : Option Value) → k.Usable at → Does k (dicts.pop_or at key d)
pop_or at key d usable s h = found (key_named key) s h (λ r s h. maybe (entry_of s.store.heap at r)
    (λ e. change at usable e.1 s (without_rock r) (rock_removal_spares r) h) (missed d r s h))

dict_pop : {k : PlainKeeper} → (at : Oid) (vs : List Value) → k.Usable at → Does k (dicts.dict_pop at vs)
dict_pop at vs usable s h = with_key vs s h (λ key s h. pop_or at key (slice_get vs 1) usable s h)

set_default : {k : PlainKeeper} → (at : Oid) (key d : Value) → k.Usable at → Does k (dicts.set_default at key d)
set_default at key d usable s h = found (key_named key) s h (λ r s h. maybe (entry_of s.store.heap at r) (λ e. kept h)
    (bind (set_item (value.Ref at) (value.Rock r) d usable s h) (λ _ s h. kept h)))

setdefault : {k : PlainKeeper} → (at : Oid) (vs : List Value) → k.Usable at → Does k (dicts.setdefault at vs)
setdefault at vs usable s h = with_key vs s h (λ key s h. set_default at key (dicts.default_in vs) usable s h)

keys : {k : PlainKeeper} (at : Oid) (vs : List Value) → Does k (dicts.keys at vs)
keys at [] s h = new_list (owner_of at s) (map key_rock (dicts.entries_of s.store.heap at)) s h
keys at (x ∷ vs) s h = kept h

values : {k : PlainKeeper} (at : Oid) (vs : List Value) → Does k (dicts.values at vs)
values at [] s h =
    new_list (owner_of at s) (map (λ (e : Entry). e.1.1) (dicts.entries_of s.store.heap at)) s h
values at (x ∷ vs) s h = kept h

copy : {k : PlainKeeper} (at : Oid) (vs : List Value) → Does k (dicts.copy at vs)
copy at [] s h = new_dict (owner_of at s) (dicts.entries_of s.store.heap at) s h
copy at (x ∷ vs) s h = kept h

with_added : (k : PlainKeeper) (side : Side) (c : Content) → k.Fits c → (s : plain.State) → There k s
    → There k (dicts.with_added side c s)
with_added k side c p s h = k.appended s.store.heap (record { owner = side; content = c } ∷ []) (p, tt) h

tuples_listed : {k : PlainKeeper} (side : Side) (es : List (Rock × Value)) (made : List Value)
    → Does k (dicts.tuples_listed side es made)
tuples_listed {k} side [] made s h = kept (with_added k side (object.list made) (k.list made) s h)
tuples_listed {k} side (e ∷ es) made s h =
    tuples_listed side es (made ++ dicts.next_object s ∷ [])
    (dicts.with_added side (object.tuple (value.Rock e.0 ∷ e.1 ∷ [])) s)
    (with_added k side (object.tuple (value.Rock e.0 ∷ e.1 ∷ [])) (k.tuple _) s h)

items : {k : PlainKeeper} (at : Oid) (vs : List Value) → Does k (dicts.items at vs)
items at [] s h =
    let es : List (Rock × Value) = dicts.pairs (λ v. v) (dicts.entries_of s.store.heap at) in
    charge (1 + length es * 4) s h (λ t h. tuples_listed (owner_of at s) es [] t h)
items at (x ∷ vs) s h = kept h

put_all : {k : PlainKeeper} → (at : Oid) (es : List (Rock × Value)) → k.Usable at → Does k (dicts.put_all at es)
put_all at [] usable s h = kept h
put_all at (e ∷ es) usable s h = bind (set_item (value.Ref at) (value.Rock e.0) e.1 usable s h)
    (λ _ s h. put_all at es usable s h)

roomed : {k : PlainKeeper} {go : plain.State → plain.Outcome Value} (cells : ℕ) (s : plain.State) → There k s
    → Does k go
    → Leaves k (dicts.roomed cells s go)
roomed cells s h more = chosen (nat_lt s.store.limit (s.store.used + cells)) (kept h) (more s h)

update : {k : PlainKeeper} → (at : Oid) (vs : List Value) → k.Usable at → Does k (dicts.update at vs)
update at [] usable s h = kept h
update at (d ∷ []) usable s h = maybe (dicts.pairs_given s.store.heap d)
    (λ es. roomed (dicts.new_keys s.store.heap at 0 es) s h (λ s h. put_all at es usable s h)) (kept h)
update at (x ∷ y ∷ vs) usable s h = kept h

dict_method : {k : PlainKeeper} → (at : Oid) (id : NativeId) (vs : List Value) → k.Usable at → Does k
    (dicts.dict_method at id vs)
dict_method at native.Get vs usable s h = get at vs s h
dict_method at native.Keys vs usable s h = keys at vs s h
dict_method at native.Values vs usable s h = values at vs s h
dict_method at native.Pop vs usable s h = dict_pop at vs usable s h
dict_method at native.SetDefault vs usable s h = setdefault at vs usable s h
dict_method at native.Copy vs usable s h = copy at vs s h
dict_method at native.Items vs usable s h = items at vs s h
dict_method at native.Update vs usable s h = update at vs usable s h
dict_method at id vs usable s h = kept h

-- ---- texts

on_text : {k : PlainKeeper} {go : List ℕ → plain.State → plain.Outcome Value} (v : Value) (s : plain.State) → There k s
    → ((t : List ℕ) → Does k (go t)) → Leaves k (texts.on_text v s go)
on_text v s h more = maybe (texts.text_in v) (λ t. more t s h) (kept h)

on_some : {k : PlainKeeper} {go : plain.State → plain.Outcome Value} (t : List ℕ) (s : plain.State) → There k s
    → Does k go
    → Leaves k (texts.on_some t s go)
on_some t s h more = chosen (is_some_element t) (more s h) (kept h)

-- a test of a text
startswith : {k : PlainKeeper} (t : List ℕ) (vs : List Value) → Does k (texts.startswith t vs)
startswith t [] s h = kept h
startswith t (u ∷ []) s h = on_text u s h (λ u. kept_giving (texts.truth (begins u t)))
startswith t (x ∷ y ∷ vs) s h = kept h

endswith : {k : PlainKeeper} (t : List ℕ) (vs : List Value) → Does k (texts.endswith t vs)
endswith t [] s h = kept h
endswith t (u ∷ []) s h = on_text u s h (λ u. kept_giving (texts.truth (texts.ends u t)))
endswith t (x ∷ y ∷ vs) s h = kept h

find : {k : PlainKeeper} (t : List ℕ) (vs : List Value) → Does k (texts.find t vs)
find t [] s h = kept h
find t (u ∷ []) s h = on_text u s h (λ u. kept_giving (texts.place_number (texts.place_in u t)))
find t (x ∷ y ∷ vs) s h = kept h

isdigit : {k : PlainKeeper} (t : List ℕ) (vs : List Value) → Does k (texts.isdigit t vs)
isdigit t [] s h = kept h
isdigit t (x ∷ vs) s h = kept h

strip : {k : PlainKeeper} (t : List ℕ) (vs : List Value) → Does k (texts.strip t vs)
strip t [] s h = new_text (drop_trailing_whitespace (skip_leading_whitespace t)) s h
strip t (x ∷ vs) s h = kept h

joined_all : {k : PlainKeeper} (t : List ℕ) (vs : List Value) → Does k (texts.joined_all t vs)
joined_all t vs s h = chosen (list_all texts.is_text vs) (new_text (texts.joined t (map texts.letters_of vs)) s h)
    (kept h)

join : {k : PlainKeeper} (t : List ℕ) (vs : List Value) → Does k (texts.join t vs)
join t [] s h = kept h
join t (w ∷ []) s h = bind (elements w s h) (λ vs s h. joined_all t vs s h)
join t (x ∷ y ∷ vs) s h = kept h

count_text : {k : PlainKeeper} (t u : List ℕ) → Does k (texts.count_text t u)
count_text t u s h = on_some u s h (kept_giving (lists.number (length (texts.pieces u t) - 1)))

count_in_text : {k : PlainKeeper} (t : List ℕ) (vs : List Value) → Does k (texts.count t vs)
count_in_text t [] s h = kept h
count_in_text t (u ∷ []) s h = on_text u s h (λ u s h. count_text t u s h)
count_in_text t (x ∷ y ∷ vs) s h = kept h

replace_text : {k : PlainKeeper} (t a b : List ℕ) → Does k (texts.replace_text t a b)
replace_text t a b s h = on_some a s h (λ s h. new_text (texts.joined b (texts.pieces a t)) s h)

replace : {k : PlainKeeper} (t : List ℕ) (vs : List Value) → Does k (texts.replace t vs)
replace t [] s h = kept h
replace t (x ∷ []) s h = kept h
replace t (a ∷ b ∷ []) s h = on_text a s h (λ a s h. on_text b s h (λ b s h. replace_text t a b s h))
replace t (x ∷ y ∷ z ∷ vs) s h = kept h

texts_listed : {k : PlainKeeper} (side : Side) (ts : List (List ℕ)) → Does k (texts.texts_listed side ts)
texts_listed {k} side ts s h = charge {go = λ s. plain.gives (dicts.next_object s)
    (dicts.with_added side (object.list (map texts.text_value ts)) s)}
    (1 + length ts + length (encode_utf8_all (concat ts))) s h
    (λ s h. kept (with_added k side (object.list (map texts.text_value ts)) (k.list _) s h))

split_by : {k : PlainKeeper} (side : Side) (t u : List ℕ) → Does k (texts.split_by side t u)
split_by side t u s h = on_some u s h (λ s h. texts_listed side (texts.pieces u t) s h)

split : {k : PlainKeeper} (side : Side) (t : List ℕ) (vs : List Value) → Does k (texts.split side t vs)
split side t [] s h = texts_listed side (texts.words t) s h
split side t (u ∷ []) s h = on_text u s h (λ u s h. split_by side t u s h)
split side t (x ∷ y ∷ vs) s h = kept h

text_method : {k : PlainKeeper} (side : Side) (t : List ℕ) (id : NativeId) (vs : List Value)
    → Does k (texts.text_method side t id vs)
text_method side t native.Join vs s h = join t vs s h
text_method side t native.Strip vs s h = strip t vs s h
text_method side t native.StartsWith vs s h = startswith t vs s h
text_method side t native.EndsWith vs s h = endswith t vs s h
text_method side t native.Find vs s h = find t vs s h
text_method side t native.IsDigit vs s h = isdigit t vs s h
text_method side t native.Count vs s h = count_in_text t vs s h
text_method side t native.Replace vs s h = replace t vs s h
text_method side t native.Split vs s h = split side t vs s h
text_method side t id vs s h = kept h

-- ---- by the receiver

content_method : {k : PlainKeeper} → (at : Oid) (c : Content) (id : NativeId) (vs : List Value)
    → k.Usable at → Does k (methods.content_method at c id vs)
content_method at (object.list xs) id vs usable s h = list_method at id vs usable s h
content_method at (object.tuple xs) id vs usable s h = tuple_method at id vs s h
content_method at (object.dict es) id vs usable s h = dict_method at id vs usable s h
content_method at c id vs usable s h = kept h

object_method : {k : PlainKeeper} → (at : Oid) (id : NativeId) (vs : List Value) → k.Usable at → Does k
    (methods.object_method at id vs)
object_method at id vs usable s h = maybe (content_at s.store.heap at) (λ c. content_method at c id vs usable s h)
    (kept h)

rock_method : {k : PlainKeeper} (side : Side) (r : Rock) (id : NativeId) (vs : List Value)
    → Does k (methods.rock_method side r id vs)
rock_method side (rock.Text t) id vs s h = text_method side t id vs s h
rock_method side r id vs s h = kept h

method_of : {k : PlainKeeper} → (side : Side) (v : Value) (id : NativeId) (vs : List Value)
    → Bare k v → Does k (methods.method_of side v id vs)
method_of side (value.Rock r) id vs usable s h = rock_method side r id vs s h
method_of side (value.Ref at) id vs usable s h = object_method at id vs usable s h
method_of side (value.Prox at) id vs usable s h = object_method at id vs usable s h

checked : {k : PlainKeeper} {go : plain.State → plain.Outcome Value} (c : Option Counts) (n : ℕ) (s : plain.State)
    → There k s
    → Does k go → Leaves k (methods.checked c n s go)
checked None n s h more = kept h
checked (Some c) n s h more = chosen (takes c n) (more s h) (kept h)

pub method_leaves : {k : PlainKeeper} → (side : Side) (v : Value) (id : NativeId) (vs : List Value)
    → Bare k v → Does k (methods.method side v id vs)
method_leaves side v id vs usable s h = checked (counts_of (receiver_of s.store.heap v) id) (length vs) s h
    (λ s h. method_of side v id vs usable s h)
