-- The built-in methods leave an object that is fixed (Python Standard Library, Built-in Types).
use Rattle.std.proofs.Common.{ℕ, ◌+◌, ◌-◌, ◌*◌, if◌then◌else◌, List, [], ◌∷◌, ◌++◌, length, map, reverse}
use Rattle.std.proofs.Common.{encode_utf8_all, slice_get, Option, Some, None, negsuc}
use Rattle.std.specs.Prelude.{ℤ, nat_lt}
use Rattle.std.specs.List.{concat, list_all}
use Rattle.std.specs.Str.{drop_trailing_whitespace, skip_leading_whitespace}
use Rattle.rp_attributes.specs.BuiltIns.{counts_of, receiver_of, takes}
use Rattle.rp_attributes.specs.declared.built_ins.Counts.{Counts}
use Rattle.rp_base.specs.declared.native.NativeId.{NativeId}
use Rattle.rp_base.specs.declared.native.NativeId.TheVariants as native
use Rattle.rp_base.specs.declared.value.Oid.{Oid}
use Rattle.rp_base.specs.declared.value.Rock.{Rock}
use Rattle.rp_base.specs.declared.value.Rock.TheVariants as rock
use Rattle.rp_base.specs.declared.value.Side.{Side}
use Rattle.rp_base.specs.declared.value.Value.{Value}
use Rattle.rp_base.specs.declared.value.Value.TheVariants as value
use Rattle.rp_compare.specs.Membership.{begins}
use Rattle.rp_items.specs.Items.{from_end, place_within, without_rock}
use Rattle.rp_items.specs.Slices.{owner_of}
use Rattle.rp_methods.specs.Dicts as dicts
use Rattle.rp_methods.specs.Lists as lists
use Rattle.rp_methods.specs.Methods as methods
use Rattle.rp_methods.specs.Texts as texts
use Rattle.rp_ops.specs.Depth.{deepest}
use Rattle.rp_ops.specs.Keys.{index_number, key_named}
use Rattle.rp_ops.specs.Operand.{is_some_element}
use Rattle.rp_ops.specs.Outcome as plain
use Rattle.rp_ops.specs.View.{key_rock}
use Rattle.rp_store.specs.Heap.{content_at, elements_at, entry_of}
use Rattle.rp_store.specs.Object as object
use Rattle.rp_store.specs.Object.{Content}
use Rattle.rp_store.specs.Writers.{extended, inserted, pushed, with_elements, without_element}
use Rattle.rp_fixed_laws.specs.Fixed.{IsFixed, Placed}
use Rattle.rp_fixed_laws.proofs.Plainly.{Does, Leaves, Spares, There, appended, bind, change, charge, chosen}
use Rattle.rp_fixed_laws.proofs.Plainly.{elements_spare, extended_spares, found, inserted_spares, kept, kept_giving, maybe}
use Rattle.rp_fixed_laws.proofs.Plainly.{pushed_spares, removal_spares, rock_removal_spares, step}
use Rattle.rp_fixed_laws.proofs.Operations.{Entry, elements, equal, new_object, new_text}
use Rattle.rp_fixed_laws.proofs.Objects.{set_item}

-- ---- lists and tuples

grows : {k : Placed} → IsFixed k.content → (cells : ℕ) (at : Oid) (f : Content → Content) → Spares f → Does k
    (lists.grows cells at f)
grows fixed cells at f spares s h = charge cells s h (λ s h. change fixed lists.none s at f spares h)

append : {k : Placed} → IsFixed k.content → (at : Oid) (vs : List Value) → Does k (lists.append at vs)
append fixed at [] s h = kept h
append fixed at (x ∷ []) s h = grows fixed 1 at (pushed x) (pushed_spares x) s h
append fixed at (x ∷ y ∷ vs) s h = kept h

extend : {k : Placed} → IsFixed k.content → (at : Oid) (vs : List Value) → Does k (lists.extend at vs)
extend fixed at [] s h = kept h
extend fixed at (w ∷ []) s h =
    bind (elements w s h) (λ vs s h. grows fixed (length vs) at (extended vs) (extended_spares vs) s h)
extend fixed at (x ∷ y ∷ vs) s h = kept h

insert_at : {k : Placed} → IsFixed k.content → (at : Oid) (i : ℤ) (x : Value) → Does k (lists.insert_at at i x)
insert_at fixed at i x s h =
    let n : ℕ = length (elements_at s.store.heap at) in
    grows fixed 1 at (inserted (lists.brought n (from_end n i)) x)
    (inserted_spares (lists.brought n (from_end n i)) x) s h

insert : {k : Placed} → IsFixed k.content → (at : Oid) (vs : List Value) → Does k (lists.insert at vs)
insert fixed at [] s h = kept h
insert fixed at (x ∷ []) s h = kept h
insert fixed at (i ∷ x ∷ []) s h = maybe (index_number i) (λ z. insert_at fixed at z x s h) (kept h)
insert fixed at (x ∷ y ∷ z ∷ vs) s h = kept h

taken_out : {k : Placed} → IsFixed k.content → (at : Oid) (p : ℕ) → Does k (lists.taken_out at p)
taken_out fixed at p s h = maybe (slice_get (elements_at s.store.heap at) p)
    (λ v. change fixed v s at (without_element p) (removal_spares p) h) (kept h)

pop_at : {k : Placed} → IsFixed k.content → (at : Oid) (i : ℤ) → Does k (lists.pop_at at i)
pop_at fixed at i s h =
    let n : ℕ = length (elements_at s.store.heap at) in
    found (place_within n (from_end n i)) s h (λ p s h. taken_out fixed at p s h)

pop : {k : Placed} → IsFixed k.content → (at : Oid) (vs : List Value) → Does k (lists.pop at vs)
pop fixed at [] s h = pop_at fixed at (negsuc 0) s h
pop fixed at (i ∷ []) s h = maybe (index_number i) (λ z. pop_at fixed at z s h) (kept h)
pop fixed at (x ∷ y ∷ vs) s h = kept h

sought : {k : Placed} (n : ℕ) (a : Value) (xs : List Value) → Does k (lists.sought n a xs)
sought n a [] s h = kept h
sought n a (x ∷ xs) s h =
    step s h (λ s h. bind (equal deepest a x s h) (λ b s h. chosen b (kept_giving n s h) (sought (n + 1) a xs s h)))

counted : {k : Placed} (n : ℕ) (a : Value) (xs : List Value) → Does k (lists.counted n a xs)
counted n a [] s h = kept h
counted n a (x ∷ xs) s h =
    step s h (λ s h. bind (equal deepest a x s h) (λ b s h. counted (if b then n + 1 else n) a xs s h))

index : {k : Placed} (at : Oid) (vs : List Value) → Does k (lists.index at vs)
index at [] s h = kept h
index at (x ∷ []) s h = bind (sought 0 x (lists.held_at at s) s h) (λ n s h. kept h)
index at (x ∷ y ∷ vs) s h = kept h

count : {k : Placed} (at : Oid) (vs : List Value) → Does k (lists.count at vs)
count at [] s h = kept h
count at (x ∷ []) s h = bind (counted 0 x (lists.held_at at s) s h) (λ n s h. kept h)
count at (x ∷ y ∷ vs) s h = kept h

remove : {k : Placed} → IsFixed k.content → (at : Oid) (vs : List Value) → Does k (lists.remove at vs)
remove fixed at [] s h = kept h
remove fixed at (x ∷ []) s h = bind (sought 0 x (elements_at s.store.heap at) s h)
    (λ p s h. change fixed lists.none s at (without_element p) (removal_spares p) h)
remove fixed at (x ∷ y ∷ vs) s h = kept h

reversed : {k : Placed} → IsFixed k.content → (at : Oid) (vs : List Value) → Does k (lists.reversed at vs)
reversed fixed at [] s h =
    let turned : List Value = reverse (elements_at s.store.heap at) in
    change fixed lists.none s at (with_elements turned) (elements_spare turned) h
reversed fixed at (x ∷ vs) s h = kept h

list_method : {k : Placed} → IsFixed k.content → (at : Oid) (id : NativeId) (vs : List Value) → Does k
    (lists.list_method at id vs)
list_method fixed at native.Append vs s h = append fixed at vs s h
list_method fixed at native.Extend vs s h = extend fixed at vs s h
list_method fixed at native.Insert vs s h = insert fixed at vs s h
list_method fixed at native.Pop vs s h = pop fixed at vs s h
list_method fixed at native.Remove vs s h = remove fixed at vs s h
list_method fixed at native.Index vs s h = index at vs s h
list_method fixed at native.Count vs s h = count at vs s h
list_method fixed at native.Reverse vs s h = reversed fixed at vs s h
list_method fixed at id vs s h = kept h

tuple_method : {k : Placed} (at : Oid) (id : NativeId) (vs : List Value) → Does k (lists.tuple_method at id vs)
tuple_method at native.Index vs s h = index at vs s h
tuple_method at native.Count vs s h = count at vs s h
tuple_method at id vs s h = kept h

-- ---- dicts

with_key : {k : Placed} {go : Value → plain.State → plain.Outcome Value} (vs : List Value) (s : plain.State) → There k s
    → ((v : Value) → Does k (go v)) → Leaves k (dicts.with_key vs s go)
with_key vs s h more = maybe (slice_get vs 0) (λ v. more v s h) (kept h)

get_or : {k : Placed} (at : Oid) (key d : Value) → Does k (dicts.get_or at key d)
get_or at key d s h =
    found (key_named key) s h (λ r s h. maybe (entry_of s.store.heap at r) (λ e. kept h) (kept h))

get : {k : Placed} (at : Oid) (vs : List Value) → Does k (dicts.get at vs)
get at vs s h = with_key vs s h (λ key s h. get_or at key (dicts.default_in vs) s h)

missed : {k : Placed} (d : Option Value) (r : Rock) → Does k (dicts.missed d r)
missed (Some d) r s h = kept h
missed None r s h = kept h

pop_or : {k : Placed} → IsFixed k.content → (at : Oid) (key : Value) (d : Option Value) → Does k (dicts.pop_or at key d)
pop_or fixed at key d s h = found (key_named key) s h (λ r s h. maybe (entry_of s.store.heap at r)
    (λ e. change fixed e.1 s at (without_rock r) (rock_removal_spares r) h) (missed d r s h))

dict_pop : {k : Placed} → IsFixed k.content → (at : Oid) (vs : List Value) → Does k (dicts.dict_pop at vs)
dict_pop fixed at vs s h = with_key vs s h (λ key s h. pop_or fixed at key (slice_get vs 1) s h)

set_default : {k : Placed} → IsFixed k.content → (at : Oid) (key d : Value) → Does k (dicts.set_default at key d)
set_default fixed at key d s h = found (key_named key) s h (λ r s h. maybe (entry_of s.store.heap at r) (λ e. kept h)
    (bind (set_item fixed (value.Ref at) (value.Rock r) d s h) (λ _ s h. kept h)))

setdefault : {k : Placed} → IsFixed k.content → (at : Oid) (vs : List Value) → Does k (dicts.setdefault at vs)
setdefault fixed at vs s h = with_key vs s h (λ key s h. set_default fixed at key (dicts.default_in vs) s h)

keys : {k : Placed} (at : Oid) (vs : List Value) → Does k (dicts.keys at vs)
keys at [] s h = new_object (owner_of at s) (object.list (map key_rock (dicts.entries_of s.store.heap at))) s h
keys at (x ∷ vs) s h = kept h

values : {k : Placed} (at : Oid) (vs : List Value) → Does k (dicts.values at vs)
values at [] s h =
    new_object (owner_of at s) (object.list (map (λ (e : Entry). e.1.1) (dicts.entries_of s.store.heap at))) s h
values at (x ∷ vs) s h = kept h

copy : {k : Placed} (at : Oid) (vs : List Value) → Does k (dicts.copy at vs)
copy at [] s h = new_object (owner_of at s) (object.dict (dicts.entries_of s.store.heap at)) s h
copy at (x ∷ vs) s h = kept h

with_added : (k : Placed) (side : Side) (c : Content) (s : plain.State) → There k s → There k
    (dicts.with_added side c s)
with_added k side c s h = appended k s.store.heap (record { owner = side; content = c } ∷ []) h

tuples_listed : {k : Placed} (side : Side) (es : List (Rock × Value)) (made : List Value)
    → Does k (dicts.tuples_listed side es made)
tuples_listed {k} side [] made s h = kept (with_added k side (object.list made) s h)
tuples_listed {k} side (e ∷ es) made s h =
    tuples_listed side es (made ++ dicts.next_object s ∷ [])
    (dicts.with_added side (object.tuple (value.Rock e.0 ∷ e.1 ∷ [])) s)
    (with_added k side (object.tuple (value.Rock e.0 ∷ e.1 ∷ [])) s h)

items : {k : Placed} (at : Oid) (vs : List Value) → Does k (dicts.items at vs)
items at [] s h =
    let es : List (Rock × Value) = dicts.pairs (λ v. v) (dicts.entries_of s.store.heap at) in
    charge (1 + length es * 4) s h (λ t h. tuples_listed (owner_of at s) es [] t h)
items at (x ∷ vs) s h = kept h

put_all : {k : Placed} → IsFixed k.content → (at : Oid) (es : List (Rock × Value)) → Does k (dicts.put_all at es)
put_all fixed at [] s h = kept h
put_all fixed at (e ∷ es) s h = bind (set_item fixed (value.Ref at) (value.Rock e.0) e.1 s h)
    (λ _ s h. put_all fixed at es s h)

roomed : {k : Placed} {go : plain.State → plain.Outcome Value} (cells : ℕ) (s : plain.State) → There k s → Does k go
    → Leaves k (dicts.roomed cells s go)
roomed cells s h more = chosen (nat_lt s.store.limit (s.store.used + cells)) (kept h) (more s h)

update : {k : Placed} → IsFixed k.content → (at : Oid) (vs : List Value) → Does k (dicts.update at vs)
update fixed at [] s h = kept h
update fixed at (d ∷ []) s h = maybe (dicts.pairs_given s.store.heap d)
    (λ es. roomed (dicts.new_keys s.store.heap at 0 es) s h (λ s h. put_all fixed at es s h)) (kept h)
update fixed at (x ∷ y ∷ vs) s h = kept h

dict_method : {k : Placed} → IsFixed k.content → (at : Oid) (id : NativeId) (vs : List Value) → Does k
    (dicts.dict_method at id vs)
dict_method fixed at native.Get vs s h = get at vs s h
dict_method fixed at native.Keys vs s h = keys at vs s h
dict_method fixed at native.Values vs s h = values at vs s h
dict_method fixed at native.Pop vs s h = dict_pop fixed at vs s h
dict_method fixed at native.SetDefault vs s h = setdefault fixed at vs s h
dict_method fixed at native.Copy vs s h = copy at vs s h
dict_method fixed at native.Items vs s h = items at vs s h
dict_method fixed at native.Update vs s h = update fixed at vs s h
dict_method fixed at id vs s h = kept h

-- ---- texts

on_text : {k : Placed} {go : List ℕ → plain.State → plain.Outcome Value} (v : Value) (s : plain.State) → There k s
    → ((t : List ℕ) → Does k (go t)) → Leaves k (texts.on_text v s go)
on_text v s h more = maybe (texts.text_in v) (λ t. more t s h) (kept h)

on_some : {k : Placed} {go : plain.State → plain.Outcome Value} (t : List ℕ) (s : plain.State) → There k s → Does k go
    → Leaves k (texts.on_some t s go)
on_some t s h more = chosen (is_some_element t) (more s h) (kept h)

-- a test of a text
startswith : {k : Placed} (t : List ℕ) (vs : List Value) → Does k (texts.startswith t vs)
startswith t [] s h = kept h
startswith t (u ∷ []) s h = on_text u s h (λ u. kept_giving (texts.truth (begins u t)))
startswith t (x ∷ y ∷ vs) s h = kept h

endswith : {k : Placed} (t : List ℕ) (vs : List Value) → Does k (texts.endswith t vs)
endswith t [] s h = kept h
endswith t (u ∷ []) s h = on_text u s h (λ u. kept_giving (texts.truth (texts.ends u t)))
endswith t (x ∷ y ∷ vs) s h = kept h

find : {k : Placed} (t : List ℕ) (vs : List Value) → Does k (texts.find t vs)
find t [] s h = kept h
find t (u ∷ []) s h = on_text u s h (λ u. kept_giving (texts.place_number (texts.place_in u t)))
find t (x ∷ y ∷ vs) s h = kept h

isdigit : {k : Placed} (t : List ℕ) (vs : List Value) → Does k (texts.isdigit t vs)
isdigit t [] s h = kept h
isdigit t (x ∷ vs) s h = kept h

strip : {k : Placed} (t : List ℕ) (vs : List Value) → Does k (texts.strip t vs)
strip t [] s h = new_text (drop_trailing_whitespace (skip_leading_whitespace t)) s h
strip t (x ∷ vs) s h = kept h

joined_all : {k : Placed} (t : List ℕ) (vs : List Value) → Does k (texts.joined_all t vs)
joined_all t vs s h = chosen (list_all texts.is_text vs) (new_text (texts.joined t (map texts.letters_of vs)) s h)
    (kept h)

join : {k : Placed} (t : List ℕ) (vs : List Value) → Does k (texts.join t vs)
join t [] s h = kept h
join t (w ∷ []) s h = bind (elements w s h) (λ vs s h. joined_all t vs s h)
join t (x ∷ y ∷ vs) s h = kept h

count_text : {k : Placed} (t u : List ℕ) → Does k (texts.count_text t u)
count_text t u s h = on_some u s h (kept_giving (lists.number (length (texts.pieces u t) - 1)))

count_in_text : {k : Placed} (t : List ℕ) (vs : List Value) → Does k (texts.count t vs)
count_in_text t [] s h = kept h
count_in_text t (u ∷ []) s h = on_text u s h (λ u s h. count_text t u s h)
count_in_text t (x ∷ y ∷ vs) s h = kept h

replace_text : {k : Placed} (t a b : List ℕ) → Does k (texts.replace_text t a b)
replace_text t a b s h = on_some a s h (λ s h. new_text (texts.joined b (texts.pieces a t)) s h)

replace : {k : Placed} (t : List ℕ) (vs : List Value) → Does k (texts.replace t vs)
replace t [] s h = kept h
replace t (x ∷ []) s h = kept h
replace t (a ∷ b ∷ []) s h = on_text a s h (λ a s h. on_text b s h (λ b s h. replace_text t a b s h))
replace t (x ∷ y ∷ z ∷ vs) s h = kept h

texts_listed : {k : Placed} (side : Side) (ts : List (List ℕ)) → Does k (texts.texts_listed side ts)
texts_listed {k} side ts s h = charge {go = λ s. plain.gives (dicts.next_object s)
    (dicts.with_added side (object.list (map texts.text_value ts)) s)}
    (1 + length ts + length (encode_utf8_all (concat ts))) s h
    (λ s h. kept (with_added k side (object.list (map texts.text_value ts)) s h))

split_by : {k : Placed} (side : Side) (t u : List ℕ) → Does k (texts.split_by side t u)
split_by side t u s h = on_some u s h (λ s h. texts_listed side (texts.pieces u t) s h)

split : {k : Placed} (side : Side) (t : List ℕ) (vs : List Value) → Does k (texts.split side t vs)
split side t [] s h = texts_listed side (texts.words t) s h
split side t (u ∷ []) s h = on_text u s h (λ u s h. split_by side t u s h)
split side t (x ∷ y ∷ vs) s h = kept h

text_method : {k : Placed} (side : Side) (t : List ℕ) (id : NativeId) (vs : List Value)
    → Does k (texts.text_method side t id vs)
text_method side t native.Join vs s h = join t vs s h
text_method side t native.Strip vs s h = strip t vs s h
text_method side t native.StartsWith vs s h = startswith t vs s h
text_method side t native.EndsWith vs s h = endswith t vs s h
text_method side t native.Find vs s h = find t vs s h
text_method side t native.IsDigit vs s h = isdigit t vs s h
text_method side t native.Count vs s h = count_in_text t vs s h
text_method side t native.Replace vs s h = replace t vs s h
text_method side t native.Split vs s h = split side t vs s h
text_method side t id vs s h = kept h

-- ---- by the receiver

content_method : {k : Placed} → IsFixed k.content → (at : Oid) (c : Content) (id : NativeId) (vs : List Value)
    → Does k (methods.content_method at c id vs)
content_method fixed at (object.list xs) id vs s h = list_method fixed at id vs s h
content_method fixed at (object.tuple xs) id vs s h = tuple_method at id vs s h
content_method fixed at (object.dict es) id vs s h = dict_method fixed at id vs s h
content_method fixed at c id vs s h = kept h

object_method : {k : Placed} → IsFixed k.content → (at : Oid) (id : NativeId) (vs : List Value) → Does k
    (methods.object_method at id vs)
object_method fixed at id vs s h = maybe (content_at s.store.heap at) (λ c. content_method fixed at c id vs s h)
    (kept h)

rock_method : {k : Placed} (side : Side) (r : Rock) (id : NativeId) (vs : List Value)
    → Does k (methods.rock_method side r id vs)
rock_method side (rock.Text t) id vs s h = text_method side t id vs s h
rock_method side r id vs s h = kept h

method_of : {k : Placed} → IsFixed k.content → (side : Side) (v : Value) (id : NativeId) (vs : List Value)
    → Does k (methods.method_of side v id vs)
method_of fixed side (value.Rock r) id vs s h = rock_method side r id vs s h
method_of fixed side (value.Ref at) id vs s h = object_method fixed at id vs s h
method_of fixed side (value.Prox at) id vs s h = object_method fixed at id vs s h

checked : {k : Placed} {go : plain.State → plain.Outcome Value} (c : Option Counts) (n : ℕ) (s : plain.State)
    → There k s
    → Does k go → Leaves k (methods.checked c n s go)
checked None n s h more = kept h
checked (Some c) n s h more = chosen (takes c n) (more s h) (kept h)

pub method_leaves : {k : Placed} → IsFixed k.content → (side : Side) (v : Value) (id : NativeId) (vs : List Value)
    → Does k (methods.method side v id vs)
method_leaves fixed side v id vs s h = checked (counts_of (receiver_of s.store.heap v) id) (length vs) s h
    (λ s h. method_of fixed side v id vs s h)
