-- Items, slices, attributes and the binding of arguments leave an object to which nothing refers.
use Rattle.std.proofs.Common.{
  ℕ,
  List,
  [],
  ◌∷◌,
  ◌++◌,
  length,
  map,
  codes,
  slice_get,
  Bool,
  true,
  false,
  Option,
  Some,
  None,
}
use Rattle.std.proofs.Common.{Result, drop, if◌then◌else◌}
use Rattle.std.specs.Prelude.{is_some, nat_le, option_map}
use Rattle.std.specs.Option.{option_and_then, option_to_list}
use Rattle.std.specs.Map.{lookup}
use Rattle.rp_attributes.specs.Attributes as attributes
use Rattle.rp_base.specs.Same.{same_text}
use Rattle.rp_base.specs.declared.native.NativeId.{NativeId}
use Rattle.rp_base.specs.declared.value.Name.{Name}
use Rattle.rp_base.specs.declared.value.Oid.{Oid}
use Rattle.rp_base.specs.declared.value.Raised.{Raised}
use Rattle.rp_base.specs.declared.value.Rock.{Rock}
use Rattle.rp_base.specs.declared.value.Rock.TheVariants as rock
use Rattle.rp_base.specs.declared.value.Side.{Side}
use Rattle.rp_base.specs.declared.value.Value.{Value}
use Rattle.rp_base.specs.declared.value.Value.TheVariants as value
use Rattle.rp_calls.specs.Binding as slots
use Rattle.rp_calls.specs.Binding.{Parameter}
use Rattle.rp_dict.specs.Dict.{insert_entry}
use Rattle.rp_items.specs.Items as items
use Rattle.rp_items.specs.Slices as slices
use Rattle.rp_items.specs.Slices.{Span}
use Rattle.rp_ops.specs.Keys.{entry_in, key_named}
use Rattle.rp_ops.specs.Outcome as plain
use Rattle.rp_store.specs.Cost.{cell_if_new}
use Rattle.rp_store.specs.Heap.{Owned, content_at, entry_of, field_at, method_at}
use Rattle.rp_store.specs.Key.{key_form, same_key, same_name}
use Rattle.rp_store.specs.Object as object
use Rattle.rp_store.specs.Object.{Content}
use Rattle.rp_store.specs.Parts.{fields, methods}
use Rattle.rp_store.specs.Writers.{with_element, with_field, with_rock, without_element, without_field}
use Rattle.rp_store.specs.declared.key.Key.{Key}
use Rattle.rp_store.specs.declared.key.Key.TheVariants as key
use Rattle.rp_store.specs.declared.object.Callee.{Callee}
use Rattle.rp_store.specs.declared.object.Callee.TheVariants as callee
use Rattle.rp_tree.specs.Expressions as tree
use Rattle.rp_tree.specs.declared.expr.Expr.{Expr}
use Rattle.rp_tree.specs.Expressions.{Named}
use Rattle.rp_meaning.specs.Binding as binding
use Rattle.rp_meaning.specs.Binding.{Arguments}
use Rattle.rp_fixed_laws.specs.Fixed.{Placed}
use Rattle.rp_apart_laws.specs.Apart.{ArgumentsAvoid, Avoids, CalleeAvoids, ContentAvoids, Each, HeapAvoids, IsOther}
use Rattle.rp_apart_laws.specs.Apart.{Nothing, OnSome}
use Rattle.rp_apart_laws.proofs.Lists.{each_append, each_drop, each_entry, each_found, each_get, each_lookup, each_map}
use Rattle.rp_apart_laws.proofs.Operations.{Entry, Values, lent_avoids, new_object, new_text}
use Rattle.rp_apart_laws.proofs.Plainly.{Does, KeepsApart, Leaves, There, bind, change, charge, content_avoids}
use Rattle.rp_apart_laws.proofs.Plainly.{element_apart, field_apart, field_removal_apart, found, kept, maybe, possibly}
use Rattle.rp_apart_laws.proofs.Plainly.{read_avoids, read_on, removal_apart, rock_apart, rock_removal_apart}

-- ---- items

at_content : {A : Type 0} {k : Placed} {P : A → Type 0} {go : Content → plain.Outcome A} (at : Oid) (s : plain.State)
    → There k s → ((c : Content) → ContentAvoids k.at c → Leaves k P (go c)) → Leaves k P (items.at_content at s go)
at_content {k = k} at s h more =
    maybe (ContentAvoids k.at) (content_at s.store.heap at) (read_avoids k.at s.store.heap at h.others) more (kept h tt)

lent_out : {k : Placed} {o : plain.Outcome Value} → Leaves k (Avoids k.at) o → Leaves k (Avoids k.at) (items.lent_out o)
lent_out {k} h = bind h (λ v p s h. kept h (lent_avoids k.at v p))

element_at : {k : Placed} (xs : List Value) (p : ℕ) → Values k xs → Does k (Avoids k.at) (items.element_at xs p)
element_at {k} xs p q s h =
    maybe (Avoids k.at) (slice_get xs p) (each_get (Avoids k.at) xs p q) (λ v r. kept h r) (kept h tt)

character_at : {k : Placed} (t : List ℕ) (p : ℕ) → Does k (Avoids k.at) (items.character_at t p)
character_at t p s h = possibly (slice_get t p) (λ c. new_text (c ∷ []) s h) (kept h tt)

elements_item : {k : Placed} (xs : List Value) (i : Value) → Values k xs
    → Does k (Avoids k.at) (items.elements_item xs i)
elements_item xs i q s h = found (items.place_named (length xs) i) s h (λ p s h. element_at xs p q s h)

abbrev SecondAvoids : Oid → Rock × Value → Type 0
SecondAvoids a x = Avoids a x.1

pub entry_avoids : (a : Oid) (es : List Entry) (r : Rock) → Each (λ e. Avoids a e.1.1) es
    → OnSome (SecondAvoids a) (entry_in es r)
entry_avoids a es r h = by (key_form r)
  where
    by : (o : Option Key)
        → OnSome (SecondAvoids a) (option_and_then (λ (key : Key). lookup (same_key key) es) o)
    by None = tt
    by (Some key) = each_lookup (SecondAvoids a) (same_key key) es h

entries_item : {k : Placed} (es : List Entry) (i : Value) → Each (λ e. Avoids k.at e.1.1) es
    → Does k (Avoids k.at) (items.entries_item es i)
entries_item {k} es i q s h = found (key_named i) s h (λ r s h.
    maybe (SecondAvoids k.at) (entry_in es r) (entry_avoids k.at es r q) (λ e p. kept h p) (kept h tt))

content_item : {k : Placed} (c : Content) (i : Value) → ContentAvoids k.at c
    → Does k (Avoids k.at) (items.content_item c i)
content_item (object.list xs) i p s h = elements_item xs i p s h
content_item (object.tuple xs) i p s h = elements_item xs i p s h
content_item (object.dict es) i p s h = entries_item es i p s h
content_item c i p s h = kept h tt

rock_item : {k : Placed} (r : Rock) (i : Value) → Does k (Avoids k.at) (items.rock_item r i)
rock_item (rock.Text t) i s h = found (items.place_named (length t) i) s h (λ p s h. character_at t p s h)
rock_item r i s h = kept h tt

pub item : {k : Placed} (o i : Value) → Does k (Avoids k.at) (items.item o i)
item (value.Rock r) i s h = rock_item r i s h
item (value.Ref at) i s h = at_content at s h (λ c p. content_item c i p s h)
item (value.Prox at) i s h = lent_out (at_content at s h (λ c p. content_item c i p s h))

changes : {k : Placed} (at : Oid) (f : Content → Content) → IsOther k.at at → KeepsApart k.at f
    → Does k Nothing (items.changed at f)
changes at f other keeps s h = change tt tt s at f other keeps h

entry_put : {k : Placed} (at : Oid) (r : Rock) (v : Value) → IsOther k.at at → Avoids k.at v
    → Does k Nothing (items.entry_put at r v)
entry_put {k} at r v other p s h = charge (cell_if_new (entry_of s.store.heap at r)) s h
    (λ s h. changes at (with_rock r v) other (rock_apart k.at r v p) s h)

content_set : {k : Placed} (at : Oid) (c : Content) (i v : Value) → IsOther k.at at → Avoids k.at v
    → Does k Nothing (items.content_set at c i v)
content_set {k} at (object.list xs) i v other p s h = found (items.place_named (length xs) i) s h
    (λ q s h. changes at (with_element q v) other (element_apart k.at q v p) s h)
content_set at (object.dict es) i v other p s h = found (key_named i) s h (λ r s h. entry_put at r v other p s h)
content_set at c i v other p s h = kept h tt

content_del : {k : Placed} (at : Oid) (c : Content) (i : Value) → IsOther k.at at
    → Does k Nothing (items.content_del at c i)
content_del {k} at (object.list xs) i other s h = found (items.place_named (length xs) i) s h
    (λ q s h. changes at (without_element q) other (removal_apart k.at q) s h)
content_del {k} at (object.dict es) i other s h = found (key_named i) s h (λ r s h. possibly (entry_in es r)
    (λ e. changes at (items.without_rock r) other (rock_removal_apart k.at r) s h) (kept h tt))
content_del at c i other s h = kept h tt

pub set_item : {k : Placed} (o i v : Value) → Avoids k.at o → Avoids k.at v → Does k Nothing (items.set_item o i v)
set_item (value.Rock r) i v other p s h = kept h tt
set_item (value.Ref at) i v other p s h = at_content at s h (λ c q. content_set at c i v other p s h)
set_item (value.Prox at) i v other p s h = at_content at s h (λ c q. content_set at c i v other p s h)

pub del_item : {k : Placed} (o i : Value) → Avoids k.at o → Does k Nothing (items.del_item o i)
del_item (value.Rock r) i other s h = kept h tt
del_item (value.Ref at) i other s h = at_content at s h (λ c q. content_del at c i other s h)
del_item (value.Prox at) i other s h = at_content at s h (λ c q. content_del at c i other s h)

-- ---- slices

sliced_avoid : (a : Oid) (p : Span) (xs : List Value) → Each (Avoids a) xs → Each (Avoids a) (slices.sliced p xs)
sliced_avoid a p xs h = each_found (Avoids a) _ (λ m. each_get (Avoids a) xs _ h) _

rock_slice : {k : Placed} (r : Rock) (parts : Result Span Raised) → Does k (Avoids k.at) (slices.rock_slice r parts)
rock_slice (rock.Text t) parts s h = found parts s h (λ p s h. new_text (slices.sliced p t) s h)
rock_slice r parts s h = kept h tt

content_slice : {k : Placed} (owner : Side) (c : Content) (parts : Result Span Raised) → ContentAvoids k.at c
    → Does k (Avoids k.at) (slices.content_slice owner c parts)
content_slice {k} owner (object.list xs) parts q s h = found parts s h
    (λ p s h. new_object owner (object.list (slices.sliced p xs)) (sliced_avoid k.at p xs q) s h)
content_slice {k} owner (object.tuple xs) parts q s h = found parts s h
    (λ p s h. new_object owner (object.tuple (slices.sliced p xs)) (sliced_avoid k.at p xs q) s h)
content_slice owner c parts q s h = kept h tt

object_slice : {k : Placed} (at : Oid) (parts : Result Span Raised)
    → Does k (Avoids k.at) (slices.object_slice at parts)
object_slice at parts s h = at_content at s h (λ c p. content_slice (slices.owner_of at s) c parts p s h)

pub slice : {k : Placed} (o from to by : Value) → Does k (Avoids k.at) (slices.slice o from to by)
slice (value.Rock r) from to by s h = rock_slice r (slices.span_named from to by) s h
slice (value.Ref at) from to by s h = object_slice at (slices.span_named from to by) s h
slice (value.Prox at) from to by s h = lent_out (object_slice at (slices.span_named from to by) s h)

-- ---- attributes

bound : {k : Placed} (owner : Side) (v : Value) (called : Option Callee) (word : List ℕ) → Avoids k.at v
    → OnSome (CalleeAvoids k.at) called → Does k (Avoids k.at) (attributes.bound owner v called word)
bound owner v (Some called) word p q s h = new_object owner (object.method v called) (p, q) s h
bound owner v None word p q s h = kept h tt

field_or_method : {k : Placed} (owner : Side) (at : Oid) (field : Option Value) (called : Option Callee) (word : List ℕ)
    → IsOther k.at at → OnSome (Avoids k.at) field → OnSome (CalleeAvoids k.at) called
    → Does k (Avoids k.at) (attributes.field_or_method owner at field called word)
field_or_method owner at (Some v) called word other p q s h = kept h p
field_or_method owner at None called word other p q s h = bound owner (value.Ref at) called word other q s h

-- the functions of a class
methods_avoid : (a : Oid) (c : Content) → ContentAvoids a c → Each (λ (m : Name × Oid). IsOther a m.1) (methods c)
methods_avoid a (object.class n declared ms) p = p
methods_avoid a c p = tt

pub method_avoids : (a : Oid) (heap : List Owned) (at : Oid) (n : Name) → HeapAvoids a heap
    → OnSome (IsOther a) (method_at heap at n)
method_avoids a heap at n h =
    read_on (ContentAvoids a) (OnSome (IsOther a)) (λ (c : Content). lookup (same_name n) (methods c)) None
    (content_at heap at) (read_avoids a heap at h)
    (λ c p. each_lookup (IsOther a) (same_name n) (methods c) (methods_avoid a c p)) tt

native_callee : (a : Oid) (id : Option NativeId) → OnSome (CalleeAvoids a) (option_map callee.Native id)
native_callee a None = tt
native_callee a (Some id) = tt

function_callee : (a : Oid) (at : Option Oid) → OnSome (IsOther a) at
    → OnSome (CalleeAvoids a) (option_map callee.Function at)
function_callee a None p = tt
function_callee a (Some at) p = p

method_of_avoids : {k : Placed} (c : Content) (n : Name) (word : List ℕ) (s : plain.State) → There k s
    → OnSome (CalleeAvoids k.at) (attributes.method_of c n word s)
method_of_avoids {k} (object.list xs) n word s h = native_callee k.at _
method_of_avoids {k} (object.tuple xs) n word s h = native_callee k.at _
method_of_avoids {k} (object.dict es) n word s h = native_callee k.at _
method_of_avoids {k} (object.instance of fs) n word s h =
    function_callee k.at (method_at s.store.heap of n) (method_avoids k.at s.store.heap of n h.others)
method_of_avoids c n word s h = tt

fields_avoid : (a : Oid) (c : Content) → ContentAvoids a c → Each (λ (f : Name × Value). Avoids a f.1) (fields c)
fields_avoid a (object.instance of fs) p = p.1
fields_avoid a c p = tt

attribute_at : {k : Placed} (at : Oid) (n : Name) (word : List ℕ) → IsOther k.at at
    → Does k (Avoids k.at) (attributes.attribute_at at n word)
attribute_at {k} at n word other s h =
    maybe (λ (o : Owned). ContentAvoids k.at o.content) (slice_get s.store.heap at.0)
    (content_avoids k.at s.store.heap at.0 h.others) (λ o p.
    field_or_method o.owner at (lookup (same_name n) (fields o.content)) (attributes.method_of o.content n word s) word
    other (each_lookup (Avoids k.at) (same_name n) (fields o.content) (fields_avoid k.at o.content p))
    (method_of_avoids o.content n word s h) s h) (kept h tt)

rock_attribute : {k : Placed} (side : Side) (r : Rock) (word : List ℕ)
    → Does k (Avoids k.at) (attributes.rock_attribute side r word)
rock_attribute {k} side (rock.Text t) word s h =
    bound side (value.Rock (rock.Text t)) _ word tt (native_callee k.at _) s h
rock_attribute side r word s h = kept h tt

pub attribute : {k : Placed} (side : Side) (o : Value) (n : Name) (word : List ℕ) → Avoids k.at o
    → Does k (Avoids k.at) (attributes.attribute side o n word)
attribute side (value.Rock r) n word p s h = rock_attribute side r word s h
attribute side (value.Ref at) n word p s h = attribute_at at n word p s h
attribute {k} side (value.Prox at) n word p s h =
    bind (attribute_at at n word p s h) (λ v q s h. kept h (lent_avoids k.at v q))

attribute_changes : {k : Placed} (at : Oid) (f : Content → Content) → IsOther k.at at → KeepsApart k.at f
    → Does k Nothing (attributes.changes at f)
attribute_changes at f other keeps s h = change tt tt s at f other keeps h

field_set : {k : Placed} (at : Oid) (c : Content) (n : Name) (word : List ℕ) (v : Value) → IsOther k.at at
    → Avoids k.at v → Does k Nothing (attributes.content_set at c n word v)
field_set {k} at (object.instance of fs) n word v other p s h = charge (cell_if_new (field_at s.store.heap at n)) s h
    (λ s h. attribute_changes at (with_field n v) other (field_apart k.at n v p) s h)
field_set at c n word v other p s h = kept h tt

field_deleted : {k : Placed} (at : Oid) (v : Option Value) (n : Name) (word : List ℕ) → IsOther k.at at
    → Does k Nothing (attributes.field_deleted at v n word)
field_deleted {k} at (Some v) n word other s h =
    attribute_changes at (without_field n) other (field_removal_apart k.at n) s h
field_deleted at None n word other s h = kept h tt

field_del : {k : Placed} (at : Oid) (c : Content) (n : Name) (word : List ℕ) → IsOther k.at at
    → Does k Nothing (attributes.content_del at c n word)
field_del at (object.instance of fs) n word other s h =
    field_deleted at (field_at s.store.heap at n) n word other s h
field_del at c n word other s h = kept h tt

pub set_attribute : {k : Placed} (o : Value) (n : Name) (word : List ℕ) (v : Value) → Avoids k.at o → Avoids k.at v
    → Does k Nothing (attributes.set_attribute o n word v)
set_attribute (value.Rock r) n word v other p s h = kept h tt
set_attribute (value.Ref at) n word v other p s h =
    possibly (content_at s.store.heap at) (λ c. field_set at c n word v other p s h) (kept h tt)
set_attribute (value.Prox at) n word v other p s h =
    possibly (content_at s.store.heap at) (λ c. field_set at c n word v other p s h) (kept h tt)

pub del_attribute : {k : Placed} (o : Value) (n : Name) (word : List ℕ) → Avoids k.at o
    → Does k Nothing (attributes.del_attribute o n word)
del_attribute (value.Rock r) n word other s h = kept h tt
del_attribute (value.Ref at) n word other s h =
    possibly (content_at s.store.heap at) (λ c. field_del at c n word other s h) (kept h tt)
del_attribute (value.Prox at) n word other s h =
    possibly (content_at s.store.heap at) (λ c. field_del at c n word other s h) (kept h tt)

-- ---- the binding of arguments

abbrev pub SlotsAvoid : Placed → List (Option Value) → Type 0
SlotsAvoid k = Each (OnSome (Avoids k.at))

slot_made : {k : Placed} (b : Bool) (side : Side) (c : Content) (made : List (Option Value)) → ContentAvoids k.at c
    → SlotsAvoid k made → Does k (SlotsAvoid k) (slots.slot_made b side c made)
slot_made {k} true side c made p q s h = bind (new_object side c p s h)
    (λ v r s h. kept h (each_append (OnSome (Avoids k.at)) made (Some v ∷ []) q (r, tt)))
slot_made false side c made p q s h = kept h q

all_made : {k : Placed} (side : Side) (has_list has_dict : Bool) (vs rest : List Value) (es : List Entry) → Values k vs
    → Values k rest → Each (λ e. Avoids k.at e.1.1) es
    → Does k (SlotsAvoid k) (binding.all_made side has_list has_dict vs rest es)
all_made {k} side has_list has_dict vs rest es p q r s h =
    bind (slot_made has_list side (object.tuple rest) (map Some vs) q
    (each_map (Avoids k.at) (OnSome (Avoids k.at)) Some (λ v p. p) vs p) s h)
    (λ made m s h. slot_made has_dict side (object.dict es) made r m s h)

abbrev NamedAvoid : Oid → List (List ℕ × Value) → Type 0
NamedAvoid a ns = Each (λ n. Avoids a n.1) ns

elements_for_avoid : (a : Oid) (b : Bool) (n : ℕ) (vs : List Value) → Each (Avoids a) vs
    → OnSome (Each (Avoids a)) (slots.elements_for b n vs)
elements_for_avoid a true n vs p = each_drop (Avoids a) n vs p
elements_for_avoid a false n vs p = by (nat_le (length vs) n)
  where
    by : (b : Bool) → OnSome (Each (Avoids a)) (if b then Some [] else None)
    by true = tt
    by false = tt

given_avoid : (a : Oid) (ns : List (List ℕ × Value)) (word : List ℕ) → NamedAvoid a ns
    → Each (Avoids a) (slots.given ns word)
given_avoid a [] word p = tt
given_avoid a (n ∷ ns) word p = by (same_text n.0 word) (given_avoid a ns word p.1)
  where
    by : (b : Bool) → Each (Avoids a) (slots.given ns word)
        → Each (Avoids a) (if b then n.1 ∷ slots.given ns word else slots.given ns word)
    by true q = (p.0, q)
    by false q = q

sole_avoids : (a : Oid) (vs : List Value) (default : Option Value) → Each (Avoids a) vs → OnSome (Avoids a) default
    → OnSome (Avoids a) (slots.sole vs default)
sole_avoids a [] default p q = q
sole_avoids a (v ∷ []) default p q = p.0
sole_avoids a (v ∷ w ∷ vs) default p q = tt

-- what a call offers a parameter
record OfferAvoids (a : Oid) (p : Parameter) : Type 0 where
  positional : OnSome (Avoids a) p.positional
  default : OnSome (Avoids a) p.default

listed : (a : Oid) (v : Option Value) → OnSome (Avoids a) v → Each (Avoids a) (option_to_list v)
listed a None p = tt
listed a (Some v) p = (p, tt)

value_of_avoids : (a : Oid) (p : Parameter) (ns : List (List ℕ × Value)) → OfferAvoids a p → NamedAvoid a ns
    → OnSome (Avoids a) (slots.value_of p ns)
value_of_avoids a p ns offer named =
    sole_avoids a (option_to_list p.positional ++ slots.given ns p.word) p.default
    (each_append (Avoids a) (option_to_list p.positional) (slots.given ns p.word)
    (listed a p.positional offer.positional)
    (given_avoid a ns p.word named)) offer.default

put_avoids : (a : Oid) (v : Option Value) (vs : Option (List Value)) → OnSome (Avoids a) v → OnSome (Each (Avoids a)) vs
    → OnSome (Each (Avoids a)) (slots.put v vs)
put_avoids a None vs p q = tt
put_avoids a (Some v) None p q = tt
put_avoids a (Some v) (Some vs) p q = (p, q)

filled_avoid : (a : Oid) (ps : List Parameter) (ns : List (List ℕ × Value)) → Each (OfferAvoids a) ps → NamedAvoid a ns
    → OnSome (Each (Avoids a)) (slots.filled ps ns)
filled_avoid a [] ns offers named = tt
filled_avoid a (p ∷ ps) ns offers named =
    put_avoids a (slots.value_of p ns) (slots.filled ps ns) (value_of_avoids a p ns offers.0 named)
    (filled_avoid a ps ns offers.1 named)

default_avoids : (a : Oid) (b : Bool) (vs : List Value) → Each (Avoids a) vs
    → OnSome (Avoids a) (slots.default_of b vs)
default_avoids a true vs p = each_get (Avoids a) vs 0 p
default_avoids a false vs p = tt

defaults_after_avoid : (a : Oid) (b : Bool) (vs : List Value) → Each (Avoids a) vs
    → Each (Avoids a) (slots.defaults_after b vs)
defaults_after_avoid a true vs p = each_drop (Avoids a) 1 vs p
defaults_after_avoid a false vs p = p

offered_avoid : (a : Oid) (names : List (List ℕ)) (ps : tree.Plain) (args defaults : List Value) → Each (Avoids a) args
    → Each (Avoids a) defaults → Each (OfferAvoids a) (binding.offered names ps args defaults)
offered_avoid a names tree.no_plain args defaults p q = tt
offered_avoid a names (tree.plain n x ps) args defaults p q = (
  record {
    positional = each_get (Avoids a) args 0 p;
    default = default_avoids a (binding.has_default x) defaults q;
  },
  offered_avoid a names ps (drop 1 args) (slots.defaults_after (binding.has_default x) defaults)
      (each_drop (Avoids a) 1 args p) (defaults_after_avoid a (binding.has_default x) defaults q),
)

abbrev EntriesAvoid : Oid → List Entry → Type 0
EntriesAvoid a es = Each (λ e. Avoids a e.1.1) es

other_entries_avoid : (a : Oid) (names : List (List ℕ)) (ps : List (Named × Option Expr)) (es : List Entry)
    (ns : List (List ℕ × Value)) → EntriesAvoid a es → NamedAvoid a ns
    → OnSome (EntriesAvoid a) (slots.other_entries names ps es ns)
other_entries_avoid a names ps es [] p q = p
other_entries_avoid a names ps es (n ∷ ns) p q =
    by (slots.is_plain names ps n.0) (is_some (lookup (same_key (key.Text n.0)) es))
    (other_entries_avoid a names ps es ns p q.1)
    (other_entries_avoid a names ps (insert_entry same_key es (key.Text n.0) (rock.Text n.0, n.1)) ns
    (each_entry (SecondAvoids a) same_key es (key.Text n.0) (rock.Text n.0, n.1) p q.0) q.1)
  where
    by : (b c : Bool) → OnSome (EntriesAvoid a) (slots.other_entries names ps es ns)
        → OnSome (EntriesAvoid a)
        (slots.other_entries names ps (insert_entry same_key es (key.Text n.0) (rock.Text n.0, n.1)) ns)
        → OnSome (EntriesAvoid a) (if b then slots.other_entries names ps es ns else if c then None
        else slots.other_entries names ps (insert_entry same_key es (key.Text n.0) (rock.Text n.0, n.1)) ns)
    by true c i j = i
    by false true i j = tt
    by false false i j = j

entries_for_avoid : (a : Oid) (b : Bool) (names : List (List ℕ)) (ps : List (Named × Option Expr))
    (ns : List (List ℕ × Value)) → NamedAvoid a ns → OnSome (EntriesAvoid a) (slots.entries_for b names ps ns)
entries_for_avoid a true names ps ns p = other_entries_avoid a names ps [] ns tt p
entries_for_avoid a false names ps ns p = by (slots.are_plain names ps ns)
  where
    by : (b : Bool) → OnSome (EntriesAvoid a) (if b then Some [] else None)
    by true = tt
    by false = tt

pub binds : {k : Placed} (side : Side) (names : List (List ℕ)) (ps : tree.Params) (defaults : List Value)
    (a : Arguments)
    → Values k defaults → ArgumentsAvoid k.at a → Does k (SlotsAvoid k) (binding.bind side names ps defaults a)
binds {k} side names (tree.params ps list dict) defaults a p q s h =
    maybe (Values k) (slots.elements_for (is_some list) (length (binding.plain_names ps)) a.plain)
    (elements_for_avoid k.at (is_some list) (length (binding.plain_names ps)) a.plain q.plain) (λ rest r.
    maybe (Values k) (slots.filled (binding.offered names ps a.plain defaults) a.named)
    (filled_avoid k.at (binding.offered names ps a.plain defaults) a.named
    (offered_avoid k.at names ps a.plain defaults q.plain p) q.named) (λ vs m.
    maybe (EntriesAvoid k.at) (slots.entries_for (is_some dict) names (binding.plain_names ps) a.named)
    (entries_for_avoid k.at (is_some dict) names (binding.plain_names ps) a.named q.named) (λ es n.
    all_made side (is_some list) (is_some dict) vs rest es m r n s h) (kept h tt)) (kept h tt)) (kept h tt)
