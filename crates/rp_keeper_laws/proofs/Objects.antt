-- Items, slices, stores to attributes and the binding of arguments keep what is kept of objects.
use Rattle.std.proofs.Common.{ℕ, List, [], ◌∷◌, length, map, slice_get, Bool, true, false, Option, Some}
use Rattle.std.proofs.Common.{None}
use Rattle.std.proofs.Common.{Result}
use Rattle.std.specs.Prelude.{is_some}
use Rattle.rp_attributes.specs.Attributes as attributes
use Rattle.rp_base.specs.declared.value.Name.{Name}
use Rattle.rp_base.specs.declared.value.Oid.{Oid}
use Rattle.rp_base.specs.declared.value.Raised.{Raised}
use Rattle.rp_base.specs.declared.value.Rock.{Rock}
use Rattle.rp_base.specs.declared.value.Rock.TheVariants as rock
use Rattle.rp_base.specs.declared.value.Side.{Side}
use Rattle.rp_base.specs.declared.value.Value.{Value}
use Rattle.rp_base.specs.declared.value.Value.TheVariants as value
use Rattle.rp_calls.specs.Binding as slots
use Rattle.rp_items.specs.Items as items
use Rattle.rp_items.specs.Slices as slices
use Rattle.rp_items.specs.Slices.{Span}
use Rattle.rp_ops.specs.Keys.{entry_in, key_named}
use Rattle.rp_ops.specs.Outcome as plain
use Rattle.rp_store.specs.Cost.{cell_if_new}
use Rattle.rp_store.specs.Heap.{content_at, entry_of, field_at}
use Rattle.rp_store.specs.Object as object
use Rattle.rp_store.specs.Object.{Content}
use Rattle.rp_store.specs.Writers.{with_element, with_field, with_rock, without_element, without_field}
use Rattle.rp_tree.specs.Expressions as tree
use Rattle.rp_meaning.specs.Binding as binding
use Rattle.rp_meaning.specs.Binding.{Arguments}
use Rattle.rp_keeper_laws.specs.PlainKeepers.{Bare, Mild, PlainKeeper}
use Rattle.rp_keeper_laws.proofs.Plainly.{Does, Leaves, There, bind, change, charge, element_spares}
use Rattle.rp_keeper_laws.proofs.Plainly.{field_removal_spares}
use Rattle.rp_keeper_laws.proofs.Plainly.{field_spares, found, kept, maybe, removal_spares, rock_removal_spares}
use Rattle.rp_keeper_laws.proofs.Plainly.{rock_spares}
use Rattle.rp_keeper_laws.proofs.Operations.{Entry, new_list, new_object, new_text, new_tuple}

-- ---- items

at_content : {A : Type 0} {k : PlainKeeper} {go : Content → plain.Outcome A} (at : Oid) (s : plain.State) → There k s
    → ((c : Content) → Leaves k (go c)) → Leaves k (items.at_content at s go)
at_content at s h more = maybe (content_at s.store.heap at) more (kept h)

lent_out : {k : PlainKeeper} {o : plain.Outcome Value} → Leaves k o → Leaves k (items.lent_out o)
lent_out h = bind h (λ v s h. kept h)

element_at : {k : PlainKeeper} (xs : List Value) (p : ℕ) → Does k (items.element_at xs p)
element_at xs p s h = maybe (slice_get xs p) (λ v. kept h) (kept h)

character_at : {k : PlainKeeper} (t : List ℕ) (p : ℕ) → Does k (items.character_at t p)
character_at t p s h = maybe (slice_get t p) (λ c. new_text (c ∷ []) s h) (kept h)

elements_item : {k : PlainKeeper} (xs : List Value) (i : Value) → Does k (items.elements_item xs i)
elements_item xs i s h = found (items.place_named (length xs) i) s h (λ p s h. element_at xs p s h)

entries_item : {k : PlainKeeper} (es : List Entry) (i : Value) → Does k (items.entries_item es i)
entries_item es i s h = found (key_named i) s h (λ r s h. maybe (entry_in es r) (λ e. kept h) (kept h))

content_item : {k : PlainKeeper} (c : Content) (i : Value) → Does k (items.content_item c i)
content_item (object.list xs) i s h = elements_item xs i s h
content_item (object.tuple xs) i s h = elements_item xs i s h
content_item (object.dict es) i s h = entries_item es i s h
content_item c i s h = kept h

rock_item : {k : PlainKeeper} (r : Rock) (i : Value) → Does k (items.rock_item r i)
rock_item (rock.Text t) i s h = found (items.place_named (length t) i) s h (λ p s h. character_at t p s h)
rock_item r i s h = kept h

pub item : {k : PlainKeeper} (o i : Value) → Does k (items.item o i)
item (value.Rock r) i s h = rock_item r i s h
item (value.Ref at) i s h = at_content at s h (λ c. content_item c i s h)
item (value.Prox at) i s h = lent_out (at_content at s h (λ c. content_item c i s h))

pub changes : {k : PlainKeeper} → (at : Oid) (f : Content → Content) → Mild f → k.Usable at → Does k
    (items.changed at f)
changes at f spares usable s h = change at usable tt s f spares h

entry_put : {k : PlainKeeper} → (at : Oid) (r : Rock) (v : Value) → k.Usable at → Does k (items.entry_put at r v)
entry_put at r v usable s h = charge (cell_if_new (entry_of s.store.heap at r)) s h
    (λ s h. changes at (with_rock r v) (rock_spares r v) usable s h)

content_set : {k : PlainKeeper} → (at : Oid) (c : Content) (i v : Value) → k.Usable at → Does k
    (items.content_set at c i v)
content_set at (object.list xs) i v usable s h = found (items.place_named (length xs) i) s h
    (λ p s h. changes at (with_element p v) (element_spares p v) usable s h)
content_set at (object.dict es) i v usable s h = found (key_named i) s h (λ r s h. entry_put at r v usable s h)
content_set at c i v usable s h = kept h

content_del : {k : PlainKeeper} → (at : Oid) (c : Content) (i : Value) → k.Usable at → Does k
    (items.content_del at c i)
content_del at (object.list xs) i usable s h = found (items.place_named (length xs) i) s h
    (λ p s h. changes at (without_element p) (removal_spares p) usable s h)
content_del at (object.dict es) i usable s h = found (key_named i) s h (λ r s h. maybe (entry_in es r)
    (λ e. changes at (items.without_rock r) (rock_removal_spares r) usable s h) (kept h))
content_del at c i usable s h = kept h

pub set_item : {k : PlainKeeper} → (o i v : Value) → Bare k o → Does k (items.set_item o i v)
set_item (value.Rock r) i v usable s h = kept h
set_item (value.Ref at) i v usable s h = at_content at s h (λ c. content_set at c i v usable s h)
set_item (value.Prox at) i v usable s h = at_content at s h (λ c. content_set at c i v usable s h)

pub del_item : {k : PlainKeeper} → (o i : Value) → Bare k o → Does k (items.del_item o i)
del_item (value.Rock r) i usable s h = kept h
del_item (value.Ref at) i usable s h = at_content at s h (λ c. content_del at c i usable s h)
del_item (value.Prox at) i usable s h = at_content at s h (λ c. content_del at c i usable s h)

-- ---- slices

rock_slice : {k : PlainKeeper} (r : Rock) (parts : Result Span Raised) → Does k (slices.rock_slice r parts)
rock_slice (rock.Text t) parts s h = found parts s h (λ p s h. new_text (slices.sliced p t) s h)
rock_slice r parts s h = kept h

content_slice : {k : PlainKeeper} (owner : Side) (c : Content) (parts : Result Span Raised)
    → Does k (slices.content_slice owner c parts)
content_slice owner (object.list xs) parts s h =
    found parts s h (λ p s h. new_list owner (slices.sliced p xs) s h)
content_slice owner (object.tuple xs) parts s h =
    found parts s h (λ p s h. new_tuple owner (slices.sliced p xs) s h)
content_slice owner c parts s h = kept h

object_slice : {k : PlainKeeper} (at : Oid) (parts : Result Span Raised) → Does k (slices.object_slice at parts)
object_slice at parts s h = at_content at s h (λ c. content_slice (slices.owner_of at s) c parts s h)

pub slice : {k : PlainKeeper} (o from to by : Value) → Does k (slices.slice o from to by)
slice (value.Rock r) from to by s h = rock_slice r (slices.span_named from to by) s h
slice (value.Ref at) from to by s h = object_slice at (slices.span_named from to by) s h
slice (value.Prox at) from to by s h = lent_out (object_slice at (slices.span_named from to by) s h)

-- ---- attributes

attribute_changes : {k : PlainKeeper} → (at : Oid) (f : Content → Content) → Mild f → k.Usable at → Does k
    (attributes.changes at f)
attribute_changes at f spares usable s h = change at usable tt s f spares h

field_set : {k : PlainKeeper} → (at : Oid) (c : Content) (n : Name) (word : List ℕ) (v : Value)
    → k.Usable at → Does k (attributes.content_set at c n word v)
field_set at (object.instance of fs) n word v usable s h = charge (cell_if_new (field_at s.store.heap at n)) s h
    (λ s h. attribute_changes at (with_field n v) (field_spares n v) usable s h)
field_set at c n word v usable s h = kept h

field_deleted : {k : PlainKeeper} → (at : Oid) (v : Option Value) (n : Name) (word : List ℕ)
    → k.Usable at → Does k (attributes.field_deleted at v n word)
field_deleted at (Some v) n word usable s h = attribute_changes at (without_field n) (field_removal_spares n) usable s h
field_deleted at None n word usable s h = kept h

field_del : {k : PlainKeeper} → (at : Oid) (c : Content) (n : Name) (word : List ℕ) → k.Usable at → Does k
    (attributes.content_del at c n word)
field_del at (object.instance of fs) n word usable s h = field_deleted at (field_at s.store.heap at n) n word usable s h
field_del at c n word usable s h = kept h

set_at : {k : PlainKeeper} → (at : Oid) (n : Name) (word : List ℕ) (v : Value) → k.Usable at → Does k
    (attributes.set_at at n word v)
set_at at n word v usable s h = maybe (content_at s.store.heap at) (λ c. field_set at c n word v usable s h) (kept h)

del_at : {k : PlainKeeper} → (at : Oid) (n : Name) (word : List ℕ) → k.Usable at → Does k (attributes.del_at at n word)
del_at at n word usable s h = maybe (content_at s.store.heap at) (λ c. field_del at c n word usable s h) (kept h)

pub set_attribute : {k : PlainKeeper} → (o : Value) (n : Name) (word : List ℕ) (v : Value)
    → Bare k o → Does k (attributes.set_attribute o n word v)
set_attribute (value.Rock r) n word v usable s h = kept h
set_attribute (value.Ref at) n word v usable s h = set_at at n word v usable s h
set_attribute (value.Prox at) n word v usable s h = set_at at n word v usable s h

pub del_attribute : {k : PlainKeeper} → (o : Value) (n : Name) (word : List ℕ) → Bare k o → Does k
    (attributes.del_attribute o n word)
del_attribute (value.Rock r) n word usable s h = kept h
del_attribute (value.Ref at) n word usable s h = del_at at n word usable s h
del_attribute (value.Prox at) n word usable s h = del_at at n word usable s h

-- ---- the binding of arguments

slot_made : {k : PlainKeeper} (b : Bool) (side : Side) (c : Content) (made : List (Option Value)) → k.Fits c
    → Does k (slots.slot_made b side c made)
slot_made true side c made p s h = bind (new_object side c p s h) (λ v s h. kept h)
slot_made false side c made p s h = kept h

all_made : {k : PlainKeeper} (side : Side) (has_list has_dict : Bool) (vs rest : List Value) (es : List Entry)
    → Does k (binding.all_made side has_list has_dict vs rest es)
all_made {k} side has_list has_dict vs rest es s h =
    bind (slot_made has_list side (object.tuple rest) (map Some vs) (k.tuple rest) s h)
    (λ made s h. slot_made has_dict side (object.dict es) made (k.dict es) s h)

pub binds : {k : PlainKeeper} (side : Side) (names : List (List ℕ)) (ps : tree.Params) (defaults : List Value)
    (a : Arguments)
    → Does k (binding.bind side names ps defaults a)
binds side names (tree.params ps list dict) defaults a s h =
    maybe (slots.elements_for (is_some list) (length (binding.plain_names ps)) a.plain) (λ rest.
    maybe (slots.filled (binding.offered names ps a.plain defaults) a.named) (λ vs.
    maybe (slots.entries_for (is_some dict) names (binding.plain_names ps) a.named) (λ es.
    all_made side (is_some list) (is_some dict) vs rest es s h) (kept h)) (kept h)) (kept h)
