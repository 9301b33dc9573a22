-- The names of declared classes stay among a world's names where operations change what objects hold, or add objects that are no classes.
use Rattle.std.proofs.Common.{◌≡◌, ℕ, zero, suc, ◌+◌, Bool, true, false, List, [], ◌∷◌, length, Option, Some, None, Result, Ok, Err, sym, ap, subst, if◌then◌else◌}
use Rattle.std.specs.Prelude.{nat_lt, remove, slice_set, OnErr}
use Rattle.std.specs.Map.{remove_entry}
use Rattle.std.specs.Option.{option_map_or}
use Rattle.std.proofs.lemmas.List.Elements.{All-cons, All-head, All-tail}
use Rattle.rp_attributes.specs.Attributes as attributes
use Rattle.rp_base.specs.declared.value.Name.{Name}
use Rattle.rp_base.specs.declared.value.Oid.{Oid}
use Rattle.rp_base.specs.declared.value.OpEnd.{OpEnd}
use Rattle.rp_base.specs.declared.value.Raised.{Raised}
use Rattle.rp_base.specs.declared.value.Rock.{Rock}
use Rattle.rp_base.specs.declared.value.Value.{Value}
use Rattle.rp_base.specs.declared.value.Value.TheVariants as value
use Rattle.rp_items.specs.Items as items
use Rattle.rp_ops.specs.Keys.{entry_in, key_named}
use Rattle.rp_ops.specs.Outcome as plain
use Rattle.rp_ops.specs.Outcome.{End, Meets, charged, gives, no_cell, ends, on_answer, on_found, on_value, stepped, with_used}
use Rattle.rp_proxy.proofs.LaterStores.{IsFaithful-stored, with_store}
use Rattle.rp_proxy.specs.Faithful.{IsFaithful}
use Rattle.rp_proxy.specs.Held.{AreNamed, IsNamed}
use Rattle.rp_proxy.specs.declared.world.World.{World}
use Rattle.rp_store.specs.Cost.{cell_if_new}
use Rattle.rp_store.specs.Heap.{Owned, changed_from, content_at, entry_of, field_at}
use Rattle.rp_dict.specs.Dict.{insert_entry}
use Rattle.rp_store.specs.Key.{key_form, same_key, same_name}
use Rattle.rp_store.specs.Object.{Content, list, tuple, dict, instance, class, function, method, scope}
use Rattle.rp_store.specs.Store.{Cells}
use Rattle.rp_store.specs.Writers.{on_dict, on_fields, on_list, first_written, with_element, with_entry, with_field, with_rock, without_element, without_entry, without_field}
use Rattle.rp_store.specs.declared.key.Key.{Key}

module _ (names : List (List ℕ)) where
  -- the names of classes are among them, once an operation has ended
  abbrev pub Named : {A : Type 0} → plain.Outcome A → Type 0
  Named o = AreNamed names o.state.store.heap

  abbrev Holds : Owned → Type 0
  Holds o = IsNamed names o.content

  -- operations that go on

  answer_named : {A B : Type 0} (r : Result A End) (s : plain.State) (go : A → plain.State → plain.Outcome B) → AreNamed names s.store.heap
      → ((a : A) (t : plain.State) → AreNamed names t.store.heap → Named (go a t)) → Named (on_answer r s go)
  answer_named (Ok a) s go h more = more a s h
  answer_named (Err e) s go h more = h

  pub then_named : {A B : Type 0} (o : plain.Outcome A) (go : A → plain.State → plain.Outcome B) → Named o
      → ((a : A) (t : plain.State) → AreNamed names t.store.heap → Named (go a t)) → Named (on_value o go)
  then_named o go h more = answer_named o.answer o.state go h more

  found_named : {A B : Type 0} (r : Result A Raised) (s : plain.State) (go : A → plain.State → plain.Outcome B) → AreNamed names s.store.heap
      → ((a : A) → Named (go a s)) → Named (on_found r s go)
  found_named (Ok a) s go h more = more a
  found_named (Err e) s go h more = h

  pub if_named : {A : Type 0} (b : Bool) (o p : plain.Outcome A) → Named o → Named p → Named (if b then o else p)
  if_named true o p h k = h
  if_named false o p h k = k

  pub charged_named : {A : Type 0} (cells : ℕ) (s : plain.State) (go : plain.State → plain.Outcome A) → AreNamed names s.store.heap
      → ((t : plain.State) → AreNamed names t.store.heap → Named (go t)) → Named (charged cells s go)
  charged_named cells s go h more =
      if_named (nat_lt s.store.limit (s.store.used + cells)) (ends no_cell s) (go (with_used s (s.store.used + cells))) h (more (with_used s (s.store.used + cells)) h)

  steps_named : {A : Type 0} (store : Cells) (n : ℕ) (go : plain.State → plain.Outcome A) → AreNamed names store.heap
      → ((t : plain.State) → AreNamed names t.store.heap → Named (go t)) → Named (stepped (plain.state_of store n) go)
  steps_named store zero go h more = h
  steps_named store (suc n) go h more = more (plain.state_of store n) h

  pub stepped_named : {A : Type 0} (s : plain.State) (go : plain.State → plain.Outcome A) → AreNamed names s.store.heap
      → ((t : plain.State) → AreNamed names t.store.heap → Named (go t)) → Named (stepped s go)
  stepped_named s go h more = steps_named s.store s.steps go h more

  held_named : {A : Type 0} (c : Option Content) (go : Content → plain.Outcome A) (none : plain.Outcome A) → Named none → ((c : Content) → Named (go c))
      → Named (option_map_or go c none)
  held_named None go none h more = h
  held_named (Some c) go none h more = more c

  -- changes of what an object holds

  pub changed_named : (change : Content → Content) → ((c : Content) → IsNamed names c → IsNamed names (change c)) → (heap : List Owned) (at : ℕ) → AreNamed names heap
      → AreNamed names (changed_from heap at change)
  changed_named change keeps [] at h = h
  changed_named change keeps (o ∷ os) zero h =
      All-cons Holds (record { owner = o.owner; content = change o.content }) os (keeps o.content (All-head Holds o os h)) (All-tail Holds o os h)
  changed_named change keeps (o ∷ os) (suc at) h =
      All-cons Holds o (changed_from os at change) (All-head Holds o os h) (changed_named change keeps os at (All-tail Holds o os h))

  pub list_named : (f : List Value → List Value) (c : Content) → IsNamed names c → IsNamed names (on_list f c)
  list_named f (list xs) h = h
  list_named f (tuple xs) h = h
  list_named f (dict es) h = h
  list_named f (instance of fs) h = h
  list_named f (class n true ms) h = h
  list_named f (class n false ms) h = h
  list_named f (function n u b w ds) h = h
  list_named f (method r c) h = h
  list_named f (scope b p vs) h = h

  dict_named : (f : List (Key × (Rock × Value)) → List (Key × (Rock × Value))) (c : Content) → IsNamed names c → IsNamed names (on_dict f c)
  dict_named f (list xs) h = h
  dict_named f (tuple xs) h = h
  dict_named f (dict es) h = h
  dict_named f (instance of fs) h = h
  dict_named f (class n true ms) h = h
  dict_named f (class n false ms) h = h
  dict_named f (function n u b w ds) h = h
  dict_named f (method r c) h = h
  dict_named f (scope b p vs) h = h

  fields_named : (f : List (Name × Value) → List (Name × Value)) (c : Content) → IsNamed names c → IsNamed names (on_fields f c)
  fields_named f (list xs) h = h
  fields_named f (tuple xs) h = h
  fields_named f (dict es) h = h
  fields_named f (instance of fs) h = h
  fields_named f (class n true ms) h = h
  fields_named f (class n false ms) h = h
  fields_named f (function n u b w ds) h = h
  fields_named f (method r c) h = h
  fields_named f (scope b p vs) h = h

  key_named_by : (key : Option Key) (change : Key → Content → Content) → ((k : Key) (c : Content) → IsNamed names c → IsNamed names (change k c)) → (c : Content) → IsNamed names c
      → IsNamed names (option_map_or (λ k. change k c) key c)
  key_named_by None change keeps c h = h
  key_named_by (Some k) change keeps c h = keeps k c h

  -- attributes

  content_set : (at : Oid) (c : Content) (name : Name) (word : List ℕ) (v : Value) (s : plain.State) → AreNamed names s.store.heap → Named (attributes.content_set at c name word v s)
  content_set at (instance of fs) name word v s h =
      charged_named (cell_if_new (field_at s.store.heap at name)) s (attributes.changes at (with_field name v)) h
      (λ t k. changed_named (with_field name v) (fields_named (λ fs. insert_entry same_name fs name v)) t.store.heap at.0 k)
  content_set at _ name word v s h = h

  field_deleted : (at : Oid) (field : Option Value) (name : Name) (word : List ℕ) (s : plain.State) → AreNamed names s.store.heap
      → Named (attributes.field_deleted at field name word s)
  field_deleted at (Some v) name word s h = changed_named (without_field name) (fields_named (λ fs. remove_entry (same_name name) fs)) s.store.heap at.0 h
  field_deleted at None name word s h = h

  content_del : (at : Oid) (c : Content) (name : Name) (word : List ℕ) (s : plain.State) → AreNamed names s.store.heap → Named (attributes.content_del at c name word s)
  content_del at (instance of fs) name word s h = field_deleted at (field_at s.store.heap at name) name word s h
  content_del at _ name word s h = h

  pub attribute_set_named : (a : Value) (name : Name) (word : List ℕ) (v : Value) (s : plain.State) → AreNamed names s.store.heap → Named (attributes.set_attribute a name word v s)
  attribute_set_named (value.Rock r) name word v s h = h
  attribute_set_named (value.Ref at) name word v s h =
      held_named (content_at s.store.heap at) (λ c. attributes.content_set at c name word v s) (attributes.no_attribute word s) h (λ c. content_set at c name word v s h)
  attribute_set_named (value.Prox at) name word v s h =
      held_named (content_at s.store.heap at) (λ c. attributes.content_set at c name word v s) (attributes.no_attribute word s) h (λ c. content_set at c name word v s h)

  pub attribute_deleted_named : (a : Value) (name : Name) (word : List ℕ) (s : plain.State) → AreNamed names s.store.heap → Named (attributes.del_attribute a name word s)
  attribute_deleted_named (value.Rock r) name word s h = h
  attribute_deleted_named (value.Ref at) name word s h =
      held_named (content_at s.store.heap at) (λ c. attributes.content_del at c name word s) (attributes.no_attribute word s) h (λ c. content_del at c name word s h)
  attribute_deleted_named (value.Prox at) name word s h =
      held_named (content_at s.store.heap at) (λ c. attributes.content_del at c name word s) (attributes.no_attribute word s) h (λ c. content_del at c name word s h)

  -- items

  item_put : (at : Oid) (c : Content) (i v : Value) (s : plain.State) → AreNamed names s.store.heap → Named (items.content_set at c i v s)
  item_put at (list xs) i v s h =
      found_named (items.place_named (length xs) i) s (λ p s. items.changed at (with_element p v) s) h
      (λ p. changed_named (with_element p v) (list_named (λ xs. slice_set xs p v)) s.store.heap at.0 h)
  item_put at (dict es) i v s h =
      found_named (key_named i) s (λ r s. items.entry_put at r v s) h
      (λ r. charged_named (cell_if_new (entry_of s.store.heap at r)) s (items.changed at (with_rock r v)) h
      (λ t k. changed_named (with_rock r v) (λ c j. key_named_by (key_form r) (λ key c. with_entry key r v c)
      (λ key c j. dict_named (λ es. insert_entry same_key es key (first_written key r es, v)) c j) c j) t.store.heap at.0 k))
  item_put at _ i v s h = h

  entry_dropped : {A : Type 0} (found : Option A) (at : Oid) (r : Rock) (s : plain.State) → AreNamed names s.store.heap
      → Named (option_map_or (λ e. items.changed at (items.without_rock r) s) found (items.missing_key r s))
  entry_dropped None at r s h = h
  entry_dropped (Some e) at r s h =
      changed_named (items.without_rock r) (λ c j. key_named_by (key_form r) (λ key c. without_entry key c)
      (λ key c j. dict_named (λ es. remove_entry (same_key key) es) c j) c j) s.store.heap at.0 h

  item_dropped : (at : Oid) (c : Content) (i : Value) (s : plain.State) → AreNamed names s.store.heap → Named (items.content_del at c i s)
  item_dropped at (list xs) i s h =
      found_named (items.place_named (length xs) i) s (λ p s. items.changed at (without_element p) s) h
      (λ p. changed_named (without_element p) (list_named (λ xs. remove xs p)) s.store.heap at.0 h)
  item_dropped at (dict es) i s h =
      found_named (key_named i) s (λ r s. option_map_or (λ e. items.changed at (items.without_rock r) s) (entry_in es r) (items.missing_key r s)) h
      (λ r. entry_dropped (entry_in es r) at r s h)
  item_dropped at _ i s h = h

  pub item_set_named : (a i v : Value) (s : plain.State) → AreNamed names s.store.heap → Named (items.set_item a i v s)
  item_set_named (value.Rock r) i v s h = h
  item_set_named (value.Ref at) i v s h = held_named (content_at s.store.heap at) (λ c. items.content_set at c i v s) (items.no_items s) h (λ c. item_put at c i v s h)
  item_set_named (value.Prox at) i v s h = held_named (content_at s.store.heap at) (λ c. items.content_set at c i v s) (items.no_items s) h (λ c. item_put at c i v s h)

  pub item_deleted_named : (a i : Value) (s : plain.State) → AreNamed names s.store.heap → Named (items.del_item a i s)
  item_deleted_named (value.Rock r) i s h = h
  item_deleted_named (value.Ref at) i s h = held_named (content_at s.store.heap at) (λ c. items.content_del at c i s) (items.no_items s) h (λ c. item_dropped at c i s h)
  item_deleted_named (value.Prox at) i s h = held_named (content_at s.store.heap at) (λ c. items.content_del at c i s) (items.no_items s) h (λ c. item_dropped at c i s h)

-- a world stays faithful behind a plain operation after which its names still have those of classes among them
pub stored : {A : Type 0} (w : World) (store : Cells) (steps : ℕ) (r : Result A OpEnd) (o : plain.Outcome A) → Meets r (plain.state_of store steps) o
    → AreNamed w.names o.state.store.heap → OnErr r (store.heap ≡ w.store.heap) → IsFaithful w → IsFaithful (with_store w store)
stored {A = A} w store steps (Ok a) o is named same h = IsFaithful-stored w store (subst (λ (o : plain.Outcome A). AreNamed w.names o.state.store.heap) is named) h
stored w store steps (Err e) o is named same h = IsFaithful-stored w store (subst (AreNamed w.names) (sym same) h.classes) h

-- the same, where an error leaves the store as it was
pub stored_same : {A : Type 0} (w : World) (store : Cells) (steps : ℕ) (r : Result A OpEnd) (o : plain.Outcome A) → Meets r (plain.state_of store steps) o
    → AreNamed w.names o.state.store.heap → OnErr r (store ≡ w.store) → IsFaithful w → IsFaithful (with_store w store)
stored_same w store steps (Ok a) o is named same h = stored w store steps (Ok a) o is named same h
stored_same w store steps (Err e) o is named same h = stored w store steps (Err e) o is named (ap (λ (s : Cells). s.heap) same) h
