-- What each writer makes of the object that it names. An object of another kind stays as it is.
use Rattle.std.specs.Prelude.{ℕ, List, [], ◌∷◌, ◌++◌, insert, remove, slice_set, Option}
use Rattle.std.specs.Option.{option_map_or}
use Rattle.std.specs.Map.{lookup, remove_entry}
use Rattle.rp_dict.specs.Dict.{insert_entry}
use Rattle.rp_base.specs.declared.value.Name.{Name}
use Rattle.rp_base.specs.declared.value.Oid.{Oid}
use Rattle.rp_base.specs.declared.value.Rock.{Rock}
use Rattle.rp_base.specs.declared.value.Value.{Value}
use Rattle.rp_store.specs.declared.key.Key.{Key}
use Rattle.rp_store.specs.Key.{key_form, same_key, same_name}
use Rattle.rp_store.specs.Object.{Content, list, dict, instance, class, scope}

-- a change of one part of an object of one kind
abbrev pub on_list : (List Value → List Value) → Content → Content
on_list f (list xs) = list (f xs)
on_list f c = c

abbrev pub on_dict : (List (Key × (Rock × Value)) → List (Key × (Rock × Value))) → Content → Content
on_dict f (dict es) = dict (f es)
on_dict f c = c

abbrev pub on_fields : (List (Name × Value) → List (Name × Value)) → Content → Content
on_fields f (instance of fs) = instance of (f fs)
on_fields f c = c

abbrev pub on_methods : (List (Name × Oid) → List (Name × Oid)) → Content → Content
on_methods f (class of declared ms) = class of declared (f ms)
on_methods f c = c

abbrev pub on_slots : (List (Option Value) → List (Option Value)) → Content → Content
on_slots f (scope block parent vs) = scope block parent (f vs)
on_slots f c = c

abbrev pub pushed : Value → Content → Content
pushed value c = on_list (λ xs. xs ++ value ∷ []) c

abbrev pub extended : List Value → Content → Content
extended values c = on_list (λ xs. xs ++ values) c

abbrev pub with_elements : List Value → Content → Content
with_elements values c = on_list (λ xs. values) c

abbrev pub inserted : ℕ → Value → Content → Content
inserted i value c = on_list (λ xs. insert xs i value) c

abbrev pub with_element : ℕ → Value → Content → Content
with_element i value c = on_list (λ xs. slice_set xs i value) c

abbrev pub without_element : ℕ → Content → Content
without_element i c = on_list (λ xs. remove xs i) c

-- the rock as which a key was first written, or the given one where it is new
abbrev pub first_written : Key → Rock → List (Key × (Rock × Value)) → Rock
first_written key rock es = option_map_or (λ entry. entry.0) (lookup (same_key key) es) rock

-- a held key stays as first written and keeps its place; a new one goes last
abbrev pub with_entry : Key → Rock → Value → Content → Content
with_entry key rock value c = on_dict (λ es. insert_entry same_key es key (first_written key rock es, value)) c

-- the same, for the key form of a rock
abbrev pub with_rock : Rock → Value → Content → Content
with_rock rock value c = option_map_or (λ key. with_entry key rock value c) (key_form rock) c

abbrev pub without_entry : Key → Content → Content
without_entry key c = on_dict (λ es. remove_entry (same_key key) es) c

abbrev pub with_field : Name → Value → Content → Content
with_field name value c = on_fields (λ fs. insert_entry same_name fs name value) c

abbrev pub without_field : Name → Content → Content
without_field name c = on_fields (λ fs. remove_entry (same_name name) fs) c

abbrev pub with_method : Name → Oid → Content → Content
with_method name function_at c = on_methods (λ ms. insert_entry same_name ms name function_at) c

abbrev pub with_methods : List (Name × Oid) → Content → Content
with_methods ms c = on_methods (λ old. ms) c

abbrev pub without_methods : Content → Content
without_methods c = on_methods (λ ms. []) c

abbrev pub with_slot : ℕ → Option Value → Content → Content
with_slot i value c = on_slots (λ vs. slice_set vs i value) c
