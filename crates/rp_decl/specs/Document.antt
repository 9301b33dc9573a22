-- The records of a TOML document whose values have the right shapes. A part that is missing is empty; so is one of another
-- shape, which is never read.
use Rattle.std.specs.Prelude.{ℕ, List, [], ◌∷◌, chars, codes, Option, option_map}
use Rattle.std.specs.Option.{option_map_or}
use Rattle.toml.specs.Data.{Data, string, integer, boolean, array, table as table_data, Items, no_items, item, Members, no_members, member, get_member}
use Rattle.rp_decl.specs.Order.{sorted_set}
use Rattle.rp_decl.specs.Records.{Field, int, text, truth, list, table, Fields, no_fields, field, Entries, no_entries, entry, RowText, Class, Role, Group, Principal, Object, Declarations}

-- the permission that everybody has (zope.security)
abbrev pub public : List ℕ
public = codes "zope.Public"

abbrev pub text_of : Data → List ℕ
text_of (string s) = chars s
text_of d = []

abbrev pub item_texts : Items → List (List ℕ)
item_texts no_items = []
item_texts (item d ds) = text_of d ∷ item_texts ds

abbrev pub texts_of : Data → List (List ℕ)
texts_of (array ds) = item_texts ds
texts_of d = []

abbrev pub members_of : Data → Members
members_of (table_data ms) = ms
members_of d = no_members

-- the texts of the array at a key
abbrev pub texts_at : List ℕ → Members → List (List ℕ)
texts_at key ms = option_map_or texts_of (get_member key ms) []

-- what the member at a key is
abbrev pub text_at : List ℕ → Members → Option (List ℕ)
text_at key ms = option_map text_of (get_member key ms)

-- what a reader makes of each member
abbrev pub each_member : {A : Type 0} → (List ℕ → Data → A) → Members → List A
each_member reader no_members = []
each_member reader (member k d ms) = reader k d ∷ each_member reader ms

-- what a reader makes of each member of the table at a key
abbrev pub each_at : {A : Type 0} → (List ℕ → Data → A) → List ℕ → Members → List A
each_at reader key ms = option_map_or (λ d. each_member reader (members_of d)) (get_member key ms) []

abbrev pub key_text : List ℕ → Data → List ℕ
key_text key d = chars key

abbrev pub row_of : List ℕ → Data → RowText
row_of name d = (chars name, text_of d)

abbrev pub class_of : List ℕ → Data → Class
class_of name d =
    let ms = members_of d in
    record { name = chars name; like = text_at (codes "like") ms; get = each_at row_of (codes "get") ms; set = each_at row_of (codes "set") ms }

abbrev pub role_of : List ℕ → Data → Role
role_of id d = record { id = chars id; permissions = texts_at (codes "permissions") (members_of d) }

abbrev pub group_of : List ℕ → Data → Group
group_of id d =
    let ms = members_of d in
    record { id = chars id; roles = texts_at (codes "roles") ms; allow = texts_at (codes "allow") ms; deny = texts_at (codes "deny") ms }

abbrev pub principal_of : List ℕ → Data → Principal
principal_of id d =
    let ms = members_of d in
    record {
      id = chars id;
      groups = texts_at (codes "groups") ms;
      roles = texts_at (codes "roles") ms;
      allow = texts_at (codes "allow") ms;
      deny = texts_at (codes "deny") ms;
    }

abbrev mutual
  pub field_of : Data → Field
  field_of (integer n) = int n
  field_of (string s) = text (chars s)
  field_of (boolean b) = truth b
  field_of (array ds) = list (fields_of ds)
  field_of (table_data ms) = table (entries_of ms)
  field_of d = list no_fields

  pub fields_of : Items → Fields
  fields_of no_items = no_fields
  fields_of (item d ds) = field (field_of d) (fields_of ds)

  pub entries_of : Members → Entries
  entries_of no_members = no_entries
  entries_of (member k d ms) = entry (chars k) (field_of d) (entries_of ms)

abbrev pub named_field : List ℕ → Data → List ℕ × Field
named_field name d = (chars name, field_of d)

abbrev pub object_of : List ℕ → Data → Object
object_of name d =
    let ms = members_of d in
    record { name = chars name; class = option_map_or text_of (get_member (codes "class") ms) []; fields = each_at named_field (codes "fields") ms }

abbrev pub records_of : Members → Declarations
records_of ms = record {
  permissions = sorted_set (public ∷ texts_at (codes "permissions") ms);
  expose = texts_at (codes "expose") ms;
  module_text = option_map_or text_of (get_member (codes "module") ms) [];
  classes = each_at class_of (codes "class") ms;
  roles = each_at role_of (codes "role") ms;
  groups = each_at group_of (codes "group") ms;
  principals = each_at principal_of (codes "principal") ms;
  objects = each_at object_of (codes "object") ms;
}
