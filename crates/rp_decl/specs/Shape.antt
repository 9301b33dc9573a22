-- Where a TOML document has not the shape of a declaration file: the paths of the keys that are unknown, of the values that are of
-- the wrong kind or missing, and of the bad names and ids.
use Rattle.std.specs.Prelude.{ℕ, Bool, true, false, ◌-◌, ◌&&◌, ◌==◌, not, List, [], ◌∷◌, ◌++◌, map, chars, codes, encode_utf8_all, None, is_some, if◌then◌else◌}
use Rattle.std.specs.Map.{lookup}
use Rattle.std.specs.Option.{option_map_or}
use Rattle.toml.specs.Data.{Data, string, integer, boolean, array, table, Items, no_items, item, Members, no_members, member, same_key, get_member}
use Rattle.rp_decl.specs.Document.{members_of}
use Rattle.rp_decl.specs.Word.{is_id, is_declared_name, is_word_of}

-- the keys from the root, joined by dots
abbrev pub Path : Type 0
Path = List ℕ

-- a key within a table at a path; the document's own path is empty
abbrev pub within : Path → List ℕ → Path
within [] key = chars key
within (c ∷ cs) key = c ∷ cs ++ codes "." ++ chars key

-- the faults of a value at a path
abbrev pub Shape : Type 0
Shape = Path → Data → List Path

-- the value at the path is at fault where it fails a test
abbrev pub unless : Bool → Path → List Path
unless true path = []
unless false path = path ∷ []

-- what each member is at fault for, together
abbrev pub all_members : (List ℕ → Data → List Path) → Members → List Path
all_members faults no_members = []
all_members faults (member k d ms) = faults k d ++ all_members faults ms

-- a table, at fault for what its members are at fault for
abbrev pub table_of : (List ℕ → Data → List Path) → Shape
table_of faults path (table ms) = all_members faults ms
table_of faults path d = path ∷ []

abbrev pub is_text : (List ℕ → Bool) → Data → Bool
is_text test (string s) = test (chars s)
is_text test d = false

abbrev pub are_texts : (List ℕ → Bool) → Items → Bool
are_texts test no_items = true
are_texts test (item d ds) = is_text test d && are_texts test ds

abbrev pub is_array : (List ℕ → Bool) → Data → Bool
is_array test (array ds) = are_texts test ds
is_array test d = false

-- a text that passes a test
abbrev pub text : (List ℕ → Bool) → Shape
text test path d = unless (is_text test d) path

-- an array of texts that pass a test
abbrev pub texts : (List ℕ → Bool) → Shape
texts test path d = unless (is_array test d) path

abbrev pub anything : Shape
anything path d = []

-- the keys that a table may have, each with the shape of its value
abbrev pub Keys : Type 0
Keys = List (List ℕ × Shape)

-- what is to have the shape that a key has, at a path
abbrev pub at_key : Keys → List ℕ → Shape
at_key keys key path d = option_map_or (λ shape. shape path d) (lookup (same_key key) keys) (path ∷ [])

-- a member of a table that has no other keys
abbrev pub keyed_member : Keys → Path → List ℕ → Data → List Path
keyed_member keys path k d = at_key keys k (within path k) d

-- a table that has no other keys
abbrev pub keyed : Keys → Shape
keyed keys path = table_of (keyed_member keys path) path

-- a member of a table from keys that pass a test to values of a shape
abbrev pub entry_member : (List ℕ → Bool) → Shape → Path → List ℕ → Data → List Path
entry_member test shape path k d = unless (test (chars k)) (within path k) ++ shape (within path k) d

-- a table from keys that pass a test to values of a shape
abbrev pub entries : (List ℕ → Bool) → Shape → Shape
entries test shape path = table_of (entry_member test shape path) path

-- the most arrays and tables in one another in a field's value
abbrev pub deepest : ℕ
deepest = 64

-- The value of a field, with so many levels left: a whole number, a text, a truth value, or an array or a table of such values.
-- An element of an array has the array's path.
abbrev mutual
  pub field_value : ℕ → Shape
  field_value n path (integer i) = []
  field_value n path (string s) = []
  field_value n path (boolean b) = []
  field_value n path (array ds) = if n == 0 then path ∷ [] else field_items (n - 1) path ds
  field_value n path (table ms) = if n == 0 then path ∷ [] else field_members (n - 1) path ms
  field_value n path d = path ∷ []

  pub field_items : ℕ → Path → Items → List Path
  field_items n path no_items = []
  field_items n path (item d ds) = field_value n path d ++ field_items n path ds

  pub field_members : ℕ → Path → Members → List Path
  field_members n path no_members = []
  field_members n path (member k d ms) = field_value n (within path k) d ++ field_members n path ms

abbrev pub rows : Shape
rows = entries is_declared_name (text is_id)

-- the names of the built-in classes, which a declared class may not have
abbrev pub built_in_classes : List (List ℕ)
built_in_classes = codes "list" ∷ codes "tuple" ∷ codes "dict" ∷ codes "function" ∷ codes "method" ∷ codes "instance" ∷ []

abbrev pub is_class_name : List ℕ → Bool
is_class_name name = is_declared_name name && not (is_word_of built_in_classes name)

abbrev pub class_keys : Keys
class_keys = (codes "like", text is_declared_name) ∷ (codes "get", rows) ∷ (codes "set", rows) ∷ []

-- arrays of ids at these keys
abbrev pub id_arrays : List (List ℕ) → Keys
id_arrays keys = map (λ key. (key, texts is_id)) keys

abbrev pub role_keys : List (List ℕ)
role_keys = codes "permissions" ∷ []

-- in a file of version 2, groups and principals have roles
abbrev pub group_keys : ℕ → List (List ℕ)
group_keys version = if version == 2 then codes "allow" ∷ codes "deny" ∷ codes "roles" ∷ [] else codes "allow" ∷ codes "deny" ∷ []

abbrev pub principal_keys : ℕ → List (List ℕ)
principal_keys version = codes "groups" ∷ group_keys version

abbrev pub object_keys : Keys
object_keys = (codes "class", text is_declared_name) ∷ (codes "fields", entries is_declared_name (field_value deepest)) ∷ []

-- an object has a class
abbrev pub object : Shape
object path (table ms) = keyed object_keys path (table ms) ++ unless (is_some (get_member (codes "class") ms)) (within path (codes "class"))
object path d = path ∷ []

-- the name of an object is that of no declared class
abbrev pub is_object_name : Members → List ℕ → Bool
is_object_name ms name =
    is_declared_name name && not (is_some (option_map_or (λ d. get_member (encode_utf8_all name) (members_of d)) (get_member (codes "class") ms) None))

-- in a file of version 2 there are roles
abbrev pub version_2_keys : ℕ → Keys
version_2_keys version = if version == 2 then (codes "role", entries is_id (keyed (id_arrays role_keys))) ∷ [] else []

abbrev pub document_keys : ℕ → Members → Keys
document_keys version ms =
    (codes "version", anything)
    ∷ (codes "permissions", texts is_id)
    ∷ (codes "expose", texts is_declared_name)
    ∷ (codes "module", text (λ t. true))
    ∷ (codes "class", entries is_class_name (keyed class_keys))
    ∷ (codes "group", entries is_id (keyed (id_arrays (group_keys version))))
    ∷ (codes "principal", entries is_id (keyed (id_arrays (principal_keys version))))
    ∷ (codes "object", entries (is_object_name ms) object)
    ∷ version_2_keys version

-- the faults of a document of a version
abbrev pub faults_of : ℕ → Members → List Path
faults_of version ms = keyed (document_keys version ms) [] (table ms)
