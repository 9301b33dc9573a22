-- The records as the program keeps them: names by their places among the program's names, and permissions, roles and groups by
-- their places in the declarations.
use Rattle.std.specs.Prelude.{ℕ, List, [], ◌∷◌, map, option_map, slice_index_or}
use Rattle.rp_base.specs.declared.value.Name.{Name}
use Rattle.rp_decl.specs.declared.records.Perm.{Perm}
use Rattle.rp_decl.specs.declared.records.Field.{Field as FieldDecl, fold-Field}
use Rattle.rp_decl.specs.declared.records.Field.TheOpen.{Field-F}
use Rattle.rp_decl.specs.declared.records.ClassDecl.{ClassDecl}
use Rattle.rp_decl.specs.declared.records.RoleDecl.{RoleDecl}
use Rattle.rp_decl.specs.declared.records.GroupDecl.{GroupDecl}
use Rattle.rp_decl.specs.declared.records.PrincipalDecl.{PrincipalDecl}
use Rattle.rp_decl.specs.declared.records.ObjectDecl.{ObjectDecl}
use Rattle.rp_decl.specs.Records.{Field, int, text, truth, list, table, Fields, no_fields, field, Entries, no_entries, entry, Class, Role, Group, Principal, Object, RowText, Declarations}

pub record Placed : Type 0 where
  pub permissions : List (List ℕ)
  pub expose : List Name
  pub module_text : List ℕ
  pub classes : List ClassDecl
  pub roles : List RoleDecl
  pub groups : List GroupDecl
  pub principals : List PrincipalDecl
  pub objects : List ObjectDecl

-- the text at a place
abbrev pub text_at : List (List ℕ) → ℕ → List ℕ
text_at texts place = slice_index_or texts place []

abbrev pub name_text : List (List ℕ) → Name → List ℕ
name_text names name = text_at names name.0

abbrev pub perm_text : List (List ℕ) → Perm → List ℕ
perm_text permissions perm = text_at permissions perm.0

abbrev pub row_text : List (List ℕ) → List (List ℕ) → Name × Perm → RowText
row_text names permissions row = (name_text names row.0, perm_text permissions row.1)

abbrev pub class_view : List (List ℕ) → List (List ℕ) → ClassDecl → Class
class_view names permissions c = record {
  name = name_text names c.name;
  like = option_map (name_text names) c.like;
  get = map (row_text names permissions) c.get.items;
  set = map (row_text names permissions) c.set.items;
}

abbrev pub role_view : List (List ℕ) → RoleDecl → Role
role_view permissions r = record { id = r.id; permissions = map (perm_text permissions) r.permissions.items }

abbrev pub group_view : List (List ℕ) → List (List ℕ) → GroupDecl → Group
group_view permissions roles g = record {
  id = g.id;
  roles = map (text_at roles) g.roles.items;
  allow = map (perm_text permissions) g.allow.items;
  deny = map (perm_text permissions) g.deny.items;
}

abbrev pub principal_view : List (List ℕ) → List (List ℕ) → List (List ℕ) → PrincipalDecl → Principal
principal_view permissions roles groups p = record {
  id = p.id;
  groups = map (text_at groups) p.groups.items;
  roles = map (text_at roles) p.roles.items;
  allow = map (perm_text permissions) p.allow.items;
  deny = map (perm_text permissions) p.deny.items;
}

abbrev pub fields_of : List Field → Fields
fields_of [] = no_fields
fields_of (x ∷ xs) = field x (fields_of xs)

abbrev pub entries_of : List (List ℕ × Field) → Entries
entries_of [] = no_entries
entries_of (x ∷ xs) = entry x.0 x.1 (entries_of xs)

-- one level, with the values inside already seen
abbrev pub field_step : Field-F Field → Field
field_step (Field-F.Int n) = int n
field_step (Field-F.Text t) = text t
field_step (Field-F.Truth b) = truth b
field_step (Field-F.List v) = list (fields_of v.items)
field_step (Field-F.Table v) = table (entries_of v.items)

abbrev pub field_view : FieldDecl → Field
field_view = fold-Field Field field_step

abbrev pub fields_view : List FieldDecl → Fields
fields_view fields = fields_of (map field_view fields)

abbrev pub entries_view : List (List ℕ × FieldDecl) → Entries
entries_view entries = entries_of (map (λ e. (e.0, field_view e.1)) entries)

abbrev pub object_view : List (List ℕ) → ObjectDecl → Object
object_view names o = record {
  name = name_text names o.name;
  class = name_text names o.class;
  fields = map (λ f. (name_text names f.0, field_view f.1)) o.fields.items;
}

abbrev pub role_ids : Placed → List (List ℕ)
role_ids d = map (λ r. r.id) d.roles

abbrev pub group_ids : Placed → List (List ℕ)
group_ids d = map (λ g. g.id) d.groups

-- the records, where these are the program's names
abbrev pub declarations_view : List (List ℕ) → Placed → Declarations
declarations_view names d = record {
  permissions = d.permissions;
  expose = map (name_text names) d.expose;
  module_text = d.module_text;
  classes = map (class_view names d.permissions) d.classes;
  roles = map (role_view d.permissions) d.roles;
  groups = map (group_view d.permissions (role_ids d)) d.groups;
  principals = map (principal_view d.permissions (role_ids d) (group_ids d)) d.principals;
  objects = map (object_view names) d.objects;
}
