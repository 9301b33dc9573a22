-- How the program's records are made of a document, where all that they name is known.
use Rattle.std.specs.Prelude.{◌≡◌, ℕ, ◌<◌, true, List, [], ◌∷◌, length, Option, Some, None}
use Rattle.std.specs.List.{AllByRecursion}
use Rattle.std.specs.Option.{IfSome}
use Rattle.rp_base.specs.declared.value.Name.{Name}
use Rattle.rp_decl.specs.declared.records.Perm.{Perm}
use Rattle.rp_decl.specs.declared.records.Field.{Field as FieldDecl}
use Rattle.rp_decl.specs.declared.records.ClassDecl.{ClassDecl}
use Rattle.rp_decl.specs.declared.records.RoleDecl.{RoleDecl}
use Rattle.rp_decl.specs.declared.records.GroupDecl.{GroupDecl}
use Rattle.rp_decl.specs.declared.records.PrincipalDecl.{PrincipalDecl}
use Rattle.rp_decl.specs.declared.records.ObjectDecl.{ObjectDecl}
use Rattle.rp_decl.specs.declared.known_ids.Known.{Known}
use Rattle.rp_decl.specs.Consistency.{group_ids, role_ids}
use Rattle.rp_decl.specs.InOrder.{IsInOrder, IsClassInOrder, IsObjectInOrder}
use Rattle.rp_decl.specs.Places.{GrowsTo, IsHeld, IsClassHeld, IsObjectHeld, IsClassWithin, IsRoleWithin, IsGroupWithin, IsPrincipalWithin}
use Rattle.rp_decl.specs.Records.{Field, RowText, Class, Role, Group, Principal, Object, Declarations}
use Rattle.rp_decl.specs.View.{class_view, field_view, group_view, name_text, object_view, principal_view, role_view, text_at}
use Rattle.rp_decl.specs.Word.{is_declared_name, is_among}

-- the front of some values is shown by these, and the rest is left
abbrev pub Shows : {X A : Type 0} → (X → A → Type 0) → List X → List A → List A → Type 0
Shows R [] values rest = values ≡ rest
Shows R (x ∷ xs) [] rest = ⊥
Shows R (x ∷ xs) (value ∷ values) rest = R x value × Shows R xs values rest

-- it holds for these names, and for all to which they grow
abbrev pub FromNowOn : List (List ℕ) → (List (List ℕ) → Type 0) → Type 0
FromNowOn names P = (later : List (List ℕ)) → GrowsTo names later → P later

abbrev pub IsName : List ℕ → Type 0
IsName word = is_declared_name word ≡ true

abbrev pub IsAmong : List (List ℕ) → List ℕ → Type 0
IsAmong known text = is_among known text ≡ true

abbrev pub ShowsName : List (List ℕ) → Name → List ℕ → Type 0
ShowsName names name word = (name_text names name ≡ word) × IsHeld names name

abbrev pub ShowsLike : List (List ℕ) → Option Name → Option (List ℕ) → Type 0
ShowsLike names None like = None ≡ like
ShowsLike names (Some name) None = ⊥
ShowsLike names (Some name) (Some word) = ShowsName names name word

abbrev pub ShowsPlace : List (List ℕ) → ℕ → List ℕ → Type 0
ShowsPlace known place text = (text_at known place ≡ text) × (place < length known)

abbrev pub IsKnownRow : Known → RowText → Type 0
IsKnownRow known row = IsName row.0 × IsAmong known.permissions row.1

pub record ShowsRow (names : List (List ℕ)) (known : Known) (row : Name × Perm) (text : RowText) : Type 0 where
  pub name : ShowsName names row.0 text.0
  pub perm : ShowsPlace known.permissions row.1.0 text.1

pub record IsKnownClass (known : Known) (c : Class) : Type 0 where
  pub name : IsName c.name
  pub like : IfSome c.like IsName
  pub get : AllByRecursion (IsKnownRow known) c.get
  pub set : AllByRecursion (IsKnownRow known) c.set

pub record ShowsClass (names : List (List ℕ)) (known : Known) (decl : ClassDecl) (c : Class) : Type 0 where
  pub shown : class_view names known.permissions decl ≡ c
  pub held : IsClassHeld names decl
  pub within : IsClassWithin (length known.permissions) decl
  pub ordered : IsClassInOrder c

-- these are the permissions, roles and groups that the records declare
pub record IsKnownBy (known : Known) (d : Declarations) : Type 0 where
  pub permissions : known.permissions ≡ d.permissions
  pub roles : known.roles ≡ role_ids d
  pub groups : known.groups ≡ group_ids d

abbrev pub IsKnownRole : Known → Role → Type 0
IsKnownRole known r = AllByRecursion (IsAmong known.permissions) r.permissions

pub record ShowsRole (known : Known) (decl : RoleDecl) (r : Role) : Type 0 where
  pub shown : role_view known.permissions decl ≡ r
  pub within : IsRoleWithin (length known.permissions) decl

pub record IsKnownGroup (known : Known) (g : Group) : Type 0 where
  pub roles : AllByRecursion (IsAmong known.roles) g.roles
  pub allow : AllByRecursion (IsAmong known.permissions) g.allow
  pub deny : AllByRecursion (IsAmong known.permissions) g.deny

pub record ShowsGroup (known : Known) (decl : GroupDecl) (g : Group) : Type 0 where
  pub shown : group_view known.permissions known.roles decl ≡ g
  pub within : IsGroupWithin (length known.permissions) (length known.roles) decl

pub record IsKnownPrincipal (known : Known) (p : Principal) : Type 0 where
  pub groups : AllByRecursion (IsAmong known.groups) p.groups
  pub roles : AllByRecursion (IsAmong known.roles) p.roles
  pub allow : AllByRecursion (IsAmong known.permissions) p.allow
  pub deny : AllByRecursion (IsAmong known.permissions) p.deny

pub record ShowsPrincipal (known : Known) (decl : PrincipalDecl) (p : Principal) : Type 0 where
  pub shown : principal_view known.permissions known.roles known.groups decl ≡ p
  pub within : IsPrincipalWithin (length known.permissions) (length known.roles) (length known.groups) decl

abbrev pub IsKnownField : List ℕ × Field → Type 0
IsKnownField field = IsName field.0

pub record ShowsField (names : List (List ℕ)) (decl : Name × FieldDecl) (field : List ℕ × Field) : Type 0 where
  pub name : ShowsName names decl.0 field.0
  pub value : field_view decl.1 ≡ field.1
  pub ordered : IsInOrder field.1

pub record IsKnownObject (o : Object) : Type 0 where
  pub name : IsName o.name
  pub class : IsName o.class
  pub fields : AllByRecursion IsKnownField o.fields

pub record ShowsObject (names : List (List ℕ)) (decl : ObjectDecl) (o : Object) : Type 0 where
  pub shown : object_view names decl ≡ o
  pub held : IsObjectHeld names decl
  pub ordered : IsObjectInOrder o

-- all that the records name is known, and all their names are names
pub record IsAllKnown (known : Known) (d : Declarations) : Type 0 where
  pub expose : AllByRecursion IsName d.expose
  pub classes : AllByRecursion (IsKnownClass known) d.classes
  pub roles : AllByRecursion (IsKnownRole known) d.roles
  pub groups : AllByRecursion (IsKnownGroup known) d.groups
  pub principals : AllByRecursion (IsKnownPrincipal known) d.principals
  pub objects : AllByRecursion IsKnownObject d.objects
