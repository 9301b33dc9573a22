-- The places in the records are those of something.
use Rattle.std.specs.Prelude.{ℕ, ◌<◌, List, length}
use Rattle.std.specs.List.{All}
use Rattle.std.specs.Option.{IfSome}
pub use Rattle.rp_base.specs.Names.{GrowsTo}
use Rattle.rp_base.specs.declared.value.Name.{Name}
use Rattle.rp_decl.specs.declared.records.Perm.{Perm}
use Rattle.rp_decl.specs.declared.records.ClassDecl.{ClassDecl}
use Rattle.rp_decl.specs.declared.records.RoleDecl.{RoleDecl}
use Rattle.rp_decl.specs.declared.records.GroupDecl.{GroupDecl}
use Rattle.rp_decl.specs.declared.records.PrincipalDecl.{PrincipalDecl}
use Rattle.rp_decl.specs.declared.records.ObjectDecl.{ObjectDecl}
use Rattle.rp_decl.specs.View.{Placed}

-- among so many permissions
abbrev pub ArePerms : ℕ → List Perm → Type 0
ArePerms permissions = All (λ perm. perm.0 < permissions)

abbrev pub AreRows : ℕ → List (Name × Perm) → Type 0
AreRows permissions = All (λ row. row.1.0 < permissions)

-- among so many
abbrev pub AreBelow : ℕ → List ℕ → Type 0
AreBelow count = All (λ place. place < count)

pub record IsClassWithin (permissions : ℕ) (c : ClassDecl) : Type 0 where
  pub get : AreRows permissions c.get.items
  pub set : AreRows permissions c.set.items

abbrev pub IsRoleWithin : ℕ → RoleDecl → Type 0
IsRoleWithin permissions r = ArePerms permissions r.permissions.items

pub record IsGroupWithin (permissions roles : ℕ) (g : GroupDecl) : Type 0 where
  pub roles_within : AreBelow roles g.roles.items
  pub allow : ArePerms permissions g.allow.items
  pub deny : ArePerms permissions g.deny.items

pub record IsPrincipalWithin (permissions roles groups : ℕ) (p : PrincipalDecl) : Type 0 where
  pub groups_within : AreBelow groups p.groups.items
  pub roles_within : AreBelow roles p.roles.items
  pub allow : ArePerms permissions p.allow.items
  pub deny : ArePerms permissions p.deny.items

-- each permission, role and group in the records is declared
pub record IsClosed (d : Placed) : Type 0 where
  pub classes : All (IsClassWithin (length d.permissions)) d.classes
  pub roles : All (IsRoleWithin (length d.permissions)) d.roles
  pub groups : All (IsGroupWithin (length d.permissions) (length d.roles)) d.groups
  pub principals : All (IsPrincipalWithin (length d.permissions) (length d.roles) (length d.groups)) d.principals

-- the name is one of these
abbrev pub IsHeld : List (List ℕ) → Name → Type 0
IsHeld names name = name.0 < length names

pub record IsClassHeld (names : List (List ℕ)) (c : ClassDecl) : Type 0 where
  pub name : IsHeld names c.name
  pub like : IfSome c.like (IsHeld names)
  pub get : All (λ row. IsHeld names row.0) c.get.items
  pub set : All (λ row. IsHeld names row.0) c.set.items

pub record IsObjectHeld (names : List (List ℕ)) (o : ObjectDecl) : Type 0 where
  pub name : IsHeld names o.name
  pub class : IsHeld names o.class
  pub fields : All (λ f. IsHeld names f.0) o.fields.items

-- each name in the records is one of these
pub record IsHeldBy (names : List (List ℕ)) (d : Placed) : Type 0 where
  pub expose : All (IsHeld names) d.expose
  pub classes : All (IsClassHeld names) d.classes
  pub objects : All (IsObjectHeld names) d.objects
