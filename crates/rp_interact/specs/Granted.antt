-- The rules for what a principal is granted and denied, with permissions, roles and groups as places.
use Rattle.std.specs.Prelude.{ℕ, Bool, true, false, nat_eq, List, [], ◌∷◌, find, map, Option, option_map, option_and_then, is_some, unwrap_or}
use Rattle.std.specs.List.{list_any, range_with_len, slice_get}
use Rattle.std.specs.Option.{option_map_or}
use Rattle.rp_decl.specs.declared.records.Perm.{Perm}
use Rattle.rp_decl.specs.declared.records.RoleDecl.{RoleDecl}
use Rattle.rp_decl.specs.declared.records.GroupDecl.{GroupDecl}
use Rattle.rp_decl.specs.declared.records.PrincipalDecl.{PrincipalDecl}
use Rattle.rp_interact.specs.Least.{least_of}
use Rattle.rp_interact.specs.declared.reason.Reason.{Reason}
use Rattle.rp_interact.specs.declared.reason.Reason.TheVariants.{Own, Role, Group, GroupRole, Nothing}
use Rattle.rp_interact.specs.Why.{rule}

-- a role's place, and its permissions
pub record RoleGranted : Type 0 where
  pub place : ℕ
  pub permissions : List Perm

-- a group's place, and what it is granted and denied
pub record GroupGranted : Type 0 where
  pub place : ℕ
  pub roles : List RoleGranted
  pub allow : List Perm
  pub deny : List Perm

-- what a principal is granted and denied
pub record Granted : Type 0 where
  pub roles : List RoleGranted
  pub groups : List GroupGranted
  pub allow : List Perm
  pub deny : List Perm

abbrev pub permissions_of : List RoleDecl → ℕ → List Perm
permissions_of roles place = option_map_or (λ r. r.permissions.items) (slice_get roles place) []

abbrev pub role_granted : List RoleDecl → ℕ → RoleGranted
role_granted roles place = record { place = place; permissions = permissions_of roles place }

abbrev pub group_roles : List GroupDecl → ℕ → List ℕ
group_roles groups place = option_map_or (λ g. g.roles.items) (slice_get groups place) []

abbrev pub group_granted : List RoleDecl → List GroupDecl → ℕ → GroupGranted
group_granted roles groups place = record {
  place = place;
  roles = map (role_granted roles) (group_roles groups place);
  allow = option_map_or (λ g. g.allow.items) (slice_get groups place) [];
  deny = option_map_or (λ g. g.deny.items) (slice_get groups place) [];
}

-- what a principal of the declarations is granted and denied
abbrev pub granted_of : List RoleDecl → List GroupDecl → PrincipalDecl → Granted
granted_of roles groups p = record {
  roles = map (role_granted roles) p.roles.items;
  groups = map (group_granted roles groups) p.groups.items;
  allow = p.allow.items;
  deny = p.deny.items;
}

abbrev pub is_in : List Perm → Perm → Bool
is_in permissions permission = list_any (λ p. nat_eq p.0 permission.0) permissions

abbrev pub least_role : List RoleGranted → Perm → Option ℕ
least_role roles permission = least_of (λ r. is_in r.permissions permission) (λ r. r.place) roles

abbrev pub least_denying : List GroupGranted → Perm → Option ℕ
least_denying groups permission = least_of (λ g. is_in g.deny permission) (λ g. g.place) groups

abbrev pub least_allowing : List GroupGranted → Perm → Option ℕ
least_allowing groups permission = least_of (λ g. is_in g.allow permission) (λ g. g.place) groups

abbrev pub least_with_role : List GroupGranted → Perm → Option ℕ
least_with_role groups permission = least_of (λ g. is_some (least_role g.roles permission)) (λ g. g.place) groups

-- the least role of the group at a place
abbrev pub role_at : List GroupGranted → Perm → ℕ → Option ℕ
role_at groups permission place = option_and_then (λ g. least_role g.roles permission) (find (λ g. nat_eq g.place place) groups)

abbrev pub group_role : List GroupGranted → Perm → Option Reason
group_role groups permission = option_and_then (λ g. option_map (GroupRole g) (role_at groups permission g)) (least_with_role groups permission)

abbrev pub first_rule : List (Option Reason) → Reason
first_rule [] = Nothing
first_rule (r ∷ rs) = unwrap_or r (first_rule rs)

-- the rules for a permission that is not everybody's, in their order
abbrev pub rules : Granted → Perm → List (Option Reason)
rules g permission =
    rule (is_in g.deny permission) (Own false)
    ∷ rule (is_in g.allow permission) (Own true)
    ∷ option_map Role (least_role g.roles permission)
    ∷ option_map (λ place. Group place false) (least_denying g.groups permission)
    ∷ option_map (λ place. Group place true) (least_allowing g.groups permission)
    ∷ group_role g.groups permission
    ∷ []

abbrev pub reason : Granted → Perm → Reason
reason g permission = first_rule (rules g permission)

-- why a principal has each of so many permissions or not, where not everybody has it
abbrev pub reasons_of : ℕ → Granted → List Reason
reasons_of permissions g = map (λ place. reason g (record { 0 = place })) (range_with_len 0 permissions)
