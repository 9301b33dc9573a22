-- The reasons of a principal as the program makes them: a grant takes its place where it goes before the reason there.
use Rattle.std.specs.Prelude.{ℕ, Bool, true, false, ◌||◌, ◌&&◌, nat_eq, nat_lt, ◌+◌, List, [], ◌∷◌, ◌++◌, get_or, length, map, set, if◌then◌else◌}
use Rattle.std.specs.List.{list_any}
use Rattle.rp_decl.specs.declared.records.Perm.{Perm}
use Rattle.rp_decl.specs.declared.records.RoleDecl.{RoleDecl}
use Rattle.rp_decl.specs.declared.records.GroupDecl.{GroupDecl}
use Rattle.rp_decl.specs.declared.records.PrincipalDecl.{PrincipalDecl}
use Rattle.rp_interact.specs.declared.reason.Reason.{Reason}
use Rattle.rp_interact.specs.declared.reason.Reason.TheVariants.{Public, Own, Role, Group, GroupRole, Nothing}

-- a rule's place in their order, and then the places that it names
abbrev pub rank : Reason → ℕ × ℕ × ℕ
rank Public = (0, 0, 0)
rank (Own false) = (1, 0, 0)
rank (Own true) = (2, 0, 0)
rank (Role r) = (3, r, 0)
rank (Group g false) = (4, g, 0)
rank (Group g true) = (5, g, 0)
rank (GroupRole g r) = (6, g, r)
rank Nothing = (7, 0, 0)

abbrev pub is_lower : ℕ × ℕ × ℕ → ℕ × ℕ × ℕ → Bool
is_lower a b = nat_lt a.0 b.0 || (nat_eq a.0 b.0 && (nat_lt a.1 b.1 || (nat_eq a.1 b.1 && nat_lt a.2 b.2)))

abbrev pub goes_before : Reason → Reason → Bool
goes_before a b = is_lower (rank a) (rank b)

abbrev pub first_of : Reason → Reason → Reason
first_of a b = if goes_before b a then b else a

abbrev pub is_nothing : Reason → Bool
is_nothing Public = false
is_nothing (Own allowed) = false
is_nothing (Role r) = false
is_nothing (Group g allowed) = false
is_nothing (GroupRole g r) = false
is_nothing Nothing = true

-- a place, and the reason that a grant gives it
abbrev pub Mention : Type 0
Mention = ℕ × Reason

abbrev pub lowered_at : List Reason → ℕ → Reason → List Reason
lowered_at reasons place reason =
    if nat_lt place (length reasons) then set reasons place (first_of (get_or reasons place Nothing) reason) else reasons

abbrev pub lowered : List Mention → List Reason → List Reason
lowered [] reasons = reasons
lowered (m ∷ ms) reasons = lowered ms (lowered_at reasons m.0 m.1)

abbrev pub has_place : List ℕ → ℕ → Bool
has_place places place = list_any (λ p. nat_eq p place) places

abbrev pub granting : Reason → List Perm → List Mention
granting reason = map (λ p. (p.0, reason))

-- what each of some elements gives, which stand at the places from one on
abbrev pub each : {X : Type 0} → (ℕ → X → List Mention) → ℕ → List X → List Mention
each gives place [] = []
each gives place (x ∷ xs) = gives place x ++ each gives (place + 1) xs

-- the grants of a group, and of those groups that are marked
abbrev pub by_group : Bool → ℕ → GroupDecl → List Mention
by_group false place g = []
by_group true place g = granting (Group place false) g.deny.items ++ granting (Group place true) g.allow.items

abbrev pub by_groups : List Bool → ℕ → List GroupDecl → List Mention
by_groups marks = each (λ place g. by_group (get_or marks place false) place g)

-- the roles of a group, and of those groups that are marked
abbrev pub roles_by_group : Bool → ℕ → List ℕ → List Mention
roles_by_group false place roles = []
roles_by_group true place roles = map (λ r. (r, GroupRole place r)) roles

abbrev pub roles_by_groups : List Bool → ℕ → List GroupDecl → List Mention
roles_by_groups marks = each (λ place g. roles_by_group (get_or marks place false) place g.roles.items)

abbrev pub own_roles : List ℕ → List Mention
own_roles = map (λ r. (r, Role r))

-- the permissions of a role, for the reason that the role has
abbrev pub by_role : Reason → List Perm → List Mention
by_role reason permissions = if is_nothing reason then [] else granting reason permissions

abbrev pub by_roles : List Reason → ℕ → List RoleDecl → List Mention
by_roles reasons = each (λ place r. by_role (get_or reasons place Nothing) r.permissions.items)

abbrev pub own_grants : PrincipalDecl → List Mention
own_grants p = granting (Own false) p.deny.items ++ granting (Own true) p.allow.items
