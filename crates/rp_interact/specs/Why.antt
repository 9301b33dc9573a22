-- Whether a principal has a permission, and why (zope.security, permissions and grants). The order of the rules is own.
use Rattle.std.specs.Prelude.{ℕ, Bool, true, false, ◌||◌, not, List, [], ◌∷◌, filter, find, if◌then◌else◌, Option, Some, None, option_map, option_and_then, is_some, unwrap_or}
use Rattle.std.specs.List.{list_all}
use Rattle.std.specs.Option.{option_map_or}
use Rattle.rp_base.specs.Same.{same_text}
use Rattle.rp_decl.specs.Document.{public as zope_public}
use Rattle.rp_decl.specs.Order.{least}
use Rattle.rp_decl.specs.Records.{Role, Group, Principal, Declarations}
use Rattle.rp_decl.specs.Word.{is_among}

-- The rule that decides: the permission is everybody's, the principal's own grant or denial, one of its roles, a grant or denial
-- of one of its groups, a role of one of its groups, or none.
pub data Reason : Type 0 where
  public : Reason
  own : Bool → Reason
  role : List ℕ → Reason
  group : List ℕ → Bool → Reason
  group_role : List ℕ → List ℕ → Reason
  nothing : Reason

abbrev pub is_yes : Reason → Bool
is_yes public = true
is_yes (own allowed) = allowed
is_yes (role r) = true
is_yes (group g allowed) = allowed
is_yes (group_role g r) = true
is_yes nothing = false

abbrev pub role_named : Declarations → List ℕ → Option Role
role_named d id = find (λ r. same_text id r.id) d.roles

abbrev pub group_named : Declarations → List ℕ → Option Group
group_named d id = find (λ g. same_text id g.id) d.groups

abbrev pub principal_named : Declarations → List ℕ → Option Principal
principal_named d id = find (λ p. same_text id p.id) d.principals

abbrev pub role_has : Declarations → List ℕ → List ℕ → Bool
role_has d permission id = option_map_or (λ r. is_among r.permissions permission) (role_named d id) false

-- the least of some roles that has the permission, in byte order of ids
abbrev pub role_among : Declarations → List ℕ → List (List ℕ) → Option (List ℕ)
role_among d permission ids = least (filter (role_has d permission) ids)

abbrev pub group_denies : Declarations → List ℕ → List ℕ → Bool
group_denies d permission id = option_map_or (λ g. is_among g.deny permission) (group_named d id) false

abbrev pub group_allows : Declarations → List ℕ → List ℕ → Bool
group_allows d permission id = option_map_or (λ g. is_among g.allow permission) (group_named d id) false

-- the least of the group's roles that has the permission
abbrev pub role_of_group : Declarations → List ℕ → List ℕ → Option (List ℕ)
role_of_group d permission id = option_and_then (λ g. role_among d permission g.roles) (group_named d id)

-- the least of the groups with such a role, and the role
abbrev pub group_with_role : Declarations → List ℕ → List (List ℕ) → Option Reason
group_with_role d permission ids =
    option_and_then (λ g. option_map (group_role g) (role_of_group d permission g)) (least (filter (λ g. is_some (role_of_group d permission g)) ids))

-- a rule, where it applies
abbrev pub rule : {A : Type 0} → Bool → A → Option A
rule applies reason = if applies then Some reason else None

-- the first rule that applies
abbrev pub first_rule : List (Option Reason) → Reason
first_rule [] = nothing
first_rule (r ∷ rs) = unwrap_or r (first_rule rs)

-- the rules for a permission that is not everybody's, in their order
abbrev pub rules : Declarations → Principal → List ℕ → List (Option Reason)
rules d p permission =
    rule (is_among p.deny permission) (own false)
    ∷ rule (is_among p.allow permission) (own true)
    ∷ option_map role (role_among d permission p.roles)
    ∷ option_map (λ g. group g false) (least (filter (group_denies d permission) p.groups))
    ∷ option_map (λ g. group g true) (least (filter (group_allows d permission) p.groups))
    ∷ group_with_role d permission p.groups
    ∷ []

abbrev pub why : Declarations → Principal → List ℕ → Reason
why d p permission = first_rule (rule (same_text permission zope_public) public ∷ rules d p permission)

-- why the principal with this id has the permission or not
abbrev pub why_of : Declarations → List ℕ → List ℕ → Option Reason
why_of d id permission = option_map (λ p. why d p permission) (principal_named d id)

abbrev pub id_has : Declarations → List ℕ → List ℕ → Bool
id_has d permission id = option_map_or is_yes (why_of d id permission) false

-- Everybody has `zope.Public`; else each of the principals has the permission. Repeats change nothing.
abbrev pub has_all : Declarations → List (List ℕ) → List ℕ → Bool
has_all d who permission = same_text permission zope_public || list_all (id_has d permission) who

-- the first id that names no principal
abbrev pub first_unknown : Declarations → List (List ℕ) → Option (List ℕ)
first_unknown d who = find (λ id. not (is_some (principal_named d id))) who
