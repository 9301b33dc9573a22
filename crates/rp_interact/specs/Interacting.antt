-- Interactions as the program keeps them: for each principal why it has each permission or not, and the kept answers.
use Rattle.std.specs.Prelude.{ℕ, Bool, true, false, ◌||◌, nat_eq, List, get_or, Option, if◌then◌else◌}
use Rattle.std.specs.List.{list_all}
use Rattle.std.specs.Option.{option_map_or}
use Rattle.rp_decl.specs.declared.records.Perm.{Perm}
use Rattle.rp_interact.specs.declared.reason.Reason.{Reason}
use Rattle.rp_interact.specs.declared.reason.Reason.TheVariants.{Public, Own, Role, Group, GroupRole, Nothing}

-- An interaction: the ids of its principals, the place of the permission that everybody has, for each principal why it has
-- each of the other permissions or not, by the permission's place, and the answers that are kept, the latest used first.
pub record Interacting : Type 0 where
  pub ids : List (List ℕ)
  pub everybody : Option ℕ
  pub reasons : List (List Reason)
  pub kept : List (Perm × Bool)

-- the reason at a permission's place
abbrev pub reason_at : List Reason → Perm → Reason
reason_at reasons permission = get_or reasons permission.0 Nothing

abbrev pub is_everybody : Option ℕ → Perm → Bool
is_everybody place permission = option_map_or (nat_eq permission.0) place false

abbrev pub why_in : Option ℕ → List Reason → Perm → Reason
why_in everybody reasons permission = if is_everybody everybody permission then Public else reason_at reasons permission

abbrev pub is_yes : Reason → Bool
is_yes Public = true
is_yes (Own allowed) = allowed
is_yes (Role r) = true
is_yes (Group g allowed) = allowed
is_yes (GroupRole g r) = true
is_yes Nothing = false

abbrev pub has_in : Interacting → Perm → Bool
has_in i permission =
    is_everybody i.everybody permission || list_all (λ reasons. is_yes (reason_at reasons permission)) i.reasons
