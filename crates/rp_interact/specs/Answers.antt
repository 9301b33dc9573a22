-- When an interaction answers as the declarations say.
use Rattle.std.specs.Prelude.{◌≡◌, ℕ, ◌<◌, List, length, Option, Some, option_and_then, option_map, slice_get}
use Rattle.rp_decl.specs.View.{Placed, declarations_view, group_ids, perm_text, role_ids, text_at}
use Rattle.rp_decl.specs.declared.records.Perm.{Perm}
use Rattle.rp_interact.specs.Interacting.{Interacting, has_in, why_in}
use Rattle.rp_interact.specs.Why as text
use Rattle.rp_interact.specs.declared.who_fault.WhoFault.{WhoFault}
use Rattle.rp_interact.specs.declared.who_fault.WhoFault.TheVariants.{Unknown, Memory}
use Rattle.rp_interact.specs.declared.reason.Reason.{Reason}
use Rattle.rp_interact.specs.declared.reason.Reason.TheVariants.{Public, Own, Role, Group, GroupRole, Nothing}

abbrev pub reason_view : Placed → Reason → text.Reason
reason_view d Public = text.public
reason_view d (Own allowed) = text.own allowed
reason_view d (Role r) = text.role (text_at (role_ids d) r)
reason_view d (Group g allowed) = text.group (text_at (group_ids d) g) allowed
reason_view d (GroupRole g r) = text.group_role (text_at (group_ids d) g) (text_at (role_ids d) r)
reason_view d Nothing = text.nothing

-- why the principal at a place has the permission or not
abbrev pub why_at : Interacting → ℕ → Perm → Option Reason
why_at i k permission = option_map (λ reasons. why_in i.everybody reasons permission) (slice_get i.reasons k)

-- each answer is the one that the declarations say
pub record AnswersAs (names : List (List ℕ)) (d : Placed) (i : Interacting) : Type 0 where
  pub has :
      (permission : Perm) → permission.0 < length d.permissions
      → has_in i permission ≡ text.has_all (declarations_view names d) i.ids (perm_text d.permissions permission)
  pub why :
      (k : ℕ) (permission : Perm) → permission.0 < length d.permissions
      → option_map (reason_view d) (why_at i k permission) ≡ option_and_then (λ id. text.why_of (declarations_view names d) id (perm_text d.permissions permission)) (slice_get i.ids k)

-- no interaction with these principals, for this cause; want of memory needs none
abbrev pub IsRefusedFor : Placed → List (List ℕ) → WhoFault → Type 0
IsRefusedFor d who (Unknown id) = (names : List (List ℕ)) → text.first_unknown (declarations_view names d) who ≡ Some id
IsRefusedFor d who Memory = Unit {0}
