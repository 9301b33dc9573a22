use Rattle.std.proofs.Common.{◌≡◌, ◌∙◌, ◌<◌, ℕ, ap, false, get_or, length, replicate}
use Rattle.rp_interact.specs.ReasonsSteps.{by_groups, by_roles, has_place, lowered, own_grants, own_roles, roles_by_groups}
use Rattle.rp_interact.specs.declared.reason.Reason.TheVariants.{Nothing}
use Rattle.rp_interact.proofs.Tables.{table-is}
use Rattle.rp_interact.proofs.reasons.Reasons.new.Goals as goal

pub returns : goal.returns
returns c =
    let n = c.args.permissions in
    let roles = c.args.roles.now in
    let groups = c.args.groups.now in
    let principal = c.args.principal.now in
    let marks = c.in_ok-marks.marks.items in
    let made = lowered (own_roles principal.roles.items) (lowered (roles_by_groups marks 0 groups) (replicate (length roles) Nothing)) in
    let of_roles : c.lower_own_roles.new.self ≡ made =
    c.lower_own_roles.ensures
    ∙ (λ k. lowered (own_roles (c.deref-3.ensures.value k)) (c.lower_roles_by_groups.ensures k))
    ∙ (λ k. lowered (own_roles principal.roles.items) (lowered (roles_by_groups (c.deref-2.ensures.value k) 0 groups) (c.in_ok-of_roles.ensures k))) in
    let marked : (place : ℕ) → place < length groups → get_or marks place false ≡ has_place principal.groups.items place =
    λ place inside. c.in_ok-marks.ensures place inside ∙ ap (λ places. has_place places place) c.deref.ensures.value in
    c.lower_by_roles.ensures
    ∙ (λ k. lowered (by_roles (of_roles k) 0 roles) (c.lower_by_groups.ensures k))
    ∙ (λ k. lowered (by_roles made 0 roles) (lowered (by_groups (c.deref-4.ensures.value k) 0 groups) (c.lower_own.ensures k)))
    ∙ (λ k. lowered (by_roles made 0 roles) (lowered (by_groups marks 0 groups) (lowered (own_grants principal) (c.in_ok-reasons.ensures k))))
    ∙ table-is n roles groups principal marks marked c.requires.groups c.requires.principal
