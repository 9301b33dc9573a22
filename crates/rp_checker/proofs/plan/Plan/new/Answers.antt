use Rattle.std.proofs.Common.{sym, ap, ◌∙◌}
use Rattle.std.specs.Map.{lookup}
use Rattle.rp_checker.specs.Lookup.{is_name}
use Rattle.rp_checker.proofs.Plans.{places-within}
use Rattle.rp_checker.proofs.plan.Plan.new.Goals as goal

pub invariant_of-result : goal.invariant_of-result
invariant_of-result c name place here =
    places-within c.args.classes.now (is_name name) place (sym (c.in_ok-places.ensures name ∙ ap (lookup (is_name name)) c.in_ok-class_places.ensures) ∙ here)
