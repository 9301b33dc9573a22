use Rattle.std.proofs.Common.{◌≡◌, ◌++◌, map, arith, rules}
use Rattle.std.proofs.lemmas.Grind.{common_steps}
use Rattle.rp_tree.specs.ExpressionViews as views
use Rattle.rp_scope.specs.Bindings as bindings
use Rattle.rp_scope.specs.Bindings.{all_bound}
use Rattle.rp_scope.specs.MentionSteps.{listed}
use Rattle.rp_scope.proofs.Appends.{grown}
use Rattle.rp_scope.proofs.Listings.{targets_part}
use Rattle.rp_scope.proofs.mentions.+note_target.Goals as goal

pub note_targets-targets-preserved : goal.note_targets-targets-preserved
note_targets-targets-preserved t c =
    let step : c.note_target.new.list.items ≡ c.targets.list.items ++ listed c.args.listing (all_bound (bindings.target_names (views.view_target c.target-item.result))) = first_of (search rules, grind arith, grind (arith, common_steps)) in
    grown (λ xs. listed c.args.listing (all_bound (bindings.targets_names (views.targets_of (map views.view_target xs))))) c.args.targets.now c.targets.target-index c.target-item.result (listed c.args.listing (all_bound (bindings.target_names (views.view_target c.target-item.result)))) c.targets.list.items c.note_target.new.list.items c.args.list.now.items (omega arith) c.target-item.is (λ rest. targets_part c.args.listing (views.view_target c.target-item.result) (map views.view_target rest)) step c.targets.invariant
