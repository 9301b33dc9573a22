use Rattle.std.proofs.Common.{◌≡◌, map, drop}
use Rattle.rp_tree.specs.ExpressionViews as views
use Rattle.rp_print.specs.WritingSteps.{holds_group}
use Rattle.rp_print.proofs.shapes.holds_group.Given as goal

abbrev pub invariant-targets : goal.invariant-targets
invariant-targets l = holds_group (views.targets_of (map views.view_target (drop l.target-index l.targets))) ≡ holds_group
    (views.targets_of (map views.view_target l.targets))
