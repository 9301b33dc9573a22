use Rattle.std.proofs.Common.{◌≡◌, map, drop}
use Rattle.rp_tree.specs.ExpressionViews as views
use Rattle.rp_print.specs.WritingSteps.{put_inner_specs}
use Rattle.rp_print.proofs.guards.+spec.Given as goal

abbrev pub invariant-write_spec-targets : goal.invariant-write_spec-targets
invariant-write_spec-targets l =
    put_inner_specs l.index (views.targets_of (map views.view_target (drop l.index l.targets))) l.page
    ≡ put_inner_specs 0 (views.targets_of (map views.view_target l.targets)) l.initial.page
