use Rattle.std.proofs.Common.{◌≡◌, map, drop}
use Rattle.rp_tree.specs.ExpressionViews as views
use Rattle.rp_tree.specs.Guarded as guardedness
use Rattle.rp_guard.proofs.checks.is_call_guarded.Given as goal

abbrev pub invariant-arguments : goal.invariant-arguments
invariant-arguments l = guardedness.is_call_guarded (views.args_of (map views.view_arg (drop l.arg-index l.args))) l.mark ≡ guardedness.is_call_guarded (views.args_of (map views.view_arg l.args)) l.mark
