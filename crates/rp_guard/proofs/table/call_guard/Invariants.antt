use Rattle.std.proofs.Common.{◌≡◌, map, drop}
use Rattle.rp_tree.specs.ExpressionViews as views
use Rattle.rp_tree.specs.Maps.{call_site}
use Rattle.rp_guard.proofs.table.call_guard.Given as goal

abbrev pub invariant-arguments : goal.invariant-arguments
invariant-arguments l = call_site (views.args_of (map views.view_arg (drop l.arg-index l.args))) ≡ call_site (views.args_of (map views.view_arg l.args))
