use Rattle.std.proofs.Common.{◌≡◌, map, length, drop}
use Rattle.rp_tree.specs.ExpressionViews as views
use Rattle.rp_expr.proofs.Views.{targets_in, joined}
use Rattle.rp_expr.proofs.conversion.+target.Given as goal

abbrev pub invariant-targets_of-exprs : goal.invariant-targets_of-exprs
invariant-targets_of-exprs l = targets_in l.fn.exprs.items ≡ joined (map views.view_target l.found.items) (targets_in (drop (length l.yielded) l.fn.exprs.items))
