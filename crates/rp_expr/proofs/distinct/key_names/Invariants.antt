use Rattle.std.proofs.Common.{◌≡◌, ◌++◌, map, drop}
use Rattle.rp_tree.specs.ExpressionViews as views
use Rattle.rp_grammar.specs.Expressions.{key_names}
use Rattle.rp_expr.proofs.distinct.key_names.Given as goal

abbrev pub invariant-arguments : goal.invariant-arguments
invariant-arguments l = key_names (views.args_of (map views.view_arg l.args)) ≡ l.names.items ++ key_names (views.args_of (map views.view_arg (drop l.argument-index l.args)))
