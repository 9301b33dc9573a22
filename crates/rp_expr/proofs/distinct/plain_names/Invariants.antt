use Rattle.std.proofs.Common.{◌≡◌, ◌++◌, map, drop}
use Rattle.rp_tree.specs.ExpressionViews as views
use Rattle.rp_grammar.specs.Expressions.{plain_names}
use Rattle.rp_expr.proofs.distinct.plain_names.Given as goal

abbrev pub invariant-plain : goal.invariant-plain
invariant-plain l = plain_names (views.plain_of (map views.view_plain l.plain)) ≡ l.names.items ++ plain_names (views.plain_of (map views.view_plain (drop l.parameter-index l.plain)))
