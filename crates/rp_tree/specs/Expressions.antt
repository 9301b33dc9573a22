-- Expressions whose names are places among the names of a text.
use Rattle.rp_base.specs.declared.value.Name.{Name}
use Rattle.rp_tree.specs.ExpressionTrees as trees
pub use Rattle.rp_tree.specs.ExpressionTrees.{node, name, int, text, const, tuple, list, dict, list_of, dict_of, lambda, cond, or, and, not, compare, chain, unary, power, primary, no_exprs, expr, none, some, no_pairs, pair, no_tests, test, no_ops, op, a_clause, no_clauses, clause, a_walk, to_place, group, no_targets, target, to_name, to_attr, to_item, params, no_plain, plain, attr, item, slice, call, no_trailers, trailer, value, star, key, stars, no_args, arg}

abbrev pub Named : Type 0
Named = trees.Named Name

abbrev pub Expr : Type 0
Expr = trees.Expr Name

abbrev pub Form : Type 0
Form = trees.Form Name

abbrev pub Exprs : Type 0
Exprs = trees.Exprs Name

abbrev pub Maybe : Type 0
Maybe = trees.Maybe Name

abbrev pub Pairs : Type 0
Pairs = trees.Pairs Name

abbrev pub Tests : Type 0
Tests = trees.Tests Name

abbrev pub Ops : Type 0
Ops = trees.Ops Name

abbrev pub Clause : Type 0
Clause = trees.Clause Name

abbrev pub Clauses : Type 0
Clauses = trees.Clauses Name

abbrev pub Walk : Type 0
Walk = trees.Walk Name

abbrev pub Target : Type 0
Target = trees.Target Name

abbrev pub Targets : Type 0
Targets = trees.Targets Name

abbrev pub Place : Type 0
Place = trees.Place Name

abbrev pub Params : Type 0
Params = trees.Params Name

abbrev pub Plain : Type 0
Plain = trees.Plain Name

abbrev pub Trailer : Type 0
Trailer = trees.Trailer Name

abbrev pub Trailers : Type 0
Trailers = trees.Trailers Name

abbrev pub Arg : Type 0
Arg = trees.Arg Name

abbrev pub Args : Type 0
Args = trees.Args Name
