-- Which value of Expressions an expression of the program stands for: the same parts, whatever room their vectors have.
use Rattle.std.specs.Prelude.{List, [], ◌∷◌, Option, Some, None, option_map}
use Rattle.rp_base.specs.declared.operator.BinOp.{BinOp}
use Rattle.rp_tree.specs.declared.parts.Test.{Test}
use Rattle.rp_tree.specs.declared.expr.Expr as program_expr
use Rattle.rp_tree.specs.declared.expr.ExprForm as program_form
use Rattle.rp_tree.specs.declared.expr.Arg as program_arg
use Rattle.rp_tree.specs.declared.expr.Place as program_place
use Rattle.rp_tree.specs.declared.expr.Target as program_target
use Rattle.rp_tree.specs.declared.expr.Trailer as program_trailer
use Rattle.rp_tree.specs.declared.expr.Clause as program_clause
use Rattle.rp_tree.specs.declared.expr.Params as program_params
use Rattle.rp_tree.specs.declared.expr.Slice as program_slice
use Rattle.rp_tree.specs.declared.expr.Walk as program_walk
use Rattle.rp_tree.specs.declared.expr.Arg.TheOpen as open_arg
use Rattle.rp_tree.specs.declared.expr.Arg.TheFolds as arg_folds
use Rattle.rp_tree.specs.Expressions as tree
use Rattle.rp_tree.specs.Expressions.{Named}

-- the three parts of a slice
abbrev pub Slice : Type 0
Slice = tree.Maybe × tree.Maybe × tree.Maybe

-- the lists of Expressions, from lists

abbrev pub exprs_of : List tree.Expr → tree.Exprs
exprs_of [] = tree.no_exprs
exprs_of (e ∷ es) = tree.expr e (exprs_of es)

abbrev pub maybe_of : Option tree.Expr → tree.Maybe
maybe_of None = tree.none
maybe_of (Some e) = tree.some e

abbrev pub pairs_of : List (tree.Expr × tree.Expr) → tree.Pairs
pairs_of [] = tree.no_pairs
pairs_of (p ∷ ps) = tree.pair p.0 p.1 (pairs_of ps)

abbrev pub tests_of : List (Test × tree.Expr) → tree.Tests
tests_of [] = tree.no_tests
tests_of (p ∷ ps) = tree.test p.0 p.1 (tests_of ps)

abbrev pub ops_of : List (BinOp × tree.Expr) → tree.Ops
ops_of [] = tree.no_ops
ops_of (p ∷ ps) = tree.op p.0 p.1 (ops_of ps)

abbrev pub clauses_of : List tree.Clause → tree.Clauses
clauses_of [] = tree.no_clauses
clauses_of (c ∷ cs) = tree.clause c (clauses_of cs)

abbrev pub targets_of : List tree.Target → tree.Targets
targets_of [] = tree.no_targets
targets_of (p ∷ ps) = tree.target p (targets_of ps)

abbrev pub plain_of : List (Named × Option tree.Expr) → tree.Plain
plain_of [] = tree.no_plain
plain_of (p ∷ ps) = tree.plain p.0 (maybe_of p.1) (plain_of ps)

abbrev pub trailers_of : List tree.Trailer → tree.Trailers
trailers_of [] = tree.no_trailers
trailers_of (x ∷ xs) = tree.trailer x (trailers_of xs)

abbrev pub args_of : List tree.Arg → tree.Args
args_of [] = tree.no_args
args_of (x ∷ xs) = tree.arg x (args_of xs)

-- one level of each type of the program, with what each part stands for in its place

abbrev pub arg_step : open_arg.Arg-F tree.Arg tree.Form tree.Place tree.Target tree.Trailer tree.Clause tree.Expr tree.Params Slice tree.Walk → tree.Arg
arg_step (open_arg.Plain e) = tree.value e
arg_step (open_arg.Star e) = tree.star e
arg_step (open_arg.Key n e) = tree.key n e
arg_step (open_arg.Stars e) = tree.stars e

abbrev pub form_step : open_arg.ExprForm-F tree.Arg tree.Form tree.Place tree.Target tree.Trailer tree.Clause tree.Expr tree.Params Slice tree.Walk → tree.Form
form_step (open_arg.ExprForm::Name n) = tree.name n
form_step (open_arg.Int n) = tree.int n
form_step (open_arg.Text s) = tree.text s
form_step (open_arg.Const c) = tree.const c
form_step (open_arg.Tuple v) = tree.tuple (exprs_of v.items)
form_step (open_arg.List v) = tree.list (exprs_of v.items)
form_step (open_arg.Dict v) = tree.dict (pairs_of v.items)
form_step (open_arg.ListOf b e v) = tree.list_of b.0 e (clauses_of v.items)
form_step (open_arg.DictOf b k e v) = tree.dict_of b.0 k e (clauses_of v.items)
form_step (open_arg.Lambda b p e) = tree.lambda b.0 p.value e
form_step (open_arg.Cond a b c) = tree.cond a b c
form_step (open_arg.Or v) = tree.or (exprs_of v.items)
form_step (open_arg.And v) = tree.and (exprs_of v.items)
form_step (open_arg.Not e) = tree.not e
form_step (open_arg.Compare e v) = tree.compare e (tests_of v.items)
form_step (open_arg.Chain e v) = tree.chain e (ops_of v.items)
form_step (open_arg.Unary u e) = tree.unary u e
form_step (open_arg.Power a b) = tree.power a b
form_step (open_arg.Primary e v) = tree.primary e (trailers_of v.items)

abbrev pub place_step : open_arg.Place-F tree.Arg tree.Form tree.Place tree.Target tree.Trailer tree.Clause tree.Expr tree.Params Slice tree.Walk → tree.Place
place_step (open_arg.Place::Name n) = tree.to_name n
place_step (open_arg.Place::Attr e n g) = tree.to_attr e n g
place_step (open_arg.Place::Item e i g) = tree.to_item e i g

abbrev pub target_step : open_arg.Target-F tree.Arg tree.Form tree.Place tree.Target tree.Trailer tree.Clause tree.Expr tree.Params Slice tree.Walk → tree.Target
target_step (open_arg.Place p) = tree.to_place p
target_step (open_arg.Group v) = tree.group (targets_of v.items)

abbrev pub trailer_step : open_arg.Trailer-F tree.Arg tree.Form tree.Place tree.Target tree.Trailer tree.Clause tree.Expr tree.Params Slice tree.Walk → tree.Trailer
trailer_step (open_arg.Trailer::Attr n g) = tree.attr n g
trailer_step (open_arg.Trailer::Item e g) = tree.item e g
trailer_step (open_arg.Slice b g) = tree.slice b.value.0 b.value.1 b.value.2 g
trailer_step (open_arg.Call v g) = tree.call (args_of v.items) g

abbrev pub clause_step : open_arg.Clause-F tree.Arg tree.Form tree.Place tree.Target tree.Trailer tree.Clause tree.Expr tree.Params Slice tree.Walk → tree.Clause
clause_step c = tree.a_clause c.walk (exprs_of c.tests.items)

abbrev pub expr_step : open_arg.Expr-F tree.Arg tree.Form tree.Place tree.Target tree.Trailer tree.Clause tree.Expr tree.Params Slice tree.Walk → tree.Expr
expr_step e = tree.node e.line e.form.value

abbrev pub params_step : open_arg.Params-F tree.Arg tree.Form tree.Place tree.Target tree.Trailer tree.Clause tree.Expr tree.Params Slice tree.Walk → tree.Params
params_step p = tree.params (plain_of p.plain.items) p.list p.dict

abbrev pub slice_step : open_arg.Slice-F tree.Arg tree.Form tree.Place tree.Target tree.Trailer tree.Clause tree.Expr tree.Params Slice tree.Walk → Slice
slice_step s = (maybe_of s.from, maybe_of s.to, maybe_of s.step)

abbrev pub walk_step : open_arg.Walk-F tree.Arg tree.Form tree.Place tree.Target tree.Trailer tree.Clause tree.Expr tree.Params Slice tree.Walk → tree.Walk
walk_step w = tree.a_walk w.target w.of w.guard

-- the values

abbrev pub view_expr : program_expr.Expr → tree.Expr
view_expr = arg_folds.fold-Expr tree.Arg tree.Form tree.Place tree.Target tree.Trailer tree.Clause tree.Expr tree.Params Slice tree.Walk arg_step form_step place_step target_step trailer_step clause_step expr_step params_step slice_step walk_step

abbrev pub view_form : program_form.ExprForm → tree.Form
view_form = arg_folds.fold-ExprForm tree.Arg tree.Form tree.Place tree.Target tree.Trailer tree.Clause tree.Expr tree.Params Slice tree.Walk arg_step form_step place_step target_step trailer_step clause_step expr_step params_step slice_step walk_step

abbrev pub view_arg : program_arg.Arg → tree.Arg
view_arg = arg_folds.fold-Arg tree.Arg tree.Form tree.Place tree.Target tree.Trailer tree.Clause tree.Expr tree.Params Slice tree.Walk arg_step form_step place_step target_step trailer_step clause_step expr_step params_step slice_step walk_step

abbrev pub view_place : program_place.Place → tree.Place
view_place = arg_folds.fold-Place tree.Arg tree.Form tree.Place tree.Target tree.Trailer tree.Clause tree.Expr tree.Params Slice tree.Walk arg_step form_step place_step target_step trailer_step clause_step expr_step params_step slice_step walk_step

abbrev pub view_target : program_target.Target → tree.Target
view_target = arg_folds.fold-Target tree.Arg tree.Form tree.Place tree.Target tree.Trailer tree.Clause tree.Expr tree.Params Slice tree.Walk arg_step form_step place_step target_step trailer_step clause_step expr_step params_step slice_step walk_step

abbrev pub view_trailer : program_trailer.Trailer → tree.Trailer
view_trailer = arg_folds.fold-Trailer tree.Arg tree.Form tree.Place tree.Target tree.Trailer tree.Clause tree.Expr tree.Params Slice tree.Walk arg_step form_step place_step target_step trailer_step clause_step expr_step params_step slice_step walk_step

abbrev pub view_clause : program_clause.Clause → tree.Clause
view_clause = arg_folds.fold-Clause tree.Arg tree.Form tree.Place tree.Target tree.Trailer tree.Clause tree.Expr tree.Params Slice tree.Walk arg_step form_step place_step target_step trailer_step clause_step expr_step params_step slice_step walk_step

abbrev pub view_params : program_params.Params → tree.Params
view_params = arg_folds.fold-Params tree.Arg tree.Form tree.Place tree.Target tree.Trailer tree.Clause tree.Expr tree.Params Slice tree.Walk arg_step form_step place_step target_step trailer_step clause_step expr_step params_step slice_step walk_step

abbrev pub view_slice : program_slice.Slice → Slice
view_slice = arg_folds.fold-Slice tree.Arg tree.Form tree.Place tree.Target tree.Trailer tree.Clause tree.Expr tree.Params Slice tree.Walk arg_step form_step place_step target_step trailer_step clause_step expr_step params_step slice_step walk_step

abbrev pub view_walk : program_walk.Walk → tree.Walk
view_walk = arg_folds.fold-Walk tree.Arg tree.Form tree.Place tree.Target tree.Trailer tree.Clause tree.Expr tree.Params Slice tree.Walk arg_step form_step place_step target_step trailer_step clause_step expr_step params_step slice_step walk_step

abbrev pub view_pair : program_expr.Expr × program_expr.Expr → tree.Expr × tree.Expr
view_pair p = (view_expr p.0, view_expr p.1)

abbrev pub view_test : Test × program_expr.Expr → Test × tree.Expr
view_test p = (p.0, view_expr p.1)

abbrev pub view_op : BinOp × program_expr.Expr → BinOp × tree.Expr
view_op p = (p.0, view_expr p.1)

abbrev pub view_plain : Named × Option program_expr.Expr → Named × Option tree.Expr
view_plain p = (p.0, option_map view_expr p.1)
