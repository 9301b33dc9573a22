-- One equation for each level of the program's trees: which value it stands for, from those of its parts.
use Rattle.std.proofs.Common.{◌≡◌, ℕ, ℤ, List, map, Option, option_map, Vec, Global, Box, rules}
use Rattle.rp_base.specs.declared.value.Name.{Name}
use Rattle.rp_base.specs.declared.operator.BinOp.{BinOp}
use Rattle.rp_base.specs.declared.operator.UnOp.{UnOp}
use Rattle.rp_tree.specs.declared.parts.Block.{Block}
use Rattle.rp_tree.specs.declared.parts.Guard.{Guard}
use Rattle.rp_tree.specs.declared.parts.Const.{Const}
use Rattle.rp_tree.specs.declared.parts.Test.{Test}
use Rattle.rp_tree.specs.declared.expr.Expr.{Expr, out-Expr}
use Rattle.rp_tree.specs.declared.expr.Clause.{Clause}
use Rattle.rp_tree.specs.declared.expr.Params.{Params}
use Rattle.rp_tree.specs.declared.expr.Slice.{Slice}
use Rattle.rp_tree.specs.declared.expr.Walk.{Walk}
use Rattle.rp_tree.specs.declared.expr.ExprForm.{ExprForm}
use Rattle.rp_tree.specs.declared.expr.Place.{Place}
use Rattle.rp_tree.specs.declared.expr.Target.{Target}
use Rattle.rp_tree.specs.declared.expr.Trailer.{Trailer}
use Rattle.rp_tree.specs.declared.expr.Arg.{Arg}
use Rattle.rp_tree.specs.declared.expr.ExprForm.TheVariants as form
use Rattle.rp_tree.specs.declared.expr.Place.TheVariants as place
use Rattle.rp_tree.specs.declared.expr.Target.TheVariants as target
use Rattle.rp_tree.specs.declared.expr.Trailer.TheVariants as trailer
use Rattle.rp_tree.specs.declared.expr.Arg.TheVariants as arg
use Rattle.rp_tree.specs.declared.expr.Arg.TheFolds.{the_lemmas}
use Rattle.rp_tree.specs.declared.expr.Arg.TheOpen as open_arg
use Rattle.rp_tree.specs.declared.expr.Arg.TheViews.{roll-Params, out-Params, roll-Expr, roll-Clause, out-Clause, roll-Walk, out-Walk, roll-Slice, out-Slice}
use Rattle.rp_tree.specs.Expressions as tree
use Rattle.rp_tree.specs.Expressions.{Named}
use Rattle.rp_tree.specs.ExpressionViews.{view_expr, view_form, view_arg, view_place, view_target, view_trailer, view_clause, view_params, view_slice, view_walk, view_pair, view_test, view_op, view_plain, exprs_of, maybe_of, pairs_of, tests_of, ops_of, clauses_of, targets_of, plain_of, trailers_of, args_of}

pub form_name : (n : Name) → view_form (form.Name n) ≡ tree.name n
form_name n = search (rules, the_lemmas)

pub form_int : (n : ℤ) → view_form (form.Int n) ≡ tree.int n
form_int n = search (rules, the_lemmas)

pub form_text : (s : List ℕ) → view_form (form.Text s) ≡ tree.text s
form_text s = search (rules, the_lemmas)

pub form_const : (c : Const) → view_form (form.Const c) ≡ tree.const c
form_const c = search (rules, the_lemmas)

pub form_tuple : (v : Vec Expr Global) → view_form (form.Tuple v) ≡ tree.tuple (exprs_of (map view_expr v.items))
form_tuple v = search (rules, the_lemmas)

pub form_list : (v : Vec Expr Global) → view_form (form.List v) ≡ tree.list (exprs_of (map view_expr v.items))
form_list v = search (rules, the_lemmas)

pub form_dict : (v : Vec (Expr × Expr) Global) → view_form (form.Dict v) ≡ tree.dict (pairs_of (map view_pair v.items))
form_dict v = search (rules, the_lemmas)

pub form_list_of : (b : Block) (e : Expr) (v : Vec Clause Global) → view_form (form.ListOf b e v) ≡ tree.list_of b.0 (view_expr e) (clauses_of (map view_clause v.items))
form_list_of b e v = search (rules, the_lemmas)

pub form_dict_of : (b : Block) (k e : Expr) (v : Vec Clause Global) → view_form (form.DictOf b k e v) ≡ tree.dict_of b.0 (view_expr k) (view_expr e) (clauses_of (map view_clause v.items))
form_dict_of b k e v = search (rules, the_lemmas)

pub form_lambda : (b : Block) (p : Box Params Global) (e : Expr) → view_form (form.Lambda b p e) ≡ tree.lambda b.0 (view_params p.value) (view_expr e)
form_lambda b p e = search (rules, the_lemmas)

pub form_cond : (a b c : Expr) → view_form (form.Cond a b c) ≡ tree.cond (view_expr a) (view_expr b) (view_expr c)
form_cond a b c = search (rules, the_lemmas)

pub form_or : (v : Vec Expr Global) → view_form (form.Or v) ≡ tree.or (exprs_of (map view_expr v.items))
form_or v = search (rules, the_lemmas)

pub form_and : (v : Vec Expr Global) → view_form (form.And v) ≡ tree.and (exprs_of (map view_expr v.items))
form_and v = search (rules, the_lemmas)

pub form_not : (e : Expr) → view_form (form.Not e) ≡ tree.not (view_expr e)
form_not e = search (rules, the_lemmas)

pub form_compare : (e : Expr) (v : Vec (Test × Expr) Global) → view_form (form.Compare e v) ≡ tree.compare (view_expr e) (tests_of (map view_test v.items))
form_compare e v = search (rules, the_lemmas)

pub form_chain : (e : Expr) (v : Vec (BinOp × Expr) Global) → view_form (form.Chain e v) ≡ tree.chain (view_expr e) (ops_of (map view_op v.items))
form_chain e v = search (rules, the_lemmas)

pub form_unary : (u : UnOp) (e : Expr) → view_form (form.Unary u e) ≡ tree.unary u (view_expr e)
form_unary u e = search (rules, the_lemmas)

pub form_power : (a b : Expr) → view_form (form.Power a b) ≡ tree.power (view_expr a) (view_expr b)
form_power a b = search (rules, the_lemmas)

pub form_primary : (e : Expr) (v : Vec Trailer Global) → view_form (form.Primary e v) ≡ tree.primary (view_expr e) (trailers_of (map view_trailer v.items))
form_primary e v = search (rules, the_lemmas)

pub place_name : (n : Named) → view_place (place.Name n) ≡ tree.to_name n
place_name n = search (rules, the_lemmas)

pub place_attr : (e : Expr) (n : Named) (g : Option Guard) → view_place (place.Attr e n g) ≡ tree.to_attr (view_expr e) n g
place_attr e n g = search (rules, the_lemmas)

pub place_item : (e i : Expr) (g : Option Guard) → view_place (place.Item e i g) ≡ tree.to_item (view_expr e) (view_expr i) g
place_item e i g = search (rules, the_lemmas)

pub target_place : (p : Place) → view_target (target.Place p) ≡ tree.to_place (view_place p)
target_place p = search (rules, the_lemmas)

pub target_group : (v : Vec Target Global) → view_target (target.Group v) ≡ tree.group (targets_of (map view_target v.items))
target_group v = search (rules, the_lemmas)

pub trailer_attr : (n : Named) (g : Option Guard) → view_trailer (trailer.Attr n g) ≡ tree.attr n g
trailer_attr n g = search (rules, the_lemmas)

pub trailer_item : (e : Expr) (g : Option Guard) → view_trailer (trailer.Item e g) ≡ tree.item (view_expr e) g
trailer_item e g = search (rules, the_lemmas)

pub trailer_slice : (s : Box Slice Global) (g : Option Guard) → view_trailer (trailer.Slice s g) ≡ tree.slice (view_slice s.value).0 (view_slice s.value).1 (view_slice s.value).2 g
trailer_slice s g = search (rules, the_lemmas)

pub trailer_call : (v : Vec Arg Global) (g : Option Guard) → view_trailer (trailer.Call v g) ≡ tree.call (args_of (map view_arg v.items)) g
trailer_call v g = search (rules, the_lemmas)

pub arg_plain : (e : Expr) → view_arg (arg.Plain e) ≡ tree.value (view_expr e)
arg_plain e = search (rules, the_lemmas)

pub arg_star : (e : Expr) → view_arg (arg.Star e) ≡ tree.star (view_expr e)
arg_star e = search (rules, the_lemmas)

pub arg_key : (n : Name) (e : Expr) → view_arg (arg.Key n e) ≡ tree.key n (view_expr e)
arg_key n e = search (rules, the_lemmas)

pub arg_stars : (e : Expr) → view_arg (arg.Stars e) ≡ tree.stars (view_expr e)
arg_stars e = search (rules, the_lemmas)

pub expr_out : (x : Expr) → view_expr x ≡ tree.node (out-Expr x).line (view_form (out-Expr x).form.value)
expr_out x = search (rules, the_lemmas)

pub clause_out : (x : Clause) → view_clause x ≡ tree.a_clause (view_walk (out-Clause x).walk) (exprs_of (map view_expr (out-Clause x).tests.items))
clause_out x = search (rules, the_lemmas)

pub walk_out : (x : Walk) → view_walk x ≡ tree.a_walk (view_target (out-Walk x).target) (view_expr (out-Walk x).of) (out-Walk x).guard
walk_out x = search (rules, the_lemmas)

pub params_out : (x : Params) → view_params x ≡ tree.params (plain_of (map view_plain (out-Params x).plain.items)) (out-Params x).list (out-Params x).dict
params_out x = search (rules, the_lemmas)

pub slice_out : (x : Slice) → view_slice x ≡ (maybe_of (option_map view_expr (out-Slice x).from), maybe_of (option_map view_expr (out-Slice x).to), maybe_of (option_map view_expr (out-Slice x).step))
slice_out x = search (rules, the_lemmas)

pub expr_roll : (x : open_arg.Expr-F Arg ExprForm Place Target Trailer Clause Expr Params Slice Walk) → view_expr (roll-Expr x) ≡ tree.node x.line (view_form x.form.value)
expr_roll x = search (rules, the_lemmas)

pub clause_roll : (x : open_arg.Clause-F Arg ExprForm Place Target Trailer Clause Expr Params Slice Walk) → view_clause (roll-Clause x) ≡ tree.a_clause (view_walk x.walk) (exprs_of (map view_expr x.tests.items))
clause_roll x = search (rules, the_lemmas)

pub walk_roll : (x : open_arg.Walk-F Arg ExprForm Place Target Trailer Clause Expr Params Slice Walk) → view_walk (roll-Walk x) ≡ tree.a_walk (view_target x.target) (view_expr x.of) x.guard
walk_roll x = search (rules, the_lemmas)

pub params_roll : (x : open_arg.Params-F Arg ExprForm Place Target Trailer Clause Expr Params Slice Walk) → view_params (roll-Params x) ≡ tree.params (plain_of (map view_plain x.plain.items)) x.list x.dict
params_roll x = search (rules, the_lemmas)

pub slice_roll : (x : open_arg.Slice-F Arg ExprForm Place Target Trailer Clause Expr Params Slice Walk) → view_slice (roll-Slice x) ≡ (maybe_of (option_map view_expr x.from), maybe_of (option_map view_expr x.to), maybe_of (option_map view_expr x.step))
slice_roll x = search (rules, the_lemmas)

-- the variants of the enums
pub ruleset variants = (
  form_name,
  form_int,
  form_text,
  form_const,
  form_tuple,
  form_list,
  form_dict,
  form_list_of,
  form_dict_of,
  form_lambda,
  form_cond,
  form_or,
  form_and,
  form_not,
  form_compare,
  form_chain,
  form_unary,
  form_power,
  form_primary,
  place_name,
  place_attr,
  place_item,
  target_place,
  target_group,
  trailer_attr,
  trailer_item,
  trailer_slice,
  trailer_call,
  arg_plain,
  arg_star,
  arg_key,
  arg_stars,
)
