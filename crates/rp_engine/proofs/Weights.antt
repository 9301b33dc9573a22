-- What is begun with no step weighs less than the whole.
use Rattle.std.proofs.Common.{◌≡◌, ◌≤◌, ◌+◌, ◌-◌, ◌*◌, suc, List, [], ◌∷◌, map, length, get_or, take, drop, Option, Vec, Global, sym, ap, ◌∙◌, arith, refl}
use Rattle.rp_base.specs.declared.operator.BinOp.{BinOp}
use Rattle.rp_base.specs.declared.value.Name.{Name}
use Rattle.rp_frame.specs.declared.spot.Adds.{Adds}
use Rattle.rp_grammar.specs.Program.{highest}
use Rattle.rp_tree.specs.Expressions.{Named}
use Rattle.rp_tree.specs.Heights as tree_heights
use Rattle.rp_tree.specs.Heights.{arg_height, expr_height, place_height}
use Rattle.rp_tree.specs.declared.parts.Guard.{Guard}
use Rattle.rp_tree.specs.declared.parts.Test.{Test}
use Rattle.rp_tree.specs.declared.expr.Arg.{Arg}
use Rattle.rp_tree.specs.declared.expr.Arg.TheVariants as arg
use Rattle.rp_tree.specs.declared.expr.Arg.TheViews.{out-Clause, out-Walk}
use Rattle.rp_tree.specs.declared.expr.Clause.{Clause}
use Rattle.rp_tree.specs.declared.expr.Expr.{Expr, out-Expr}
use Rattle.rp_tree.specs.declared.expr.ExprForm.{ExprForm}
use Rattle.rp_tree.specs.declared.expr.ExprForm.TheVariants as form
use Rattle.rp_tree.specs.declared.expr.Place.{Place}
use Rattle.rp_tree.specs.declared.expr.Place.TheVariants as place
use Rattle.rp_tree.specs.declared.expr.Target.{Target}
use Rattle.rp_tree.specs.declared.expr.Target.TheVariants as target
use Rattle.rp_tree.specs.declared.expr.Trailer.{Trailer}
use Rattle.rp_tree.specs.declared.stmt.Branch.{Branch}
use Rattle.rp_tree.specs.declared.stmt.Except.{Except}
use Rattle.rp_tree.specs.declared.stmt.StmtForm.TheViews.{out-Branch, out-Except}
use Rattle.rp_tree.specs.ExpressionViews.{exprs_of, targets_of, view_expr, view_target}
use Rattle.rp_tree.proofs.ExpressionEquations as equations
use Rattle.rp_tree.proofs.StatementEquations as stmt_equations
use Rattle.rp_engine.specs.Loads as loads
use Rattle.rp_engine.specs.Loads.{args, branches, excepts, expr_weight, exprs, maybe, nest, operands, pairs, params, places, targets}
use Rattle.rp_access.proofs.Lists.{first_rest}

-- an expression and its form

pub inside_is : (x : Expr) → loads.inside x ≡ loads.form (out-Expr x).form.value
unfolding loads.inside loads.form
inside_is x = ap (λ e. 2 * expr_height e) (equations.expr_out x)

pub form_least : (x : ExprForm) → 2 ≤ loads.form x
unfolding loads.form
form_least x = omega arith

-- a call that is asked for

pub called_least : 5 ≤ loads.called
unfolding loads.called
called_least = omega arith

-- it weighs more than the expression of a `lambda` that is low enough, and what waits for that
pub called_over : (x : Expr) → expr_height (view_expr x) ≤ highest → 5 + loads.inside x ≤ loads.called
unfolding loads.called loads.inside
called_over x low = omega (arith, low)

-- what begins with no step of its own

pub chain_first : (x : Expr) (ps : Vec (BinOp × Expr) Global) → 2 + loads.inside x ≤ loads.form (form.Chain x ps)
unfolding loads.inside loads.form
chain_first x ps = rw (equations.form_chain x ps) (omega arith)

pub compare_first : (x : Expr) (ps : Vec (Test × Expr) Global) → 2 + loads.inside x ≤ loads.form (form.Compare x ps)
unfolding loads.inside loads.form
compare_first x ps = rw (equations.form_compare x ps) (omega arith)

pub primary_first : (x : Expr) (ts : Vec Trailer Global) → 2 + loads.inside x ≤ loads.form (form.Primary x ts)
unfolding loads.inside loads.form
primary_first x ts = rw (equations.form_primary x ts) (omega arith)

operands_least : (es : List Expr) → operands es ≤ 2 * suc (tree_heights.exprs_height (exprs_of (map view_expr es)))
unfolding loads.inside
operands_least [] = omega arith
operands_least (x ∷ xs) = omega arith

pub or_first : (es : Vec Expr Global) → operands es.items ≤ loads.form (form.Or es)
unfolding loads.form
or_first es = rw (equations.form_or es) (operands_least es.items)

pub and_first : (es : Vec Expr Global) → operands es.items ≤ loads.form (form.And es)
unfolding loads.form
and_first es = rw (equations.form_and es) (operands_least es.items)

-- places and targets

pub place_name : (n : Named) → loads.place (place.Name n) ≡ loads.called + 4
unfolding loads.place
place_name n = ap (λ p. loads.called + 4 * place_height p) (equations.place_name n)

pub place_attr : (x : Expr) (n : Named) (g : Option Guard) → loads.called + (4 + loads.inside x) ≤ loads.place (place.Attr x n g)
unfolding loads.place loads.inside
place_attr x n g = rw (equations.place_attr x n g) (omega arith)

pub place_item : (x i : Expr) (g : Option Guard) → loads.called + (4 + loads.inside x + loads.inside i) ≤ loads.place (place.Item x i g)
unfolding loads.place loads.inside
place_item x i g = rw (equations.place_item x i g) (omega arith)

pub target_place : (p : Place) → loads.target (target.Place p) ≡ loads.place p
unfolding loads.place loads.target
target_place p = ap loads.target_in (equations.target_place p)

targets_are : (ts : List Target) → loads.targets_in (targets_of (map view_target ts)) ≡ targets ts
unfolding loads.target
targets_are [] = refl
targets_are (t ∷ ts) = ap (λ n. loads.target_in (view_target t) + n) (targets_are ts)

pub target_group : (ts : Vec Target Global) → loads.target (target.Group ts) ≡ 3 + targets ts.items
unfolding loads.target
target_group ts = ap loads.target_in (equations.target_group ts) ∙ ap (λ n. 3 + n) (targets_are ts.items)

-- arguments and branches

pub arg_plain : (x : Expr) → loads.arg (arg.Plain x) ≡ expr_weight x
unfolding loads.arg loads.inside
arg_plain x = ap (λ a. suc (2 * arg_height a)) (equations.arg_plain x)

pub arg_star : (x : Expr) → loads.arg (arg.Star x) ≡ expr_weight x
unfolding loads.arg loads.inside
arg_star x = ap (λ a. suc (2 * arg_height a)) (equations.arg_star x)

pub arg_key : (n : Name) (x : Expr) → loads.arg (arg.Key n x) ≡ expr_weight x
unfolding loads.arg loads.inside
arg_key n x = ap (λ a. suc (2 * arg_height a)) (equations.arg_key n x)

pub arg_stars : (x : Expr) → loads.arg (arg.Stars x) ≡ expr_weight x
unfolding loads.arg loads.inside
arg_stars x = ap (λ a. suc (2 * arg_height a)) (equations.arg_stars x)

pub branch_test : (b : Branch) → loads.branch b ≡ expr_weight (out-Branch b).test
unfolding loads.branch loads.inside
branch_test b = ap (λ p. suc (2 * expr_height p.0)) (stmt_equations.branch_out b)

-- the first of several parts, and those behind it

pub operands_front : (xs : List Expr) (x : Expr) → 1 ≤ length xs → x ≡ get_or xs 0 x → operands xs ≡ 2 + loads.inside x
operands_front xs x some is = ap operands (sym (first_rest xs x some is))

pub operands_some : (xs : List Expr) → 2 ≤ operands xs
operands_some [] = omega arith
operands_some (x ∷ xs) = omega arith

pub exprs_front : (xs : List Expr) (x : Expr) → 1 ≤ length xs → x ≡ get_or xs 0 x
    → exprs xs ≡ suc (expr_weight x) + exprs (take (length xs - 1) (drop 1 xs))
exprs_front xs x some is = ap exprs (sym (first_rest xs x some is))

pub pairs_front : (xs : List (Expr × Expr)) (x : Expr × Expr) → 1 ≤ length xs → x ≡ get_or xs 0 x
    → pairs xs ≡ 2 + loads.inside x.0 + loads.inside x.1 + pairs (take (length xs - 1) (drop 1 xs))
pairs_front xs x some is = ap pairs (sym (first_rest xs x some is))

pub params_front : (xs : List (Named × Option Expr)) (x : Named × Option Expr) → 1 ≤ length xs → x ≡ get_or xs 0 x
    → params xs ≡ suc (maybe x.1) + params (take (length xs - 1) (drop 1 xs))
params_front xs x some is = ap params (sym (first_rest xs x some is))

pub places_front : (xs : List Place) (x : Place) → 1 ≤ length xs → x ≡ get_or xs 0 x
    → places xs ≡ suc (loads.place x) + places (take (length xs - 1) (drop 1 xs))
places_front xs x some is = ap places (sym (first_rest xs x some is))

pub targets_front : (xs : List Target) (x : Target) → 1 ≤ length xs → x ≡ get_or xs 0 x
    → targets xs ≡ loads.target x + targets (take (length xs - 1) (drop 1 xs))
targets_front xs x some is = ap targets (sym (first_rest xs x some is))

pub args_front : (xs : List Arg) (x : Arg) → 1 ≤ length xs → x ≡ get_or xs 0 x
    → args xs ≡ loads.arg x + args (take (length xs - 1) (drop 1 xs))
args_front xs x some is = ap args (sym (first_rest xs x some is))

pub branches_front : (xs : List Branch) (x : Branch) → 1 ≤ length xs → x ≡ get_or xs 0 x
    → branches xs ≡ loads.branch x + branches (take (length xs - 1) (drop 1 xs))
branches_front xs x some is = ap branches (sym (first_rest xs x some is))

pub excepts_front : (xs : List Except) (x : Except) → 1 ≤ length xs → x ≡ get_or xs 0 x
    → excepts xs ≡ 4 + maybe (out-Except x).kind + excepts (take (length xs - 1) (drop 1 xs))
excepts_front xs x some is = ap excepts (sym (first_rest xs x some is))

pub nest_front : (xs : List Clause) (x : Clause) (a : Adds) → 1 ≤ length xs → x ≡ get_or xs 0 x
    → nest xs a ≡ 2 + loads.inside (out-Walk (out-Clause x).walk).of
nest_front xs x a some is = ap (λ xs. nest xs a) (sym (first_rest xs x some is))

-- what is known of the opaque weights
pub ruleset weights = (
  inside_is,
  form_least,
  called_least,
  chain_first,
  compare_first,
  primary_first,
  or_first,
  and_first,
  operands_some,
  place_name,
  place_attr,
  place_item,
  target_place,
  target_group,
  arg_plain,
  arg_star,
  arg_key,
  arg_stars,
  branch_test,
)
