-- What the program's trees do, level by level: operands, what trails a primary, displays.
use Rattle.std.proofs.Common.{◌≡◌, List, [], ◌∷◌, map, Option, Some, None, option_map, Box, Vec, Global, refl, ap, ◌∙◌}
use Rattle.rp_tree.specs.Expressions.{Named}
use Rattle.rp_tree.specs.declared.parts.Guard.{Guard}
use Rattle.rp_tree.specs.declared.parts.Test.{Test}
use Rattle.rp_tree.specs.declared.expr.Arg.TheViews.{out-Slice}
use Rattle.rp_tree.specs.declared.expr.Expr.{Expr}
use Rattle.rp_tree.specs.declared.expr.ExprForm.TheVariants as form
use Rattle.rp_tree.specs.declared.expr.Slice.{Slice}
use Rattle.rp_tree.specs.declared.expr.Trailer.{Trailer}
use Rattle.rp_tree.specs.declared.expr.Trailer.TheVariants as trailer
use Rattle.rp_tree.specs.ExpressionViews.{view_expr, view_pair, view_test, view_trailer, exprs_of, pairs_of, tests_of, trailers_of, maybe_of}
use Rattle.rp_tree.proofs.ExpressionEquations as equations
use Rattle.rp_meaning.specs.Expressions as forms
use Rattle.rp_meaning.specs.Meaning as meaning
use Rattle.rp_engine.specs.Does as does

pub exprs_are : (es : List Expr) → meaning.exprs (exprs_of (map view_expr es)) ≡ does.exprs es
unfolding does.expr
exprs_are [] = refl
exprs_are (x ∷ xs) = ap (λ ms. meaning.eval (view_expr x) ∷ ms) (exprs_are xs)

tests_are : (ps : List (Test × Expr)) → meaning.tests (tests_of (map view_test ps)) ≡ does.tests ps
unfolding does.expr
tests_are [] = refl
tests_are (p ∷ ps) = ap (λ ms. (p.0, meaning.eval (view_expr p.1)) ∷ ms) (tests_are ps)

trailers_are : (ts : List Trailer) → meaning.trailers (trailers_of (map view_trailer ts)) ≡ does.trailers ts
unfolding does.trailer
trailers_are [] = refl
trailers_are (t ∷ ts) = ap (λ ms. meaning.trailer (view_trailer t) ∷ ms) (trailers_are ts)

pub form_tuple : (es : Vec Expr Global) → does.form (form.Tuple es) ≡ forms.tuple (does.exprs es.items)
unfolding does.form
form_tuple es = ap meaning.eval_form (equations.form_tuple es) ∙ ap forms.tuple (exprs_are es.items)

pub form_list : (es : Vec Expr Global) → does.form (form.List es) ≡ forms.list (does.exprs es.items)
unfolding does.form
form_list es = ap meaning.eval_form (equations.form_list es) ∙ ap forms.list (exprs_are es.items)

pairs_are : (ps : List (Expr × Expr)) → meaning.pairs (pairs_of (map view_pair ps)) ≡ does.pairs ps
unfolding does.expr
pairs_are [] = refl
pairs_are (p ∷ ps) = ap (λ ms. does.pair p ∷ ms) (pairs_are ps)

pub form_dict : (ps : Vec (Expr × Expr) Global) → does.form (form.Dict ps) ≡ forms.dict (does.pairs ps.items)
unfolding does.form
form_dict ps = ap meaning.eval_form (equations.form_dict ps) ∙ ap forms.dict (pairs_are ps.items)

pub form_or : (es : Vec Expr Global) → does.form (form.Or es) ≡ forms.or (does.exprs es.items)
unfolding does.form
form_or es = ap meaning.eval_form (equations.form_or es) ∙ ap forms.or (exprs_are es.items)

pub form_and : (es : Vec Expr Global) → does.form (form.And es) ≡ forms.and (does.exprs es.items)
unfolding does.form
form_and es = ap meaning.eval_form (equations.form_and es) ∙ ap forms.and (exprs_are es.items)

pub form_compare : (x : Expr) (ps : Vec (Test × Expr) Global) → does.form (form.Compare x ps) ≡ forms.compare (does.expr x) (does.tests ps.items)
unfolding does.form does.expr
form_compare x ps = ap meaning.eval_form (equations.form_compare x ps) ∙ ap (forms.compare (meaning.eval (view_expr x))) (tests_are ps.items)

pub form_primary : (x : Expr) (ts : Vec Trailer Global) → does.form (form.Primary x ts) ≡ forms.primary (does.expr x) (does.trailers ts.items)
unfolding does.form does.expr
form_primary x ts = ap meaning.eval_form (equations.form_primary x ts) ∙ ap (forms.primary (meaning.eval (view_expr x))) (trailers_are ts.items)

pub trailer_attr : (n : Named) (g : Option Guard) → does.trailer (trailer.Attr n g) ≡ forms.attribute n.name
unfolding does.trailer
trailer_attr n g = ap meaning.trailer (equations.trailer_attr n g)

pub trailer_item : (x : Expr) (g : Option Guard) → does.trailer (trailer.Item x g) ≡ forms.item (does.expr x)
unfolding does.trailer does.expr
trailer_item x g = ap meaning.trailer (equations.trailer_item x g)

-- a part of a slice
part_is : (x : Option Expr) → meaning.maybe (maybe_of (option_map view_expr x)) ≡ does.maybe x
unfolding does.expr
part_is None = refl
part_is (Some x) = refl

pub trailer_slice : (x : Box Slice Global) (g : Option Guard)
    → does.trailer (trailer.Slice x g) ≡ forms.slice (does.maybe (out-Slice x.value).from) (does.maybe (out-Slice x.value).to) (does.maybe (out-Slice x.value).step)
unfolding does.trailer
trailer_slice x g =
    ap meaning.trailer (equations.trailer_slice x g) ∙ ap (λ p. forms.slice (meaning.maybe p.0) (meaning.maybe p.1) (meaning.maybe p.2)) (equations.slice_out x.value)
    ∙ ap (λ a. forms.slice a (meaning.maybe (maybe_of (option_map view_expr (out-Slice x.value).to))) (meaning.maybe (maybe_of (option_map view_expr (out-Slice x.value).step)))) (part_is (out-Slice x.value).from)
    ∙ ap (λ b. forms.slice (does.maybe (out-Slice x.value).from) b (meaning.maybe (maybe_of (option_map view_expr (out-Slice x.value).step)))) (part_is (out-Slice x.value).to)
    ∙ ap (λ c. forms.slice (does.maybe (out-Slice x.value).from) (does.maybe (out-Slice x.value).to) c) (part_is (out-Slice x.value).step)
