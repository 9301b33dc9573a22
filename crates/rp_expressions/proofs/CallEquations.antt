-- What calls of the program's trees do, level by level.
use Rattle.std.proofs.Common.{◌≡◌, List, [], ◌∷◌, map, Option, Vec, Global, refl, ap, ◌∙◌}
use Rattle.rp_tree.specs.declared.parts.Guard.{Guard}
use Rattle.rp_tree.specs.declared.expr.Arg.{Arg}
use Rattle.rp_tree.specs.declared.expr.Arg.TheVariants as arg
use Rattle.rp_tree.specs.declared.expr.Expr.{Expr}
use Rattle.rp_tree.specs.declared.expr.Trailer.TheVariants as trailer
use Rattle.rp_tree.specs.ExpressionViews.{view_arg, args_of}
use Rattle.rp_tree.proofs.ExpressionEquations as equations
use Rattle.rp_base.specs.declared.value.Name.{Name}
use Rattle.rp_meaning.specs.Calls.{named_argument, plain_argument, star_argument, stars_argument}
use Rattle.rp_meaning.specs.Expressions as forms
use Rattle.rp_meaning.specs.Meaning as meaning
use Rattle.rp_engine.specs.Does as does

args_are : (xs : List Arg) → meaning.args (args_of (map view_arg xs)) ≡ does.args xs
unfolding does.arg
args_are [] = refl
args_are (x ∷ xs) = ap (λ ms. meaning.arg (view_arg x) ∷ ms) (args_are xs)

pub trailer_call : (xs : Vec Arg Global) (g : Option Guard) → does.trailer (trailer.Call xs g) ≡ forms.call (does.args xs.items)
unfolding does.trailer
trailer_call xs g = ap meaning.trailer (equations.trailer_call xs g) ∙ ap forms.call (args_are xs.items)

pub arg_plain : (x : Expr) → does.arg (arg.Plain x) ≡ plain_argument (does.expr x)
unfolding does.arg does.expr
arg_plain x = ap meaning.arg (equations.arg_plain x)

pub arg_star : (x : Expr) → does.arg (arg.Star x) ≡ star_argument (does.expr x)
unfolding does.arg does.expr
arg_star x = ap meaning.arg (equations.arg_star x)

pub arg_key : (n : Name) (x : Expr) → does.arg (arg.Key n x) ≡ named_argument n (does.expr x)
unfolding does.arg does.expr
arg_key n x = ap meaning.arg (equations.arg_key n x)

pub arg_stars : (x : Expr) → does.arg (arg.Stars x) ≡ stars_argument (does.expr x)
unfolding does.arg does.expr
arg_stars x = ap meaning.arg (equations.arg_stars x)
