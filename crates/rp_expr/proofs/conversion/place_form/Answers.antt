use Rattle.std.proofs.Common.{Option, subst, sym, ap, ◌∙◌}
use Rattle.rp_tree.specs.Expressions as tree
use Rattle.rp_tree.specs.ExpressionViews as views
use Rattle.rp_tree.proofs.ExpressionEquations.{form_primary}
use Rattle.rp_grammar.specs.Conversion.{place_form}
use Rattle.rp_expr.specs.Gives.{Gives}
use Rattle.rp_expr.proofs.conversion.place_form.Goals as goal

pub returns-in-Primary : goal.returns-in-Primary
returns-in-Primary c =
    let same = ap views.view_form c.in-Primary.is ∙ form_primary c.in-Primary.atom c.in-Primary.trailers in
    subst (λ (o : Option tree.Place). Gives views.view_place c.primary_place.result o) (ap (place_form c.args.line) (sym same)) (c.primary_place.ensures c.args.line)
