use Rattle.std.proofs.Common.{Option, subst, sym, ap, ◌∙◌}
use Rattle.rp_tree.specs.Expressions as tree
use Rattle.rp_tree.specs.ExpressionViews as views
use Rattle.rp_grammar.specs.Conversion.{trailed_place}
use Rattle.rp_expr.specs.Gives.{Gives}
use Rattle.rp_grammar.proofs.Basics.{some_is}
use Rattle.rp_expr.proofs.Views.{last_place}
use Rattle.rp_expr.proofs.conversion.primary_place.Goals as goal

pub returns-in_ok-with_trailers-in-Some : goal.returns-in_ok-with_trailers-in-Some
returns-in_ok-with_trailers-in-Some c line =
    let last = c.in-Some.last in
    let kept = some_is c.in_ok-with_trailers-in-Some.ensures in
    subst (λ (o : Option tree.Place). Gives views.view_place c.trailed_place.result o)
    (ap (λ (e : tree.Expr). trailed_place e (views.view_trailer last)) (sym kept) ∙ last_place line (views.view_expr c.args.atom) c.args.trailers.items c.pop.new.self.items last c.in-Some.ensures.items) c.trailed_place.ensures
