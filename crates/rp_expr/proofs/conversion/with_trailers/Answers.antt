use Rattle.std.proofs.Common.{◌≡◌, length, Some, subst, arith}
use Rattle.std.proofs.lemmas.Grind.{common_steps}
use Rattle.rp_tree.specs.Expressions as tree
use Rattle.rp_tree.specs.ExpressionViews as views
use Rattle.rp_expr.specs.Gives.{Gives}
use Rattle.rp_expr.proofs.Views.{with_trailers_made}
use Rattle.rp_expr.proofs.conversion.with_trailers.Goals as goal

pub returns : goal.returns
returns c =
    let some : length c.args.trailers.items ≡ 0 → ⊥ = λ e. grind (arith, common_steps) in
    subst (λ (e : tree.Expr). Gives views.view_expr c.node.result (Some e)) (with_trailers_made c.args.atom c.args.trailers some) c.node.ensures
