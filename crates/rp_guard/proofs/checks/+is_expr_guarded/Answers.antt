use Rattle.std.proofs.Common.{ap, sym, map, ◌∙◌}
use Rattle.rp_tree.specs.ExpressionViews as views
use Rattle.rp_tree.specs.Guarded as guardedness
use Rattle.rp_tree.proofs.ExpressionEquations.{params_out}
use Rattle.rp_guard.proofs.checks.+is_expr_guarded.Goals as goal

pub are_params_guarded-returns : goal.are_params_guarded-returns
are_params_guarded-returns t c =
    c.are_defaults_guarded.ensures ∙ (ap (λ xs. guardedness.is_plain_guarded (views.plain_of (map views.view_plain xs))) c.deref.ensures.value ∙ sym (ap (λ x. guardedness.are_params_guarded x) (params_out c.args.params.now)))
