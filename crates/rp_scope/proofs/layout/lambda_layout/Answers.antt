use Rattle.std.proofs.Common.{◌≡◌, ap, ◌∙◌, subst, arith, rules}
use Rattle.std.specs.Prelude.{IfOk}
use Rattle.std.proofs.lemmas.Grind.{common_steps}
use Rattle.rp_tree.specs.ExpressionViews as views
use Rattle.rp_scope.specs.Bindings as bindings
use Rattle.rp_scope.specs.Bindings.{all_bound}
use Rattle.rp_scope.specs.MentionSteps.{own, block_of}
use Rattle.rp_scope.specs.Scopes.{scope_in}
use Rattle.rp_scope.proofs.Sets.{block_of_bound}
use Rattle.rp_scope.proofs.layout.lambda_layout.Goals as goal

pub returns : goal.returns
returns c =
    let said : c.deref.result.now ≡ own (all_bound (bindings.params_names (views.view_params c.args.params.now))) = first_of (search rules, grind arith, grind (arith, common_steps)) in
    subst (λ block. IfOk c.layout_of.result (λ made. made ≡ scope_in c.args.around block)) (ap block_of said ∙ block_of_bound (bindings.params_names (views.view_params c.args.params.now))) c.layout_of.ensures
