use Rattle.std.proofs.Common.{◌≡◌, map, ap, ◌∙◌, subst, arith, rules}
use Rattle.std.specs.Prelude.{IfOk}
use Rattle.std.proofs.lemmas.Grind.{common_steps}
use Rattle.rp_tree.specs.ExpressionViews as views
use Rattle.rp_scope.specs.Bindings as bindings
use Rattle.rp_scope.specs.Bindings.{all_bound}
use Rattle.rp_scope.specs.MentionSteps.{own, block_of}
use Rattle.rp_scope.specs.Scopes.{scope_in}
use Rattle.rp_scope.proofs.Sets.{block_of_bound}
use Rattle.rp_scope.proofs.layout.comprehension_layout.Goals as goal

pub returns : goal.returns
returns c =
    let said : c.deref.result.now ≡ own (all_bound (bindings.clauses_names (views.clauses_of (map views.view_clause c.args.clauses.now)))) = first_of (search rules, grind arith, grind (arith, common_steps)) in
    subst (λ block. IfOk c.layout_of.result (λ made. made ≡ scope_in c.args.around block)) (ap block_of said ∙ block_of_bound (bindings.clauses_names (views.clauses_of (map views.view_clause c.args.clauses.now)))) c.layout_of.ensures
