use Rattle.std.proofs.Common.{◌≡◌, ◌++◌, List, Option, map, sym, ap, subst, ◌∙◌}
use Rattle.rp_base.specs.declared.value.Name.{Name}
use Rattle.rp_tree.specs.Expressions.{Named}
use Rattle.rp_tree.specs.declared.expr.Expr.{Expr}
use Rattle.rp_tree.specs.declared.expr.Arg.TheViews.{out-Params}
use Rattle.rp_tree.specs.ExpressionViews as views
use Rattle.rp_tree.proofs.ExpressionEquations.{params_out}
use Rattle.rp_grammar.specs.Expressions.{parameter_names, plain_names, named_names}
use Rattle.rp_expr.specs.Gives.{Gives}
use Rattle.rp_grammar.proofs.Basics.{some_is}
use Rattle.rp_expr.proofs.Views.{to_some}
use Rattle.rp_expr.proofs.distinct.parameter_names.Goals as goal

pub returns : goal.returns
returns c =
    let p = c.args.params.now in
    let list = named_names (out-Params p).list in
    let dict = named_names (out-Params p).dict in
    let plain : plain_names (views.plain_of (map views.view_plain (out-Params p).plain.items)) ≡ c.in_ok-names.names.items =
    ap (λ (l : List (Named × Option Expr)). plain_names (views.plain_of (map views.view_plain l))) (sym c.deref.ensures.value) ∙ some_is c.in_ok-names.ensures in
    let with_list : c.in_ok-names.names.items ++ list ≡ c.in_ok-names-2.names.items = some_is c.in_ok-names-2.ensures in
    let all : parameter_names (views.view_params p) ≡ c.in_ok-names-2.names.items ++ dict =
    ap parameter_names (params_out p)
    ∙ ap (λ (l : List Name). l ++ list ++ dict) plain
    ∙ ap (λ (l : List Name). l ++ dict) with_list in
    subst (λ (l : List Name). Gives (λ x. x.items) c.with_named-2.result (to_some l)) (sym all) c.with_named-2.ensures
