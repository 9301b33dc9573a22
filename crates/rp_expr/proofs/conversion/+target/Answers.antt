use Rattle.std.proofs.Common.{◌≡◌, length, ℕ, List, ◌∷◌, map, drop, ◌+◌, Option, sym, ap, ◌∙◌, arith}
use Rattle.std.proofs.lemmas.Grind.{common_steps}
use Rattle.std.proofs.lemmas.Iterator.Adapters.{YieldsList-from_vec}
use Rattle.std.proofs.lemmas.Iterator.Consumers.{YieldsList-turn, YieldsList-end}
use Rattle.std.proofs.lemmas.List.{at_drop_more, at_drop_all, length_push, map_push}
use Rattle.std.proofs.lemmas.Result.{err_from_is_err_and}
use Rattle.rp_tree.specs.declared.expr.Expr.{Expr}
use Rattle.rp_tree.specs.Expressions as tree
use Rattle.rp_tree.specs.ExpressionViews as views
use Rattle.rp_grammar.specs.Conversion.{one_more, as_target}
use Rattle.rp_grammar.proofs.Loops.{front_targets}
use Rattle.rp_expr.proofs.Views.{group_made, targets_in, joined, joined_more, to_some}
use Rattle.rp_expr.proofs.Faults.{fails}
use Rattle.rp_expr.proofs.conversion.+target.Goals as goal

pub group_of-returns : goal.group_of-returns
group_of-returns t c =
    let some : length c.args.exprs.items ≡ 0 → ⊥ = λ e. grind (arith, common_steps) in
    group_made c.args.exprs.items c.in_ok-targets_of.field-0 some c.in_ok-targets_of.ensures

pub targets_of-exprs-preserved : goal.targets_of-exprs-preserved
targets_of-exprs-preserved t c =
    let all = c.args.exprs.items in
    let n = length c.exprs.yielded in
    let b = c.into_iter-expr-iterator.ensures.into_iter_gives in
    let turn = YieldsList-turn (YieldsList-from_vec all b.0 (b.1 ∙ c.args.exprs.ok.0)) c.exprs.yielded _ c.exprs.yielded_by _ c.next.new.self c.in-Some.expr c.in-Some.is c.next.ensures.steps in
    let made = map views.view_target c.exprs.found.items in
    let p = views.view_target c.in_ok-target_of.field-0 in
    let left = targets_in (drop (n + 1) all) in
    c.exprs.invariant ∙ ap (joined made) (at_drop_more targets_in all n c.in-Some.expr turn.0)
    ∙ ap (λ (x : Expr). joined made (targets_in (x ∷ drop (n + 1) all))) (sym turn.1)
    ∙ ap (λ (o : Option tree.Target). joined made (one_more o left)) c.in_ok-target_of.ensures
    ∙ joined_more made p left
    ∙ ap (λ (l : List tree.Target). joined l left) (sym (ap (map views.view_target) c.in_ok-push.ensures.items ∙ map_push views.view_target c.exprs.found.items c.in_ok-target_of.field-0))
    ∙ ap (λ (k : ℕ). joined (map views.view_target c.push.new.self.items) (targets_in (drop k all))) (sym (length_push c.exprs.yielded c.in-Some.expr))

pub targets_of-returns : goal.targets_of-returns
targets_of-returns t c =
    let all = c.args.exprs.items in
    let b = c.into_iter-expr-iterator.ensures.into_iter_gives in
    let end = YieldsList-end (YieldsList-from_vec all b.0 (b.1 ∙ c.args.exprs.ok.0)) c.exprs.yielded _ c.exprs.yielded_by _ c.next.new.self c.in-None.is c.next.ensures.steps in
    let made = map views.view_target c.exprs.found.items in
    c.exprs.invariant ∙ ap (joined made) (at_drop_all targets_in all (length c.exprs.yielded) (omega (arith, end.1))) ∙ ap (λ (l : tree.Targets). to_some l) (front_targets made)

pub targets_of-returns-in_err-target_of : goal.targets_of-returns-in_err-target_of
targets_of-returns-in_err-target_of t c =
    let all = c.args.exprs.items in
    let n = length c.exprs.yielded in
    let b = c.into_iter-expr-iterator.ensures.into_iter_gives in
    let turn = YieldsList-turn (YieldsList-from_vec all b.0 (b.1 ∙ c.args.exprs.ok.0)) c.exprs.yielded _ c.exprs.yielded_by _ c.next.new.self c.in-Some.expr c.in-Some.is c.next.ensures.steps in
    let made = map views.view_target c.exprs.found.items in
    let left = targets_in (drop (n + 1) all) in
    let p = err_from_is_err_and c.from_residual.result c.from_residual.ensures.1 in
    rw (p.1, p.2) (fails c.in_err-target_of.field-0.0 (as_target (views.view_expr c.in-Some.expr)) (targets_in all) (c.in_err-target_of.ensures)
    (λ none. c.exprs.invariant ∙ ap (joined made) (at_drop_more targets_in all n c.in-Some.expr turn.0)
    ∙ ap (λ (x : Expr). joined made (targets_in (x ∷ drop (n + 1) all))) (sym turn.1)
    ∙ ap (λ (o : Option tree.Target). joined made (one_more o left)) none))
