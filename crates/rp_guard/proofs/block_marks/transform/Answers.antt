use Rattle.std.proofs.Common.{◌≡◌, ◌∙◌, ap, sym, rules}
use Rattle.std.proofs.lemmas.List.{with_items_is, places}
use Rattle.std.specs.Vec.{with_items}
use Rattle.rp_tree.specs.StatementViews as stmt_views
use Rattle.rp_tree.specs.Marks.{guard}
use Rattle.rp_tree.proofs.MarkLaws.{rewrites_as}
use Rattle.rp_guard.proofs.Laws.{rewritten_guarded}
use Rattle.rp_guard.proofs.block_marks.transform.Goals as goal

pub returns-clause-rewritten : goal.returns-clause-rewritten
returns-clause-rewritten c =
    let items = with_items_is c.args.tree.body c.mark_block.new.stmts (search (rules, places)) in
    let same : stmt_views.view_stmts (with_items c.args.tree.body c.mark_block.new.stmts).items ≡ guard (stmt_views.view_tree c.args.tree)
    = ap stmt_views.view_stmts items ∙ (c.mark_block.ensures ∙ ap (λ xs. guard (stmt_views.view_stmts xs)) c.deref_mut.ensures.value) in
    rewrites_as _ _ c.requires (sym same)

pub returns-clause-guarded : goal.returns-clause-guarded
returns-clause-guarded c =
    let items = with_items_is c.args.tree.body c.mark_block.new.stmts (search (rules, places)) in
    let same : stmt_views.view_stmts (with_items c.args.tree.body c.mark_block.new.stmts).items ≡ guard (stmt_views.view_tree c.args.tree)
    = ap stmt_views.view_stmts items ∙ (c.mark_block.ensures ∙ ap (λ xs. guard (stmt_views.view_stmts xs)) c.deref_mut.ensures.value) in
    λ names. rewritten_guarded (stmt_views.view_tree c.args.tree) (stmt_views.view_stmts (with_items c.args.tree.body c.mark_block.new.stmts).items) names (rewrites_as _ _ c.requires (sym same))
