use Rattle.std.proofs.Common.{◌≡◌, sym, subst, ap, ◌∙◌, suc, length, arith, rules}
use Rattle.std.proofs.lemmas.Grind.{common_steps}
use Rattle.std.proofs.lemmas.Result.{IfOk-weaker}
use Rattle.rp_tree.specs.StatementViews.{view_tree}
use Rattle.rp_scope.specs.Numbers.{HasNumbers, block_count}
use Rattle.rp_scope.specs.Scopes.{AreScopesOf, scopes}
use Rattle.rp_scope.proofs.Listings.{on_ok_always}
use Rattle.rp_scope.proofs.TableLaws.{scopes_are, scopes_counted}
use Rattle.rp_scope.proofs.layouts.resolve.Goals as goal

pub returns-clause-by_number : goal.returns-clause-by_number
returns-clause-by_number c =
    let told : c.lay_out_stmts.new.layouts ≡ scopes c.args.first.now (view_tree c.args.tree.now) = first_of (search rules, grind arith, grind (arith, common_steps)) in
    IfOk-weaker c.with_tables.result (λ made. made ≡ c.lay_out_stmts.new.layouts) (λ made. HasNumbers (view_tree c.args.tree.now) → AreScopesOf made c.args.first.now (view_tree c.args.tree.now)) (λ made is has. subst (λ table. AreScopesOf table c.args.first.now (view_tree c.args.tree.now)) (sym (is ∙ told)) (scopes_are c.args.first.now (view_tree c.args.tree.now) has)) c.with_tables.ensures

pub returns-clause-few : goal.returns-clause-few
returns-clause-few c =
    let told : c.lay_out_stmts.new.layouts ≡ scopes c.args.first.now (view_tree c.args.tree.now) = first_of (search rules, grind arith, grind (arith, common_steps)) in
    let count : length c.lay_out_stmts.new.layouts ≡ suc (block_count (view_tree c.args.tree.now)) = ap length told ∙ scopes_counted c.args.first.now (view_tree c.args.tree.now) in
    let counted : c.len-blocks.result ≡ length c.lay_out_stmts.new.layouts = first_of (search rules, grind arith, grind (arith, common_steps)) in
    on_ok_always c.with_tables.result (omega (arith, count, counted))
