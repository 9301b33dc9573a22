use Rattle.std.proofs.Common.{◌≡◌, [], ap, ◌∙◌, refl, arith, rules}
use Rattle.std.proofs.lemmas.Grind.{common_steps}
use Rattle.indexmap.specs.IndexSet.{insert_all}
use Rattle.rp_tree.specs.StatementViews.{view_stmts}
use Rattle.rp_scope.specs.Bindings.{stmts_mentions}
use Rattle.rp_scope.specs.Scopes.{same_name}
use Rattle.rp_scope.proofs.Sets.{program_made}
use Rattle.rp_scope.proofs.layout.program_layout.Goals as goal

pub returns : goal.returns
returns c =
    let no_locals : c.new-locals.result.keys ≡ [] = first_of (search rules, grind arith, grind (arith, common_steps)) in
    let no_globals : c.new.result.keys ≡ [] = first_of (search rules, grind arith, grind (arith, common_steps)) in
    let said : c.deref.result.now ≡ stmts_mentions (view_stmts c.args.body.now) = first_of (search rules, grind arith, grind (arith, common_steps)) in
    program_made (record { locals = c.add_all_mentioned.new.names.keys; globals = c.new.result.keys; around = 0 }) c.args.first.now c.add_all.new.names.keys c.deref.result.now (view_stmts c.args.body.now) (c.in_ok-add_all.ensures ∙ ap (λ ks. insert_all same_name ks c.args.first.now) no_locals) said c.in_ok-add_all_mentioned.ensures no_globals refl
