use Rattle.std.proofs.Common.{◌≡◌, ◌++◌, map, ap, ◌∙◌, arith, rules}
use Rattle.std.proofs.lemmas.Grind.{common_steps}
use Rattle.rp_tree.specs.ExpressionViews as views
use Rattle.rp_scope.specs.Bindings as bindings
use Rattle.rp_scope.specs.Bindings.{all_bound}
use Rattle.rp_scope.specs.MentionSteps.{listed}
use Rattle.rp_scope.proofs.Appends.{grown}
use Rattle.rp_scope.proofs.Listings.{listed-append, all_bound-append}
use Rattle.rp_tree.proofs.ExpressionEquations.{clause_out, walk_out}
use Rattle.rp_scope.proofs.mentions.note_clauses.Goals as goal

pub clauses-preserved : goal.clauses-preserved
clauses-preserved c =
    let step : c.note_target.new.list.items ≡ c.clauses.list.items ++ listed c.args.listing (all_bound (bindings.clause_names (views.view_clause c.clause-item.result))) = first_of (grind (arith, common_steps, clause_out, walk_out), search (rules, clause_out, walk_out), grind (arith, clause_out, walk_out)) in
    grown (λ xs. listed c.args.listing (all_bound (bindings.clauses_names (views.clauses_of (map views.view_clause xs))))) c.args.clauses.now c.clauses.clause-index c.clause-item.result (listed c.args.listing (all_bound (bindings.clause_names (views.view_clause c.clause-item.result)))) c.clauses.list.items c.note_target.new.list.items c.args.list.now.items (omega arith) c.clause-item.is (λ rest. ap (listed c.args.listing) (all_bound-append (bindings.clause_names (views.view_clause c.clause-item.result)) (bindings.clauses_names (views.clauses_of (map views.view_clause rest)))) ∙ listed-append c.args.listing (all_bound (bindings.clause_names (views.view_clause c.clause-item.result))) (all_bound (bindings.clauses_names (views.clauses_of (map views.view_clause rest))))) step c.clauses.invariant
