use Rattle.std.proofs.Common.{◌≡◌, ◌++◌, map, drop}
use Rattle.rp_tree.specs.ExpressionViews as views
use Rattle.rp_scope.specs.Bindings as bindings
use Rattle.rp_scope.specs.Bindings.{all_bound}
use Rattle.rp_scope.specs.MentionSteps.{listed}
use Rattle.rp_scope.proofs.mentions.note_clauses.Given as goal

abbrev pub invariant-clauses : goal.invariant-clauses
invariant-clauses l = l.list.items ++ listed l.listing (all_bound (bindings.clauses_names (views.clauses_of (map views.view_clause (drop l.clause-index l.clauses))))) ≡ l.initial.list.items ++ listed l.listing (all_bound (bindings.clauses_names (views.clauses_of (map views.view_clause l.clauses))))
