use Rattle.std.proofs.Common.{◌≡◌, map}
use Rattle.rp_tree.specs.ExpressionViews as views
use Rattle.rp_grammar.specs.ExpressionReading.{before}
use Rattle.rp_parse.specs.Gives.{deep, with_places}
use Rattle.rp_grammar.specs.StatementReading as stmt_reading
use Rattle.rp_parse.proofs.simple_statements.assigned.Given as goal

abbrev pub invariant-values : goal.invariant-values
invariant-values l = before (with_places (map views.view_place l.fn.places.items)) (stmt_reading.assigned deep l.fn.tokens) ≡ before (with_places (map views.view_place l.places.items)) (stmt_reading.assigned_by l.turns deep l.rest)

abbrev pub decreases-values : goal.decreases-values
decreases-values l = l.turns
