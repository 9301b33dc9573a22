use Rattle.std.proofs.Common.{◌≡◌, [], ◌∷◌, length, map}
use Rattle.rp_tree.specs.ExpressionViews as views
use Rattle.rp_grammar.specs.Front as token_tests
use Rattle.rp_grammar.specs.ExpressionReading as reading
use Rattle.rp_grammar.proofs.Loops.{front}
use Rattle.rp_parse.specs.Gives.{deep, other_places}
use Rattle.rp_grammar.specs.StatementReading.{place}
use Rattle.rp_parse.proofs.simple_statements.other_places.Given as goal

abbrev pub invariant-items : goal.invariant-items
invariant-items l = other_places deep (views.view_place l.fn.first) l.fn.tokens ≡ reading.before (front (λ p ps. p ∷ ps) (map views.view_place l.found.items)) (reading.all_listed [] [] (λ p ps. p ∷ ps) token_tests.starts (reading.alike (place deep)) tt l.rest)

abbrev pub decreases-items : goal.decreases-items
decreases-items l = length l.rest
