use Rattle.std.proofs.Common.{◌≡◌, [], ◌∷◌, length, map}
use Rattle.rp_grammar.specs.Front as token_tests
use Rattle.rp_grammar.specs.Kinds.{first, skip}
use Rattle.rp_grammar.specs.ExpressionReading as reading
use Rattle.rp_grammar.proofs.Loops.{front}
use Rattle.rp_parse.specs.Gives.{other_names}
use Rattle.rp_parse.proofs.simple_statements.other_names.Given as goal

abbrev pub invariant-items : goal.invariant-items
invariant-items l = other_names l.fn.first l.fn.tokens ≡ reading.before (front (λ n ns. n ∷ ns) (map (λ n. n) l.found.items)) (reading.all_many [] (λ n ns. n ∷ ns) (reading.at token_tests.is_comma) (λ us. reading.name_by (first (skip us)) (skip us)) l.rest)

abbrev pub decreases-items : goal.decreases-items
decreases-items l = length l.rest
