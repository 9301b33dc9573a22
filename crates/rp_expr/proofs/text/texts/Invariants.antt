use Rattle.std.proofs.Common.{◌≡◌, ◌++◌, length}
use Rattle.rp_grammar.specs.ExpressionReading as reading
use Rattle.rp_grammar.proofs.Texts.{all_texts}
use Rattle.rp_expr.proofs.text.texts.Given as goal

abbrev pub invariant-texts : goal.invariant-texts
invariant-texts l = reading.texts l.fn.text l.fn.tokens ≡ reading.before (λ xs. l.joined ++ xs) (all_texts l.rest)

abbrev pub decreases-texts : goal.decreases-texts
decreases-texts l = length l.rest
