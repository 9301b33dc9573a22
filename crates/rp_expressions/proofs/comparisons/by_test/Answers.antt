use Rattle.std.proofs.Common.{false, refl}
use Rattle.rp_meaning.specs.Expressions as forms
use Rattle.rp_engine.proofs.Firsts.{gives_any}
use Rattle.rp_engine.specs.ComparisonSteps.{by_test}
use Rattle.rp_engine.specs.Does as does
use Rattle.rp_expressions.proofs.comparisons.by_test.Goals as goal

pub returns-then-holds-clause-law : goal.returns-then-holds-clause-law
returns-then-holds-clause-law c = rw c.if-holds.true c.more_tests.ensures.law

pub returns-else-holds-clause-law : goal.returns-else-holds-clause-law
returns-else-holds-clause-law c =
    gives_any c.args.machine.now c.back.new.self c.back.result (by_test c.args.holds c.args.b (does.tests c.args.rest.now)) (forms.truth false)
    (λ base s. rw c.if-holds.false refl) c.back.ensures.law
