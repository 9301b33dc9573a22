use Rattle.rp_statements.proofs.Raisings.{cut_any}
use Rattle.rp_engine.specs.RaisingSteps.{raised_value}
use Rattle.rp_statements.proofs.raising.raised.Goals as goal

pub returns-clause-law : goal.returns-clause-law
returns-clause-law c =
    cut_any c.args.machine.now c.cut_off.new.self c.cut_off.result (raised_value c.args.value) c.raise_value.result (λ base s. c.raise_value.ensures s) c.cut_off.ensures.law
