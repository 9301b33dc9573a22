use Rattle.rp_engine.specs.ComprehensionSteps.{entry_added}
use Rattle.rp_targets.proofs.Resumings.{resumes_with}
use Rattle.rp_targets.proofs.comprehensions.add_entry.Goals as goal

pub returns-clause-law : goal.returns-clause-law
returns-clause-law c =
    resumes_with c.args.machine.now c.at_hand-key.new.self c.put_entry.new.machine c.args.world.now c.put_entry.new.world c.put_entry.result
    (λ x. entry_added c.args.at x c.args.value) c.at_hand-key.result c.at_hand-key.ensures.left c.at_hand-key.ensures.value c.put_entry.ensures.law
