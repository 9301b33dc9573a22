use Rattle.rp_step.proofs.statements.evaluate.Goals as goal

pub returns-clause-law : goal.returns-clause-law
returns-clause-law c = c.wait.ensures.law
