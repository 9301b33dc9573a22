use Rattle.rp_step.proofs.statements.iterate.Goals as goal

pub returns-clause-law : goal.returns-clause-law
returns-clause-law c = c.for_each.ensures.law
