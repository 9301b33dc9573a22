use Rattle.rp_expressions.proofs.slices.lower.Goals as goal

pub returns-in-None-clause-law : goal.returns-in-None-clause-law
returns-in-None-clause-law c = rw c.in-None.is c.upper.ensures.law

pub returns-in-Some-clause-law : goal.returns-in-Some-clause-law
returns-in-Some-clause-law c = rw c.in-Some.is c.lower_at.ensures.law
