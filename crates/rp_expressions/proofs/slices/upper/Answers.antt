use Rattle.rp_expressions.proofs.slices.upper.Goals as goal

pub returns-in-None-clause-law : goal.returns-in-None-clause-law
returns-in-None-clause-law c = rw c.in-None.is c.stride.ensures.law

pub returns-in-Some-clause-law : goal.returns-in-Some-clause-law
returns-in-Some-clause-law c = rw c.in-Some.is c.upper_at.ensures.law

pub returns-in-Some-clause-less : goal.returns-in-Some-clause-less
returns-in-Some-clause-less c = rw c.in-Some.is c.upper_at.ensures.less
