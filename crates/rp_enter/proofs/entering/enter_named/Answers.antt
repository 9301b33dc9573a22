use Rattle.rp_enter.proofs.entering.enter_named.Goals as goal

pub returns-in-None-clause-law : goal.returns-in-None-clause-law
returns-in-None-clause-law c = rw c.in-None.is c.enter_taken.ensures.law

pub enter_behind-requires-clause-receiver : goal.enter_behind-requires-clause-receiver
enter_behind-requires-clause-receiver c = rw c.in-Some.is at c.requires.receiver

pub returns-in-Some-clause-law : goal.returns-in-Some-clause-law
returns-in-Some-clause-law c = rw c.in-Some.is c.enter_behind.ensures.law
