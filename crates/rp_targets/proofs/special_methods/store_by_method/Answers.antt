use Rattle.rp_targets.proofs.special_methods.store_by_method.Goals as goal

pub returns-clause-law : goal.returns-clause-law
returns-clause-law c = c.wait_with_three.ensures.law

pub returns-clause-ready : goal.returns-clause-ready
returns-clause-ready c = c.wait_with_three.ensures.ready
