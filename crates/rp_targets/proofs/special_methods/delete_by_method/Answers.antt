use Rattle.rp_targets.proofs.special_methods.delete_by_method.Goals as goal

pub returns-clause-law : goal.returns-clause-law
returns-clause-law c = c.wait_with_two.ensures.law

pub returns-clause-ready : goal.returns-clause-ready
returns-clause-ready c = c.wait_with_two.ensures.ready
