use Rattle.rp_access.proofs.calls.call.Goals as goal

pub returns-in-Rock-clause-law : goal.returns-in-Rock-clause-law
returns-in-Rock-clause-law c = rw c.in-Rock.is c.call_rock.ensures.law

pub returns-in-Rock-clause-left : goal.returns-in-Rock-clause-left
returns-in-Rock-clause-left c = rw c.in-Rock.is c.call_rock.ensures.left
