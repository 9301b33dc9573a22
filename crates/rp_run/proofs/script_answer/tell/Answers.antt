use Rattle.rp_run.proofs.script_answer.tell.Goals as goal

pub returns-in-Check-clause-told : goal.returns-in-Check-clause-told
returns-in-Check-clause-told c = rw c.in-Check.is c.tell_check.ensures.told

pub returns-in-Show-clause-told : goal.returns-in-Show-clause-told
returns-in-Show-clause-told c = rw c.in-Show.is c.tell_show.ensures.told
