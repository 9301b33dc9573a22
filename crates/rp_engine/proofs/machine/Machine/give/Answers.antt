use Rattle.rp_engine.proofs.Answering.{give_value}
use Rattle.rp_engine.proofs.machine.Machine.give.Goals as goal

pub returns-in-Ok-clause-law : goal.returns-in-Ok-clause-law
returns-in-Ok-clause-law c = rw c.in-Ok.is (give_value c.args.self.now c.back.new.self c.back.result c.in-Ok.value c.back.ensures.law)

pub returns-in-Err-clause-law : goal.returns-in-Err-clause-law
returns-in-Err-clause-law c = rw c.in-Err.is c.no_value.ensures.law
