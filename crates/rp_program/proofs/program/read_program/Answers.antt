use Rattle.rp_program.proofs.Programs.{one_program}
use Rattle.rp_program.proofs.program.read_program.Goals as goal

pub returns-in-Ok-clause-one : goal.returns-in-Ok-clause-one
returns-in-Ok-clause-one c = one_program c.args.bytes.now

pub returns-in-Err-clause-one : goal.returns-in-Err-clause-one
returns-in-Err-clause-one c = one_program c.args.bytes.now

pub returns-in-Ok-clause-refused : goal.returns-in-Ok-clause-refused
returns-in-Ok-clause-refused c = rw c.in-Ok.ensures.cases.0 at c.read_text.ensures.refused

pub returns-in-Ok-clause-words : goal.returns-in-Ok-clause-words
returns-in-Ok-clause-words c = rw c.in-Ok.ensures.cases.0 at c.read_text.ensures.words
