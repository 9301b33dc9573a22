use Rattle.rp_program.proofs.program.read_tokens.Goals as goal

pub returns-in-Ok-clause-refused : goal.returns-in-Ok-clause-refused
returns-in-Ok-clause-refused c = rw c.in-Ok.ensures.cases.0 at c.text_tokens.ensures.refused

pub returns-in-Ok-clause-words : goal.returns-in-Ok-clause-words
returns-in-Ok-clause-words c = rw c.in-Ok.ensures.cases.0 at c.text_tokens.ensures.words
