use Rattle.rp_parse.proofs.script.finish.Goals as goal

pub returns-in-Ok-clause-read : goal.returns-in-Ok-clause-read
returns-in-Ok-clause-read c = λ found. (c.args.tokens.now, c.in-Ok.ensures found)
