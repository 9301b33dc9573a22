use Rattle.rp_calls.proofs.Tables.{word-put}
use Rattle.rp_calls.proofs.parameter_names.add.Goals as goal

pub returns : goal.returns
returns c = word-put c.args.words.now c.insert.new.self c.args.word c.in_ok-insert.ensures.updates
