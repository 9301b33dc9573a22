use Rattle.rp_engine.proofs.Unbinding.{counted}
use Rattle.rp_expressions.proofs.named_arguments.argument_word.Goals as goal

pub returns-clause-same : goal.returns-clause-same
returns-clause-same c = counted c.args.world.now c.word_text.new.store c.word_text.ensures.same
