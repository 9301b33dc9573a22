use Rattle.rp_base.specs.declared.value.Value.{Value}
use Rattle.rp_meaning.specs.State.{Flow}
use Rattle.rp_engine.proofs.Unbinding.{counted, counted_end}
use Rattle.rp_base.specs.Names.{word_of}
use Rattle.rp_engine.proofs.names.unbound.Goals as goal

pub returns-clause-value : goal.returns-clause-value
returns-clause-value c =
    counted_end Value c.args.world.now c.word_raised.new.store c.word_raised.result
    (record { kind = c.args.kind; text = word_of c.args.world.now.names c.args.name }) c.word_raised.ensures.same c.word_raised.ensures.exception

pub returns-clause-flow : goal.returns-clause-flow
returns-clause-flow c =
    counted_end Flow c.args.world.now c.word_raised.new.store c.word_raised.result
    (record { kind = c.args.kind; text = word_of c.args.world.now.names c.args.name }) c.word_raised.ensures.same c.word_raised.ensures.exception

pub returns-clause-same : goal.returns-clause-same
returns-clause-same c = counted c.args.world.now c.word_raised.new.store c.word_raised.ensures.same
