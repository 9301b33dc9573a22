use Rattle.std.proofs.Common.{arith}
use Rattle.rp_expressions.proofs.Asks.{asks}
use Rattle.rp_expressions.proofs.Callings.{call_ends, call_gives}
use Rattle.rp_expressions.proofs.Spreads.{plain_ends}
use Rattle.rp_engine.proofs.Worlds.{IsReady-goes}
use Rattle.rp_engine.specs.Does as does
use Rattle.rp_engine.proofs.Weights as weights
use Rattle.rp_expressions.proofs.arguments.call_at_hand.Goals as goal

pub returns-in-Ok-Some-clause-law : goal.returns-in-Ok-Some-clause-law
returns-in-Ok-Some-clause-law c =
    let found = rw c.in-Ok-Some.field-0-is at c.in-Ok-Some.ensures.law in
    call_gives c.args.machine.now c.with_result.new.machine c.args.world.now c.called.new.world c.with_result.result c.args.count (does.trailers c.args.rest.now) c.in-Ok-Some.value found c.with_result.ensures.law

pub returns-in-Err-clause-law : goal.returns-in-Err-clause-law
returns-in-Err-clause-law c =
    call_ends c.args.machine.now c.without_hand.new.machine c.args.world.now c.called.new.world c.without_hand.result c.args.count (does.trailers c.args.rest.now) c.in-Err.end c.in-Err.ensures.law
    (plain_ends c.args.machine.now c.without_hand.new.machine c.without_hand.result c.args.count c.in-Err.end c.without_hand.ensures.law)

pub returns-in-Ok-Some-clause-ready : goal.returns-in-Ok-Some-clause-ready
returns-in-Ok-Some-clause-ready c =
    c.with_result.ensures.ready c.called.new.world (IsReady-goes _ _ _ c.args.world.now c.called.new.world c.requires.ready c.called.ensures.shape c.called.ensures.faithful)
    (rw c.in-Ok-Some.field-0-is at c.in-Ok-Some.ensures.fit)

pub returns-in-Err-clause-ready : goal.returns-in-Err-clause-ready
returns-in-Err-clause-ready c =
    c.without_hand.ensures.ready c.called.new.world (IsReady-goes _ _ _ c.args.world.now c.called.new.world c.requires.ready c.called.ensures.shape c.called.ensures.faithful)

pub returns-in-Ok-None-clause-ready : goal.returns-in-Ok-None-clause-ready
returns-in-Ok-None-clause-ready c = c.ask_left.ensures.ready c.called.new.world (IsReady-goes _ _ _ c.args.world.now c.called.new.world c.requires.ready c.called.ensures.shape c.called.ensures.faithful)

pub returns-in-Ok-None-clause-law : goal.returns-in-Ok-None-clause-law
returns-in-Ok-None-clause-law c =
    let left = rw c.in-Ok-None.field-0-is at c.in-Ok-None.ensures.left in
    asks c.args.machine.now c.ask_left.new.machine c.args.count (does.trailers c.args.rest.now) c.args.world.now c.called.new.world c.ask_left.result left c.ask_left.ensures.law

pub returns-in-Ok-Some-clause-less : goal.returns-in-Ok-Some-clause-less
returns-in-Ok-Some-clause-less c = grind (arith, weights.called_least)
