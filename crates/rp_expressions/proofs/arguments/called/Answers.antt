use Rattle.std.proofs.Common.{drop, reverse, subst, sym, take}
use Rattle.rp_frame.specs.Top.{top}
use Rattle.rp_store.specs.Kept.{AreSound}
use Rattle.rp_access.specs.Moment.{state_of}
use Rattle.rp_expressions.proofs.Asks.{left_same}
use Rattle.rp_expressions.proofs.Callings.{call_same, sound_last, sound_under}
use Rattle.rp_expressions.proofs.arguments.called.Goals as goal

pub call-requires-clause-f : goal.call-requires-clause-f
call-requires-clause-f c =
    sound_under c.args.machine.now.units.now c.args.machine.now.frame c.args.count c.args.machine.now.values c.args.world.now c.under.result.now c.under.ensures c.requires.ready

pub call-requires-clause-args : goal.call-requires-clause-args
call-requires-clause-args c =
    subst (AreSound c.args.world.now.store.heap) (sym c.last.ensures) (sound_last c.args.machine.now.units.now c.args.machine.now.frame c.args.count c.args.machine.now.values c.args.world.now c.requires.ready)

pub returns-clause-law : goal.returns-clause-law
returns-clause-law c =
    call_same c.args.machine.now.frame.side (top (drop c.args.count c.args.machine.now.values)) c.under.result.now (reverse (take c.args.count c.args.machine.now.values)) c.last.result.now
    c.call.result c.args.world.now c.call.new.world c.under.ensures c.last.ensures c.call.ensures.law

pub returns-clause-left : goal.returns-clause-left
returns-clause-left c =
    left_same (top (drop c.args.count c.args.machine.now.values)) c.under.result.now (reverse (take c.args.count c.args.machine.now.values)) c.last.result.now
    c.call.result (state_of c.args.world.now) (state_of c.call.new.world) c.under.ensures c.last.ensures c.call.ensures.left
