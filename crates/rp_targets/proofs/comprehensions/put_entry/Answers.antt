use Rattle.std.specs.Str.{chars}
use Rattle.rp_targets.proofs.Comprehending.{entry_refused}
use Rattle.rp_engine.proofs.Doings.{does_end}
use Rattle.rp_engine.specs.ComprehensionSteps.{entry_added}
use Rattle.rp_targets.proofs.comprehensions.put_entry.Goals as goal

pub returns-clause-law : goal.returns-clause-law
unfolding chars
returns-clause-law c =
    let m = c.args.machine.now in
    let w = c.args.world.now in
    does_end m c.cut_off.new.self w w c.cut_off.result (entry_added c.args.at c.args.key c.args.value) c.raised-end.result
    (entry_refused m w c.args.at c.args.value c.args.key c.raised-end.result c.raised-end.ensures (c.is_value.ensures.other c.if-is_value.false)) c.cut_off.ensures.law

pub returns-clause-ready : goal.returns-clause-ready
returns-clause-ready c = c.cut_off.ensures.ready c.args.world.now c.requires.ready

pub put_in-requires-clause-place : goal.put_in-requires-clause-place
put_in-requires-clause-place c = c.is_value.ensures.sound c.if-is_value.true
