use Rattle.std.proofs.Common.{refl}
use Rattle.rp_engine.proofs.Slots.{filled_faithful, filled_past}
use Rattle.rp_access.specs.Moment.{state_of}
use Rattle.rp_engine.proofs.names.fill.Goals as goal

pub returns-then-has_slot-clause-faithful : goal.returns-then-has_slot-clause-faithful
returns-then-has_slot-clause-faithful c =
    filled_faithful c.args.world.now c.set_slot.new.self c.args.slot.scope c.args.slot.index c.args.value c.set_slot.ensures.done c.requires.faithful

pub returns-else-has_slot-clause-law : goal.returns-else-has_slot-clause-law
returns-else-has_slot-clause-law c =
    filled_past (state_of c.args.world.now) c.args.slot.scope c.args.slot.index c.args.value (c.if-has_slot.ensures.none refl)
