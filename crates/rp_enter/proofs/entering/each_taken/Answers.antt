use Rattle.std.proofs.Common.{arith}
use Rattle.rp_enter.proofs.Entered.{slot_next, slot_sound, slots_pushed}
use Rattle.rp_enter.proofs.entering.each_taken.Goals as goal

pub slot_taken-requires : goal.slot_taken-requires
slot_taken-requires c =
    slot_sound c.args.world.now.store.heap c.args.side c.args.slots.now c.loop-slot.slot-index c.slot-item.result c.slot-item.is (omega arith) c.requires

pub loop-slot-preserved : goal.loop-slot-preserved
loop-slot-preserved c =
    let heap = c.args.world.now.store.heap in (
      slot_next heap c.args.side c.args.slots.now c.loop-slot.slot-index c.slot-item.result c.in_ok-slot_taken.field-0 c.loop-slot.all.items c.push.new.self.items
          (omega arith) c.slot-item.is c.in_ok-push.ensures.items c.in_ok-slot_taken.ensures.slot c.loop-slot.invariant.0,
      slots_pushed heap c.args.side c.loop-slot.all.items c.push.new.self.items c.in_ok-slot_taken.field-0 c.in_ok-push.ensures.items c.in_ok-slot_taken.ensures.fit
          c.loop-slot.invariant.1,
    )
