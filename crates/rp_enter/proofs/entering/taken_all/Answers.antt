use Rattle.std.proofs.Common.{arith}
use Rattle.rp_enter.proofs.Entered.{are_pushed, sound_at, taken_next}
use Rattle.rp_enter.proofs.entering.taken_all.Goals as goal

pub taken_copy-requires : goal.taken_copy-requires
taken_copy-requires c = sound_at c.args.world.now.store.heap c.args.values.now c.loop-value.value-index c.value-item.result c.value-item.is (omega arith) c.requires

pub loop-value-preserved : goal.loop-value-preserved
loop-value-preserved c =
    let heap = c.args.world.now.store.heap in (
      taken_next heap c.args.side c.args.values.now c.loop-value.value-index c.value-item.result c.in_ok-taken_copy.field-0 c.loop-value.all.items c.push.new.self.items
          (omega arith) c.value-item.is c.in_ok-push.ensures.items c.in_ok-taken_copy.ensures.value c.in_ok-taken_copy.ensures.sound c.loop-value.invariant.0,
      are_pushed heap c.loop-value.all.items c.push.new.self.items c.in_ok-taken_copy.field-0 c.in_ok-push.ensures.items c.in_ok-taken_copy.ensures.sound c.loop-value.invariant.1,
    )
