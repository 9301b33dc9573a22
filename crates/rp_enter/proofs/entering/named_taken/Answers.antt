use Rattle.std.proofs.Common.{arith}
use Rattle.rp_enter.proofs.Entered.{named_next, named_pushed, named_sound}
use Rattle.rp_enter.proofs.entering.named_taken.Goals as goal

pub taken_copy-requires : goal.taken_copy-requires
taken_copy-requires c =
    named_sound c.args.world.now.store.heap c.args.named.now c.loop-argument.argument-index c.argument-item.result c.argument-item.is (omega arith) c.requires

pub loop-argument-preserved : goal.loop-argument-preserved
loop-argument-preserved c =
    let heap = c.args.world.now.store.heap in (
      named_next heap c.args.side c.args.named.now c.loop-argument.argument-index c.argument-item.result c.in_ok-copy.field-0 c.in_ok-taken_copy.field-0 c.loop-argument.all.items c.push.new.self.items
          (omega arith) c.argument-item.is c.in_ok-push.ensures.items c.in_ok-copy.ensures c.in_ok-taken_copy.ensures.value c.loop-argument.invariant.0,
      named_pushed heap c.loop-argument.all.items c.push.new.self.items (c.in_ok-copy.field-0, c.in_ok-taken_copy.field-0) c.in_ok-push.ensures.items c.in_ok-taken_copy.ensures.sound c.loop-argument.invariant.1,
    )
