use Rattle.std.proofs.Common.{arith, length, ap}
use Rattle.rp_methods.proofs.Turns.{bytes-turn}
use Rattle.rp_methods.proofs.text_lists.bytes_within.Goals as goal

pub loop-value-preserved : goal.loop-value-preserved
loop-value-preserved c =
    let turn = bytes-turn c.args.values.now c.loop-value.value-index c.value-item.result c.value-item.is (omega arith) in
    let more = ap length c.bytes_of.ensures in
    record {
      whole = omega (turn, more, c.loop-value.invariant.whole, arith);
      within = omega (c.loop-value.invariant.within, arith);
    }

pub returns-then-more-room-clause-over : goal.returns-then-more-room-clause-over
returns-then-more-room-clause-over c =
    let turn = bytes-turn c.args.values.now c.loop-value.value-index c.value-item.result c.value-item.is (omega arith) in
    let more = ap length c.bytes_of.ensures in
    omega (turn, more, c.loop-value.invariant.whole, c.loop-value.invariant.within, arith)
