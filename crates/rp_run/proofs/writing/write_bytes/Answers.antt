use Rattle.std.proofs.Common.{rules, arith, ◌-◌, length, drop, length-take, length-drop}
use Rattle.rp_run.proofs.Pieces.{written_front}
use Rattle.rp_run.proofs.writing.write_bytes.Goals as goal

pub loop-written-preserved : goal.loop-written-preserved
loop-written-preserved g c =
    let bound = c.in_ok-written.ensures.bound in
    record {
      within = omega (
        arith,
        bound.1,
        length-take (length c.args.bytes.now - c.loop-written.written)
            (drop c.loop-written.written c.args.bytes.now),
        length-drop c.loop-written.written c.args.bytes.now,
      );
      sound = search rules;
      front = written_front _ _ c.args.bytes.now _ _ _ c.loop-written.invariant.front c.in_ok-written.ensures.appended;
    }
