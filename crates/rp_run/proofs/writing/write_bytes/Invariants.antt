use Rattle.std.proofs.Common.{length, ◌-◌, ◌≡◌, ◌++◌, ◌≤◌, take, option_map}
use Rattle.rp_run.proofs.writing.write_bytes.Given as goal

abbrev pub invariant-loop-written : goal.invariant-loop-written
invariant-loop-written g l = record {
  within : l.written ≤ length l.bytes;
  sound : g.K.Sink.faults l.out ≡ 0;
  front : g.K.Sink.written l.out ≡ option_map (λ before. before
      ++ take l.written l.bytes) (g.K.Sink.written l.initial.out);
}

abbrev pub decreases-loop-written : goal.decreases-loop-written
decreases-loop-written g l = length l.bytes - l.written
