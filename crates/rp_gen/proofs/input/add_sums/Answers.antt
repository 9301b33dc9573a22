use Rattle.std.proofs.Common.{arith, string_bytes}
use Rattle.rp_gen.specs.Large.{sum_line}
use Rattle.rp_gen.proofs.Lines.{one_more}
use Rattle.rp_gen.proofs.input.add_sums.Goals as goal

pub sums-preserved : goal.sums-preserved
sums-preserved c =
    one_more sum_line 0 c.sums.i c.sums.i (string_bytes c.args.text.now) (string_bytes c.sums.text)
    (string_bytes c.add_sum.new.text) (omega arith) c.sums.invariant
    c.in_ok-add_sum.ensures
