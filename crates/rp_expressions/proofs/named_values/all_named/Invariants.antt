use Rattle.std.proofs.Common.{◌≡◌, ◌<◌, ◌^◌, ◌++◌, length, reverse}
use Rattle.rp_engine.specs.ArgumentSteps.{named_in}
use Rattle.rp_expressions.proofs.named_values.all_named.Given as goal

-- those that are left, and then those that were taken
abbrev pub invariant-pairs : goal.invariant-pairs
invariant-pairs l =
    record {
      named : named_in (reverse l.left) ++ reverse l.all.items ≡ named_in (reverse l.fn.pairs);
      few : length l.left < 2 ^ 34;
    }

abbrev pub decreases-pairs : goal.decreases-pairs
decreases-pairs l = length l.left
