use Rattle.std.proofs.Common.{◌≡◌, drop, true}
use Rattle.rp_base.specs.Names.{word_of}
use Rattle.rp_print.specs.LineSteps as step
use Rattle.rp_print.proofs.statements.write_names.Given as goal

abbrev pub invariant-bound : goal.invariant-bound
invariant-bound l =
    step.put_names (word_of l.names) l.first (drop l.named-index l.bound) l.page
    ≡ step.put_names (word_of l.names) true l.bound l.initial.page
