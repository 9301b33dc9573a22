use Rattle.std.proofs.Common.{◌≡◌, ◌+◌, drop}
use Rattle.rp_engine.specs.ClassSteps.{count_of}
use Rattle.rp_engine.specs.Does as does
use Rattle.rp_statements.proofs.class_blocks.method_count.Given as goal

abbrev pub invariant-loop-stmt : goal.invariant-loop-stmt
invariant-loop-stmt l = l.count + count_of (does.parts (drop l.stmt-index l.body)) ≡ count_of (does.parts l.body)
