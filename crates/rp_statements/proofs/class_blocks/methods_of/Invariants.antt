use Rattle.std.proofs.Common.{◌≡◌, drop, reverse, take}
use Rattle.rp_engine.specs.ClassSteps.{count_of, held_methods}
use Rattle.rp_engine.specs.Does as does
use Rattle.rp_statements.proofs.class_blocks.methods_of.Given as goal

-- the functions that are left are those of the statements that are left
abbrev pub invariant-loop-stmt : goal.invariant-loop-stmt
invariant-loop-stmt l =
    (l.left ≡ count_of (does.parts (drop l.stmt-index l.body)))
    × (l.methods ≡ held_methods (reverse (does.parts (take l.stmt-index l.body))) (drop l.left l.values))
