use Rattle.std.proofs.Common.{drop, reverse, take}
use Rattle.rp_statements.proofs.ClassParts.{method_held}
use Rattle.rp_engine.specs.Does as does
use Rattle.rp_statements.proofs.class_blocks.after_method.Goals as goal

pub returns-clause-law : goal.returns-clause-law
returns-clause-law c =
    method_held c.args.machine.now c.class_part.new.machine c.args.world.now c.class_part.new.world c.class_part.result c.args.count c.in_ok-count.count c.args.name
    (does.parts (drop c.args.done c.args.body.now)) (reverse (does.parts (take c.args.done c.args.body.now))) c.args.value c.hold.new.self c.in_ok-hold.ensures.held c.in_ok-count.ensures
    c.class_part.ensures.law
