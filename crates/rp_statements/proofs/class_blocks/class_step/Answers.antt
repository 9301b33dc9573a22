use Rattle.std.proofs.Common.{List, ◌+◌, drop, reverse, take, ap}
use Rattle.rp_tree.specs.declared.stmt.Stmt.{Stmt}
use Rattle.rp_statements.proofs.ClassParts.{behind_end, behind_next}
use Rattle.rp_engine.specs.ClassSteps.{held_methods}
use Rattle.rp_engine.specs.Does as does
use Rattle.rp_statements.proofs.class_blocks.class_step.Goals as goal

pub returns-in-Ok-clause-law : goal.returns-in-Ok-clause-law
returns-in-Ok-clause-law c =
    let xs = c.args.body.now in
    let vs = c.args.machine.now.values in
    behind_next c.args.machine.now c.class_next.new.machine c.args.world.now c.take_step.new.world c.class_next.new.world c.class_next.result c.args.count c.args.name (does.part c.args.part.now)
    (does.parts (drop (c.args.done + 1) xs)) (does.parts (drop c.args.done xs)) (held_methods (reverse (does.parts (take c.args.done xs))) vs)
    (ap (λ (ys : List Stmt). does.parts ys) c.requires.next) c.in-Ok.ensures.law c.class_next.ensures.law

pub returns-in-Err-clause-law : goal.returns-in-Err-clause-law
returns-in-Err-clause-law c =
    let xs = c.args.body.now in
    let vs = c.args.machine.now.values in
    behind_end c.args.machine.now c.cut_class.new.machine c.args.world.now c.take_step.new.world c.cut_class.result c.args.count c.args.name (does.part c.args.part.now)
    (does.parts (drop (c.args.done + 1) xs)) (does.parts (drop c.args.done xs)) (held_methods (reverse (does.parts (take c.args.done xs))) vs)
    (ap (λ (ys : List Stmt). does.parts ys) c.requires.next) c.in-Err.end c.in-Err.ensures.law c.cut_class.ensures.law
