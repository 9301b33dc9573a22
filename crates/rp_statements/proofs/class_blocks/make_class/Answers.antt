use Rattle.std.proofs.Common.{reverse}
use Rattle.rp_statements.proofs.ClassParts.{makes_class}
use Rattle.rp_engine.proofs.Passing.{ready_forgot}
use Rattle.rp_engine.specs.ClassSteps.{held_methods}
use Rattle.rp_engine.specs.Does as does
use Rattle.rp_statements.proofs.class_blocks.make_class.Goals as goal

pub bind_class-requires : goal.bind_class-requires
bind_class-requires c =
    record { ready = ready_forgot c.args.machine.now c.forget.new.self c.args.count c.forget.ensures c.args.world.now c.requires.ready }

pub returns-clause-law : goal.returns-clause-law
returns-clause-law c =
    let m = c.args.machine.now in
    makes_class m c.bind_class.new.machine c.args.world.now c.bind_class.new.world c.bind_class.result c.args.count c.args.name c.forget.new.self c.in_ok-methods.methods
    (held_methods (reverse (does.parts c.args.body.now)) m.values) c.forget.ensures c.in_ok-methods.ensures c.bind_class.ensures.law
