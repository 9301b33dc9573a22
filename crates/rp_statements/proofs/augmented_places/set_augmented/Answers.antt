use Rattle.rp_meaning.specs.Access as access
use Rattle.rp_targets.proofs.Changed.{augment_ends, augment_gives}
use Rattle.rp_engine.proofs.Doings.{does_as, does_end}
use Rattle.rp_engine.proofs.Worlds.{IsReady-goes}
use Rattle.rp_engine.specs.AugmentSteps.{attribute_augmented}
use Rattle.rp_statements.proofs.augmented_places.set_augmented.Goals as goal

pub returns-in-Ok-clause-law : goal.returns-in-Ok-clause-law
returns-in-Ok-clause-law c =
    let m = c.args.machine.now in
    let w = c.args.world.now in
    let u = c.augment.new.world in
    does_as m c.set_attribute.new.machine w c.set_attribute.new.world c.set_attribute.result (attribute_augmented c.args.o c.args.name c.args.op c.args.a c.args.b) (access.set_attribute c.args.o c.args.name c.in-Ok.value) u
    (augment_gives m w u (λ v. access.set_attribute c.args.o c.args.name v) c.args.op c.args.a c.args.b c.in-Ok.value c.in-Ok.ensures.law) c.set_attribute.ensures.law

pub set_attribute-requires-clause-ready : goal.set_attribute-requires-clause-ready
set_attribute-requires-clause-ready c = IsReady-goes _ _ _ c.args.world.now c.augment.new.world c.requires.ready c.augment.ensures.shape c.augment.ensures.faithful

pub set_attribute-requires-clause-o : goal.set_attribute-requires-clause-o
set_attribute-requires-clause-o c = c.augment.ensures.shape.fit c.args.machine.now.frame.side c.args.o c.requires.o

pub returns-in-Err-clause-law : goal.returns-in-Err-clause-law
returns-in-Err-clause-law c =
    let m = c.args.machine.now in
    let w = c.args.world.now in
    let u = c.augment.new.world in
    does_end m c.cut_off.new.self w u c.cut_off.result (attribute_augmented c.args.o c.args.name c.args.op c.args.a c.args.b) c.in-Err.end
    (augment_ends m w u (λ v. access.set_attribute c.args.o c.args.name v) c.args.op c.args.a c.args.b c.in-Err.end c.in-Err.ensures.law) c.cut_off.ensures.law

pub returns-in-Err-clause-ready : goal.returns-in-Err-clause-ready
returns-in-Err-clause-ready c =
    c.cut_off.ensures.ready c.augment.new.world (IsReady-goes _ _ _ c.args.world.now c.augment.new.world c.requires.ready c.augment.ensures.shape c.augment.ensures.faithful)
