use Rattle.rp_meaning.specs.Frame.{bind_name}
use Rattle.rp_targets.proofs.Changed.{augment_ends, augment_gives}
use Rattle.rp_engine.proofs.Doings.{does_as, does_end}
use Rattle.rp_engine.proofs.Worlds.{IsReady-goes}
use Rattle.rp_engine.specs.AugmentSteps.{name_augmented}
use Rattle.rp_statements.proofs.augmentation.bind_augmented.Goals as goal

pub returns-in-Ok-clause-law : goal.returns-in-Ok-clause-law
returns-in-Ok-clause-law c =
    let m = c.args.machine.now in
    let w = c.args.world.now in
    let u = c.augment.new.world in
    let n = c.args.name in
    does_as m c.bind_next.new.machine w c.bind_next.new.world c.bind_next.result (name_augmented n c.args.op c.args.a c.args.b) (bind_name n c.in-Ok.value) u
    (augment_gives m w u (bind_name n) c.args.op c.args.a c.args.b c.in-Ok.value c.in-Ok.ensures.law) c.bind_next.ensures.law

pub bind_next-requires-clause-ready : goal.bind_next-requires-clause-ready
bind_next-requires-clause-ready c = IsReady-goes _ _ _ c.args.world.now c.augment.new.world c.requires.ready c.augment.ensures.shape c.augment.ensures.faithful

pub returns-clause-law : goal.returns-clause-law
returns-clause-law c =
    let m = c.args.machine.now in
    let w = c.args.world.now in
    let u = c.augment.new.world in
    let n = c.args.name in
    does_end m c.cut_off.new.self w u c.cut_off.result (name_augmented n c.args.op c.args.a c.args.b) c.in-Err.end
    (augment_ends m w u (bind_name n) c.args.op c.args.a c.args.b c.in-Err.end c.in-Err.ensures.law) c.cut_off.ensures.law

pub returns-clause-ready : goal.returns-clause-ready
returns-clause-ready c =
    c.cut_off.ensures.ready c.augment.new.world (IsReady-goes _ _ _ c.args.world.now c.augment.new.world c.requires.ready c.augment.ensures.shape c.augment.ensures.faithful)
