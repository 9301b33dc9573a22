use Rattle.rp_meaning.specs.Statements as forms
use Rattle.rp_engine.proofs.Doings.{does_any, does_end}
use Rattle.rp_targets.proofs.Unpacked.{unpack_ends, unpack_gives}
use Rattle.rp_engine.proofs.Worlds.{IsReady-goes}
use Rattle.rp_engine.specs.Does as does
use Rattle.rp_engine.specs.Law.{frame_in}
use Rattle.rp_engine.specs.UnpackingSteps.{each_stored}
use Rattle.std.proofs.Common.{refl}
use Rattle.rp_targets.proofs.unpacking.unpack.Goals as goal

pub returns-in-Ok-clause-law : goal.returns-in-Ok-clause-law
returns-in-Ok-clause-law c =
    let m = c.args.machine.now in
    let w = c.args.world.now in
    let u = c.unpack.new.world in
    let xs = c.args.targets.now in
    does_any m c.unpacked.new.machine w u c.unpacked.result (forms.unpack (does.targets xs) c.args.value) (each_stored (does.targets xs) c.in-Ok.elements.items)
    (unpack_gives m w u xs c.args.value c.in-Ok.elements.items (λ base. c.in-Ok.ensures.law (frame_in base m) refl)) c.unpacked.ensures.law

pub returns-clause-law : goal.returns-clause-law
returns-clause-law c =
    let m = c.args.machine.now in
    let w = c.args.world.now in
    let u = c.unpack.new.world in
    let xs = c.args.targets.now in
    does_end m c.cut_off.new.self w u c.cut_off.result (forms.unpack (does.targets xs) c.args.value) c.in-Err.end
    (unpack_ends m w u xs c.args.value c.in-Err.end (λ base. c.in-Err.ensures.law (frame_in base m) refl)) c.cut_off.ensures.law

pub returns-in-Ok-clause-ready : goal.returns-in-Ok-clause-ready
returns-in-Ok-clause-ready c =
    c.unpacked.ensures.ready c.unpack.new.world (IsReady-goes _ _ _ c.args.world.now c.unpack.new.world c.requires.ready c.unpack.ensures.shape c.unpack.ensures.faithful)
    c.in-Ok.ensures.fit

pub returns-clause-ready : goal.returns-clause-ready
returns-clause-ready c =
    c.cut_off.ensures.ready c.unpack.new.world (IsReady-goes _ _ _ c.args.world.now c.unpack.new.world c.requires.ready c.unpack.ensures.shape c.unpack.ensures.faithful)
