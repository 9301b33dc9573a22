use Rattle.std.proofs.Common.{refl}
use Rattle.rp_base.specs.declared.value.Value.TheVariants as value
use Rattle.rp_meaning.specs.Frame.{bind_name}
use Rattle.rp_statements.proofs.ClassParts.{class_ends, class_gives}
use Rattle.rp_engine.proofs.Doings.{does_as, does_end}
use Rattle.rp_engine.proofs.Worlds.{IsReady-goes}
use Rattle.rp_engine.specs.ClassSteps.{class_bound}
use Rattle.rp_engine.specs.Law.{frame_in}
use Rattle.rp_statements.proofs.class_blocks.bind_class.Goals as goal

pub returns-in-Ok-clause-law : goal.returns-in-Ok-clause-law
returns-in-Ok-clause-law c =
    let m = c.args.machine.now in
    let w = c.args.world.now in
    let u = c.class_with.new.world in
    does_as m c.bind_next.new.machine w c.bind_next.new.world c.bind_next.result (class_bound c.args.name c.args.methods) (bind_name c.args.name (value.Ref c.in-Ok.at)) u
    (class_gives m w u c.args.name c.args.methods c.functions_in-functions.result c.functions_in-functions.ensures.value c.declared_class-declared.result
    (λ base. c.declared_class-declared.ensures.place (frame_in base m) refl refl) c.in-Ok.at c.in-Ok.ensures.law) c.bind_next.ensures.law

pub returns-in-Err-clause-law : goal.returns-in-Err-clause-law
returns-in-Err-clause-law c =
    let m = c.args.machine.now in
    let w = c.args.world.now in
    let u = c.class_with.new.world in
    does_end m c.cut_off.new.self w u c.cut_off.result (class_bound c.args.name c.args.methods) c.in-Err.end
    (class_ends m w u c.args.name c.args.methods c.functions_in-functions.result c.functions_in-functions.ensures.value c.declared_class-declared.result
    (λ base. c.declared_class-declared.ensures.place (frame_in base m) refl refl) c.in-Err.end c.in-Err.ensures.law) c.cut_off.ensures.law

pub bind_next-requires-clause-ready : goal.bind_next-requires-clause-ready
bind_next-requires-clause-ready c = IsReady-goes _ _ _ c.args.world.now c.class_with.new.world c.requires.ready c.class_with.ensures.shape c.class_with.ensures.faithful

pub bind_next-requires-clause-value : goal.bind_next-requires-clause-value
bind_next-requires-clause-value c = c.in-Ok.ensures.fit

pub returns-in-Err-clause-ready : goal.returns-in-Err-clause-ready
returns-in-Err-clause-ready c =
    c.cut_off.ensures.ready c.class_with.new.world (IsReady-goes _ _ _ c.args.world.now c.class_with.new.world c.requires.ready c.class_with.ensures.shape c.class_with.ensures.faithful)
