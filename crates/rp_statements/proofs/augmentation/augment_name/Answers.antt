use Rattle.rp_meaning.specs.Frame.{read_name}
use Rattle.rp_meaning.specs.Statements as forms
use Rattle.rp_meaning.specs.Statements.{Store}
use Rattle.rp_engine.proofs.Doings.{does_as, does_end}
use Rattle.rp_targets.proofs.Steps.{assign_ends, assign_gives}
use Rattle.rp_engine.specs.AugmentSteps.{name_augmented}
use Rattle.rp_engine.specs.Does as does
use Rattle.rp_statements.proofs.augmentation.augment_name.Goals as goal

pub returns-in-Ok-clause-law : goal.returns-in-Ok-clause-law
returns-in-Ok-clause-law c =
    let m = c.args.machine.now in
    let w = c.args.world.now in
    let u = c.read.new.world in
    let n = c.args.name in
    let store : Store = λ a. forms.assign (does.expr c.args.value.now) (name_augmented n c.args.op a) in
    does_as m c.augment_by.new.machine w c.augment_by.new.world c.augment_by.result (forms.assign (read_name n) store) (store c.in-Ok.a) u
    (assign_gives m w u (read_name n) store c.in-Ok.a c.in-Ok.ensures.law) c.augment_by.ensures.law

pub returns-in-Err-clause-law : goal.returns-in-Err-clause-law
returns-in-Err-clause-law c =
    let m = c.args.machine.now in
    let w = c.args.world.now in
    let u = c.read.new.world in
    let n = c.args.name in
    let store : Store = λ a. forms.assign (does.expr c.args.value.now) (name_augmented n c.args.op a) in
    does_end m c.cut_off.new.self w u c.cut_off.result (forms.assign (read_name n) store) c.in-Err.end
    (assign_ends m w u (read_name n) store c.in-Err.end c.in-Err.ensures.law) c.cut_off.ensures.law
