use Rattle.std.proofs.Common.{Ok, ap, sym}
use Rattle.rp_meaning.specs.Statements as forms
use Rattle.rp_meaning.specs.Statements.{Store}
use Rattle.rp_engine.specs.AugmentSteps.{key_from}
use Rattle.rp_engine.proofs.Doings.{does_as, does_end, does_goes}
use Rattle.rp_targets.proofs.Steps.{assign_ends, assign_gives}
use Rattle.rp_engine.specs.Does as does
use Rattle.rp_engine.specs.Law.{frame_in}
use Rattle.rp_access.specs.Moment.{state_of}
use Rattle.rp_statements.proofs.augmented_places.augment_key.Goals as goal

pub returns-in-Ok-Some-clause-law : goal.returns-in-Ok-Some-clause-law
returns-in-Ok-Some-clause-law c =
    let m = c.args.machine.now in
    let w = c.args.world.now in
    let u = c.leaf.new.world in
    let x = does.expr c.args.key.now in
    let store : Store = key_from c.args.o c.args.op (does.expr c.args.value.now) in
    let found = rw c.in-Ok-Some.field-0-is at c.in-Ok-Some.ensures.law in
    does_as m c.augment_read_item.new.machine w c.augment_read_item.new.world c.augment_read_item.result (forms.assign x store) (store c.in-Ok-Some.i) u
    (assign_gives m w u x store c.in-Ok-Some.i found) c.augment_read_item.ensures.law

pub returns-in-Ok-None-clause-law : goal.returns-in-Ok-None-clause-law
returns-in-Ok-None-clause-law c =
    let m = c.args.machine.now in
    let w = c.args.world.now in
    let u = c.leaf.new.world in
    let x = does.expr c.args.key.now in
    let store : Store = key_from c.args.o c.args.op (does.expr c.args.value.now) in
    let same = c.in-Ok-None.ensures.none (ap Ok c.in-Ok-None.field-0-is) in
    does_goes m c.wait_with.new.self w u c.wait_with.result (forms.assign x store) (forms.assign x store)
    (λ base. ap (λ z. forms.assign x store (frame_in base m) (state_of z)) (sym same)) c.wait_with.ensures.law

pub returns-in-Err-clause-law : goal.returns-in-Err-clause-law
returns-in-Err-clause-law c =
    let m = c.args.machine.now in
    let w = c.args.world.now in
    let u = c.leaf.new.world in
    let x = does.expr c.args.key.now in
    let store : Store = key_from c.args.o c.args.op (does.expr c.args.value.now) in
    does_end m c.cut_off.new.self w u c.cut_off.result (forms.assign x store) c.in-Err.end
    (assign_ends m w u x store c.in-Err.end c.in-Err.ensures.law) c.cut_off.ensures.law
