use Rattle.std.proofs.Common.{Ok, ap, sym}
use Rattle.rp_meaning.specs.Statements as forms
use Rattle.rp_engine.proofs.Doings.{does_any, does_end, does_goes}
use Rattle.rp_targets.proofs.Steps.{assign_ends, assign_gives}
use Rattle.rp_engine.specs.Does as does
use Rattle.rp_engine.specs.Law.{frame_in}
use Rattle.rp_engine.specs.RaisingSteps.{raised_value}
use Rattle.rp_access.specs.Moment.{state_of}
use Rattle.rp_statements.proofs.raising.raise_of.Goals as goal

pub returns-in-Ok-Some-clause-law : goal.returns-in-Ok-Some-clause-law
returns-in-Ok-Some-clause-law c =
    let m = c.args.machine.now in
    let w = c.args.world.now in
    let u = c.leaf.new.world in
    let x = does.expr c.args.x.now in
    let found = rw c.in-Ok-Some.field-0-is at c.in-Ok-Some.ensures.law in
    does_any m c.raised.new.machine w u c.raised.result (forms.assign x raised_value) (raised_value c.in-Ok-Some.value)
    (assign_gives m w u x raised_value c.in-Ok-Some.value found) c.raised.ensures.law

pub returns-in-Ok-None-clause-law : goal.returns-in-Ok-None-clause-law
returns-in-Ok-None-clause-law c =
    let m = c.args.machine.now in
    let w = c.args.world.now in
    let u = c.leaf.new.world in
    let x = does.expr c.args.x.now in
    let same = c.in-Ok-None.ensures.none (ap Ok c.in-Ok-None.field-0-is) in
    does_goes m c.wait.new.self w u c.wait.result (forms.assign x raised_value) (forms.assign x raised_value)
    (λ base. ap (λ z. forms.assign x raised_value (frame_in base m) (state_of z)) (sym same)) c.wait.ensures.law

pub returns-in-Err-clause-law : goal.returns-in-Err-clause-law
returns-in-Err-clause-law c =
    let m = c.args.machine.now in
    let w = c.args.world.now in
    let u = c.leaf.new.world in
    let x = does.expr c.args.x.now in
    does_end m c.cut_off.new.self w u c.cut_off.result (forms.assign x raised_value) c.in-Err.end
    (assign_ends m w u x raised_value c.in-Err.end c.in-Err.ensures.law) c.cut_off.ensures.law
