use Rattle.std.proofs.Common.{Ok, Some, ap, sym}
use Rattle.rp_meaning.specs.State.{returned}
use Rattle.rp_meaning.specs.Statements as stmt_forms
use Rattle.rp_meaning.specs.Frame.{Doing}
use Rattle.rp_ops.specs.Outcome.{gives}
use Rattle.rp_engine.proofs.Doings.{does_end, does_goes}
use Rattle.rp_statements.proofs.GivenBack.{returns_end, returns_value}
use Rattle.rp_engine.specs.Does as does
use Rattle.rp_engine.specs.Law.{frame_in}
use Rattle.rp_access.specs.Moment.{state_of}
use Rattle.rp_statements.proofs.returning.give_value.Goals as goal

pub returns-in-Ok-Some-clause-law : goal.returns-in-Ok-Some-clause-law
returns-in-Ok-Some-clause-law c =
    let m = c.args.machine.now in
    let w = c.args.world.now in
    let u = c.leaf.new.world in
    let x = does.expr c.args.value.now in
    let E : Doing = λ f s. gives (returned c.in-Ok-Some.v) s in
    let found = rw c.in-Ok-Some.field-0-is at c.in-Ok-Some.ensures.law in
    does_goes m c.returns.new.machine w u c.returns.result (stmt_forms.give_back (Some x)) E (returns_value m w u x c.in-Ok-Some.v found) c.returns.ensures.law

pub returns-in-Ok-None-clause-law : goal.returns-in-Ok-None-clause-law
returns-in-Ok-None-clause-law c =
    let m = c.args.machine.now in
    let w = c.args.world.now in
    let u = c.leaf.new.world in
    let D = stmt_forms.give_back (Some (does.expr c.args.value.now)) in
    let same = c.in-Ok-None.ensures.none (ap Ok c.in-Ok-None.field-0-is) in
    does_goes m c.wait.new.self w u c.wait.result D D (λ base. ap (λ z. D (frame_in base m) (state_of z)) (sym same)) c.wait.ensures.law

pub returns-in-Err-clause-law : goal.returns-in-Err-clause-law
returns-in-Err-clause-law c =
    let m = c.args.machine.now in
    let w = c.args.world.now in
    let u = c.leaf.new.world in
    let x = does.expr c.args.value.now in
    does_end m c.cut_off.new.self w u c.cut_off.result (stmt_forms.give_back (Some x)) c.in-Err.end (returns_end m w u x c.in-Err.end c.in-Err.ensures.law) c.cut_off.ensures.law
