use Rattle.std.proofs.Common.{Ok, ap, sym, ◌∙◌}
use Rattle.rp_ops.specs.Outcome.{on_value}
use Rattle.rp_engine.proofs.Doings.{does_as, does_end, does_goes}
use Rattle.rp_access.proofs.Going.{IsEnd-then}
use Rattle.rp_targets.proofs.Steps.{turn_ends, turn_gives, turn_stepped}
use Rattle.rp_engine.specs.Does as does
use Rattle.rp_engine.specs.Law.{frame_in}
use Rattle.rp_access.specs.Moment.{state_of}
use Rattle.rp_engine.specs.Rest.{tested_turn, turn}
use Rattle.rp_step.proofs.statements.turn.Goals as goal

pub returns-in-Ok-Some-clause-law : goal.returns-in-Ok-Some-clause-law
returns-in-Ok-Some-clause-law c =
    let m = c.args.machine.now in
    let w = c.args.world.now in
    let t = c.take_step.new.world in
    let u = c.leaf.new.world in
    let x = does.expr c.args.test.now in
    let body = does.block c.args.body.now in
    let found = rw c.in-Ok-Some.field-0-is at c.in-Ok-Some.ensures.law in
    does_as m c.tested.new.machine w c.tested.new.world c.tested.result (turn x body) (tested_turn c.in-Ok-Some.value body) u
    (turn_gives m w t u x body c.in_default.ensures.law c.in-Ok-Some.value found) c.tested.ensures.law

pub returns-in-Ok-None-clause-law : goal.returns-in-Ok-None-clause-law
returns-in-Ok-None-clause-law c =
    let m = c.args.machine.now in
    let w = c.args.world.now in
    let t = c.take_step.new.world in
    let u = c.leaf.new.world in
    let x = does.expr c.args.test.now in
    let body = does.block c.args.body.now in
    let same = c.in-Ok-None.ensures.none (ap Ok c.in-Ok-None.field-0-is) in
    does_goes m c.wait.new.self w u c.wait.result (turn x body) (λ f s. on_value (x f s) (λ v s. tested_turn v body f s))
    (λ base. turn_stepped m w t t x body c.in_default.ensures.law base
    ∙ ap (λ z. on_value (x (frame_in base m) (state_of z)) (λ v s. tested_turn v body (frame_in base m) s)) (sym same)) c.wait.ensures.law

pub returns-in-Err-leaf-clause-law : goal.returns-in-Err-leaf-clause-law
returns-in-Err-leaf-clause-law c =
    let m = c.args.machine.now in
    let w = c.args.world.now in
    let t = c.take_step.new.world in
    let u = c.leaf.new.world in
    let x = does.expr c.args.test.now in
    let body = does.block c.args.body.now in
    does_end m c.cut_off-in-Err-leaf.new.self w u c.cut_off-in-Err-leaf.result (turn x body) c.in-Err-leaf.end
    (turn_ends m w t u x body c.in_default.ensures.law c.in-Err-leaf.end c.in-Err-leaf.ensures.law) c.cut_off-in-Err-leaf.ensures.law

pub returns-in-Err-clause-law : goal.returns-in-Err-clause-law
returns-in-Err-clause-law c =
    let m = c.args.machine.now in
    let w = c.args.world.now in
    let u = c.take_step.new.world in
    let x = does.expr c.args.test.now in
    let body = does.block c.args.body.now in
    does_end m c.cut_off.new.self w u c.cut_off.result (turn x body) c.in-Err.end
    (λ base. IsEnd-then c.in-Err.end (state_of u) _ (λ _ s. on_value (x (frame_in base m) s) (λ v s. tested_turn v body (frame_in base m) s)) c.in-Err.ensures.law) c.cut_off.ensures.law
