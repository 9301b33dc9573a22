use Rattle.std.proofs.Common.{◌≡◌, ◌-◌, suc, ap, arith}
use Rattle.rp_base.specs.declared.value.OpEnd.TheVariants as end
use Rattle.rp_engine.proofs.Doings.{does_as, does_end}
use Rattle.rp_engine.specs.Does as does
use Rattle.rp_engine.specs.Law.{frame_in}
use Rattle.rp_access.specs.Moment.{state_of}
use Rattle.rp_engine.specs.Rest.{loop}
use Rattle.rp_step.proofs.statements.loop_turn.Goals as goal

pub returns-then-turns-eq0-clause-law : goal.returns-then-turns-eq0-clause-law
returns-then-turns-eq0-clause-law c =
    let m = c.args.machine.now in
    let w = c.args.world.now in
    let x = does.expr c.args.test.now in
    let body = does.block c.args.body.now in
    does_end m c.cut_off.new.self w w c.cut_off.result (loop c.args.turns x body) end.StopSteps
    (λ base. ap (λ n. loop n x body (frame_in base m) (state_of w)) c.if-turns-eq0.true) c.cut_off.ensures.law

pub returns-clause-law : goal.returns-clause-law
returns-clause-law c =
    let m = c.args.machine.now in
    let w = c.args.world.now in
    let x = does.expr c.args.test.now in
    let body = does.block c.args.body.now in
    let e : c.args.turns ≡ suc (c.args.turns - 1) = omega arith in
    does_as m c.next_turn.new.machine w c.next_turn.new.world c.next_turn.result (loop c.args.turns x body) (loop (suc (c.args.turns - 1)) x body) w
    (λ base. ap (λ n. loop n x body (frame_in base m) (state_of w)) e) c.next_turn.ensures.law
