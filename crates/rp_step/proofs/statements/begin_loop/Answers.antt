use Rattle.std.proofs.Common.{◌≡◌, ◌+◌, suc, ap, arith}
use Rattle.rp_meaning.specs.Statements as forms
use Rattle.rp_engine.proofs.Doings.{does_as}
use Rattle.rp_engine.specs.Does as does
use Rattle.rp_engine.specs.Law.{frame_in}
use Rattle.rp_access.specs.Moment.{state_of}
use Rattle.rp_engine.specs.Rest.{loop}
use Rattle.rp_step.proofs.statements.begin_loop.Goals as goal

pub returns-clause-law : goal.returns-clause-law
returns-clause-law c =
    let m = c.args.machine.now in
    let w = c.args.world.now in
    let x = does.expr c.args.test.now in
    let body = does.block c.args.body.now in
    let left = w.running.meter.left in
    let e : left + 1 ≡ suc left = omega arith in
    does_as m c.next_turn.new.machine w c.next_turn.new.world c.next_turn.result (forms.while x body) (loop (suc left) x body) w
    (λ base. ap (λ n. loop n x body (frame_in base m) (state_of w)) e) c.next_turn.ensures.law
