use Rattle.std.proofs.Common.{suc, ap}
use Rattle.rp_engine.proofs.Doings.{pushed}
use Rattle.rp_step.proofs.Loops.{loop_unrolled}
use Rattle.rp_engine.specs.Does as does
use Rattle.rp_engine.specs.Law.{frame_in}
use Rattle.rp_access.specs.Moment.{state_of}
use Rattle.rp_engine.specs.Rest.{did, loop, turn}
use Rattle.rp_step.proofs.statements.next_turn.Goals as goal

pub returns-clause-law : goal.returns-clause-law
returns-clause-law c =
    let m = c.args.machine.now in
    let w = c.args.world.now in
    let x = does.expr c.args.test.now in
    let body = does.block c.args.body.now in
    pushed m c.turn.new.machine w c.turn.new.world c.turn.result _ c.push.new.self (loop (suc c.args.behind) x body) (turn x body) c.in_ok-push.ensures.pushed
    (λ base. ap (did (frame_in base m) m.values) (loop_unrolled c.args.behind x body (frame_in base m) (state_of w))) c.turn.ensures.law
