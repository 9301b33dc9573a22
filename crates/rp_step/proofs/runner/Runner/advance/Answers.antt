use Rattle.std.proofs.Common.{arith}
use Rattle.rp_store.proofs.CallerLemmas.{KeepsShape-trans}
use Rattle.rp_step.proofs.Runs.{goes_trans}
use Rattle.rp_step.proofs.runner.Runner.advance.Goals as goal

pub loop-preserved : goal.loop-preserved
loop-preserved c = (
  goes_trans c.args.self.now c.loop.self c.step.new.self c.args.world.now c.loop.world c.step.new.world c.loop.invariant.0 c.in_ok-step.ensures.law,
  c.in_ok-step.ensures.ready,
  KeepsShape-trans _ _ _ c.loop.invariant.2 c.step.ensures.shape,
  omega arith,
)

pub returns-in-Ended-clause-law : goal.returns-in-Ended-clause-law
returns-in-Ended-clause-law c =
    goes_trans c.args.self.now c.loop.self c.step.new.self c.args.world.now c.loop.world c.step.new.world c.loop.invariant.0 c.in_ok-step.ensures.law

pub returns-then-world-left-clause-law : goal.returns-then-world-left-clause-law
returns-then-world-left-clause-law c =
    goes_trans c.args.self.now c.loop.self c.step.new.self c.args.world.now c.loop.world c.step.new.world c.loop.invariant.0 c.in_ok-step.ensures.law
