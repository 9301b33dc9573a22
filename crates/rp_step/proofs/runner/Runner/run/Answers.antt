use Rattle.std.proofs.Common.{arith}
use Rattle.rp_store.proofs.CallerLemmas.{KeepsShape-trans}
use Rattle.rp_step.proofs.Runs.{goes_trans}
use Rattle.rp_step.proofs.runner.Runner.run.Goals as goal

pub loop-preserved : goal.loop-preserved
loop-preserved c = (
  goes_trans c.args.self.now c.loop.self c.advance.new.self c.args.world.now c.loop.world c.advance.new.world c.loop.invariant.0 c.in_ok-advance.ensures.law,
  c.in_ok-advance.ensures.ready,
  KeepsShape-trans _ _ _ c.loop.invariant.2 c.advance.ensures.shape,
  omega arith,
)

pub returns-clause-law : goal.returns-clause-law
returns-clause-law c =
    goes_trans c.args.self.now c.loop.self c.advance.new.self c.args.world.now c.loop.world c.advance.new.world c.loop.invariant.0 c.in_ok-advance.ensures.law
