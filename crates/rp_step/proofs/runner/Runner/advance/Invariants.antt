use Rattle.std.proofs.Common.{◌≡◌}
use Rattle.rp_store.specs.Shape.{KeepsShape}
use Rattle.rp_step.specs.RunLoads.{run_load}
use Rattle.rp_step.specs.Running.{GoesOn, IsRunnable}
use Rattle.rp_step.proofs.runner.Runner.advance.Given as goal

abbrev pub invariant-loop : goal.invariant-loop
invariant-loop l =
    GoesOn l.initial.self l.initial.world l.self l.world × IsRunnable l.self l.world
    × KeepsShape l.initial.world.store.heap l.world.store.heap × l.left ≡ l.world.running.meter.left

abbrev pub decreases-loop : goal.decreases-loop
decreases-loop l = run_load l.self
