use Rattle.rp_engine.proofs.Passing.{leaves_by, leaves_same}
use Rattle.rp_step.proofs.run.end_part.Goals as goal

pub returns-in_ok-take_up-in-Some-clause-law : goal.returns-in_ok-take_up-in-Some-clause-law
returns-in_ok-take_up-in-Some-clause-law c =
    leaves_by c.args.machine.now c.take_up.new.machine c.args.world.now c.take_up.new.world c.in-Some.task c.pop.new.self c.in-Some.ensures.last c.in_ok-take_up-in-Some.ensures.law

pub returns-in-None-clause-law : goal.returns-in-None-clause-law
returns-in-None-clause-law c = leaves_same c.args.machine.now c.args.world.now c.pop.new.self c.in-None.ensures.last (c.in-None.ensures.none c.in-None.ensures.last)
