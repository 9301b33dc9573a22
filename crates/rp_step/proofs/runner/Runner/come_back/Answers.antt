use Rattle.rp_step.proofs.Runs.{came_back, first_waits, last_waits, stays, stays_ready}
use Rattle.std.proofs.Common.{sym, subst, ap, ◌∙◌}
use Rattle.rp_engine.specs.Ready.{IsReady}
use Rattle.rp_engine.specs.declared.machine.Machine.{Machine}
use Rattle.rp_step.specs.Left.{at_end}
use Rattle.rp_step.proofs.RunWeights.{came_less}
use Rattle.rp_step.proofs.runner.Runner.come_back.Goals as goal

pub returns-in_ok-resume-in-Some-clause-law : goal.returns-in_ok-resume-in-Some-clause-law
returns-in_ok-resume-in-Some-clause-law c =
    came_back c.args.self.now c.next_caller.new.self c.resume.new.self c.args.world.now c.in-Some.caller c.in-Some.ensures.last c.next_caller.ensures.machine c.in_ok-resume-in-Some.ensures.law

pub resume-requires-clause-ready : goal.resume-requires-clause-ready
resume-requires-clause-ready c = record {
  machine = subst (λ (m : Machine). IsReady m.units.now m.frame m.values c.args.world.now) (sym c.next_caller.ensures.machine) c.requires.ready.machine;
  callers = first_waits c.args.world.now c.args.self.now.callers.items c.next_caller.new.self.callers.items c.in-Some.caller c.in-Some.ensures.last c.requires.ready.callers;
}

pub resume-requires-clause-caller : goal.resume-requires-clause-caller
resume-requires-clause-caller c =
    last_waits c.args.world.now c.args.self.now.callers.items c.next_caller.new.self.callers.items c.in-Some.caller c.in-Some.ensures.last c.requires.ready.callers

pub resume-requires-clause-tasks : goal.resume-requires-clause-tasks
resume-requires-clause-tasks c = ap (λ (m : Machine). m.tasks) c.next_caller.ensures.machine ∙ c.requires.tasks

pub resume-requires-clause-stands : goal.resume-requires-clause-stands
resume-requires-clause-stands c = ap (λ (m : Machine). at_end m.control) c.next_caller.ensures.machine ∙ c.requires.stands

pub returns-in-None-clause-law : goal.returns-in-None-clause-law
returns-in-None-clause-law c =
    stays c.args.self.now c.next_caller.new.self c.args.world.now c.next_caller.ensures.machine (c.next_caller.ensures.same c.in-None.ensures.last) c.in-None.ensures.last

pub returns-in-None-clause-ready : goal.returns-in-None-clause-ready
returns-in-None-clause-ready c =
    stays_ready c.args.self.now c.next_caller.new.self c.args.world.now c.next_caller.ensures.machine (c.next_caller.ensures.same c.in-None.ensures.last) c.requires.ready

pub returns-in-None-clause-ended : goal.returns-in-None-clause-ended
returns-in-None-clause-ended c = λ h. ap (λ (m : Machine). m.tasks) c.next_caller.ensures.machine ∙ c.requires.tasks

pub returns-in-None-clause-none : goal.returns-in-None-clause-none
returns-in-None-clause-none c = λ h. c.next_caller.ensures.same c.in-None.ensures.last

pub returns-in-None-clause-stands : goal.returns-in-None-clause-stands
returns-in-None-clause-stands c = λ h. ap (λ (m : Machine). at_end m.control) c.next_caller.ensures.machine ∙ c.requires.stands

pub returns-in_ok-resume-in-Some-clause-less : goal.returns-in_ok-resume-in-Some-clause-less
returns-in_ok-resume-in-Some-clause-less c = λ h.
    came_less c.args.self.now c.next_caller.new.self c.resume.new.self c.in-Some.caller c.in-Some.ensures.last c.next_caller.ensures.machine c.in_ok-resume-in-Some.ensures.less
