use Rattle.std.proofs.Common.{ap, ◌∙◌, sym}
use Rattle.rp_meaning.specs.State.{returned}
use Rattle.rp_ops.specs.Outcome.{gives}
use Rattle.rp_engine.proofs.Passing.{ready_less}
use Rattle.rp_frame.specs.declared.control.Control.TheVariants as control
use Rattle.rp_step.proofs.Runs.{left_at}
use Rattle.rp_step.proofs.unwinding.how_left.Goals as goal

pub returns-in-Next-clause-law : goal.returns-in-Next-clause-law
returns-in-Next-clause-law c = λ base s none. left_at base c.args.machine.now s control.Next none c.in-Next.is

pub returns-in-Broke-clause-law : goal.returns-in-Broke-clause-law
returns-in-Broke-clause-law c = λ base s none. left_at base c.args.machine.now s control.Broke none c.in-Broke.is

pub returns-in-Continued-clause-law : goal.returns-in-Continued-clause-law
returns-in-Continued-clause-law c = λ base s none. left_at base c.args.machine.now s control.Continued none c.in-Continued.is

pub returns-in-Value-clause-law : goal.returns-in-Value-clause-law
returns-in-Value-clause-law c = λ base s none.
    left_at base c.args.machine.now s control.Value none c.in-Value.is ∙ ap (λ v. gives (returned v) s) (sym c.pop.ensures.value)

pub returns-in-Value-clause-ready : goal.returns-in-Value-clause-ready
returns-in-Value-clause-ready c = λ w h. ready_less c.args.machine.now c.pop.new.self c.pop.ensures.left w h

pub returns-in-Returned-clause-law : goal.returns-in-Returned-clause-law
returns-in-Returned-clause-law c = λ base s none.
    left_at base c.args.machine.now s control.Returned none c.in-Returned.is
    ∙ ap (λ v. gives (returned v) s) (sym c.pop-in-Returned.ensures.value)

pub returns-in-Returned-clause-ready : goal.returns-in-Returned-clause-ready
returns-in-Returned-clause-ready c = λ w h. ready_less c.args.machine.now c.pop-in-Returned.new.self c.pop-in-Returned.ensures.left w h

pub returns-in-NoValue-clause-law : goal.returns-in-NoValue-clause-law
returns-in-NoValue-clause-law c = λ base s none. c.why.ensures.end s _ (left_at base c.args.machine.now s control.NoValue none c.in-NoValue.is)

pub returns-in-CutOff-clause-law : goal.returns-in-CutOff-clause-law
returns-in-CutOff-clause-law c = λ base s none.
    c.why-in-CutOff.ensures.end s _ (left_at base c.args.machine.now s control.CutOff none c.in-CutOff.is)
