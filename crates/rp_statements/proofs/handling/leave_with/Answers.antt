use Rattle.std.proofs.Common.{sym, ap, ◌∙◌}
use Rattle.rp_frame.specs.declared.leaving.Leaving.{Leaving}
use Rattle.rp_meaning.specs.Frame.{Doing}
use Rattle.rp_meaning.specs.State.{returned}
use Rattle.rp_ops.specs.Outcome.{gives}
use Rattle.rp_engine.proofs.Doings.{always}
use Rattle.rp_statements.proofs.Handlings.{moves_as}
use Rattle.rp_engine.specs.Handling as steps
use Rattle.rp_engine.specs.Law.{Moves, frame_in}
use Rattle.rp_engine.specs.Rest.{did, rest}
use Rattle.rp_statements.proofs.handling.leave_with.Goals as goal

pub returns-in-Next-clause-law : goal.returns-in-Next-clause-law
returns-in-Next-clause-law c =
    let m = c.args.machine.now in
    always c.go.result (Moves (steps.left c.args.leaving c.args.value) m c.go.new.self)
    (λ base s. c.go.ensures.law base s ∙ ap (λ (l : Leaving). rest m.tasks (did (frame_in base m) m.values (steps.left l c.args.value (frame_in base m) s))) (sym c.in-Next.is))

pub returns-in-Broke-clause-law : goal.returns-in-Broke-clause-law
returns-in-Broke-clause-law c =
    let m = c.args.machine.now in
    always c.go-in-Broke.result (Moves (steps.left c.args.leaving c.args.value) m c.go-in-Broke.new.self)
    (λ base s. c.go-in-Broke.ensures.law base s ∙ ap (λ (l : Leaving). rest m.tasks (did (frame_in base m) m.values (steps.left l c.args.value (frame_in base m) s))) (sym c.in-Broke.is))

pub returns-in-Continued-clause-law : goal.returns-in-Continued-clause-law
returns-in-Continued-clause-law c =
    let m = c.args.machine.now in
    always c.go-in-Continued.result (Moves (steps.left c.args.leaving c.args.value) m c.go-in-Continued.new.self)
    (λ base s. c.go-in-Continued.ensures.law base s ∙ ap (λ (l : Leaving). rest m.tasks (did (frame_in base m) m.values (steps.left l c.args.value (frame_in base m) s))) (sym c.in-Continued.is))

pub returns-in-Raised-clause-law : goal.returns-in-Raised-clause-law
returns-in-Raised-clause-law c =
    let m = c.args.machine.now in
    moves_as m c.raise_once_more.new.machine c.raise_once_more.result (steps.left c.args.leaving c.args.value) (steps.raise_handled c.thrown_of.result)
    (λ base s. ap (λ (l : Leaving). steps.left l c.args.value (frame_in base m) s) c.in-Raised.is ∙ ap (λ o. steps.raise_handled o (frame_in base m) s) (sym c.thrown_of.ensures)) c.raise_once_more.ensures.law

pub returns-in-Returned-clause-law : goal.returns-in-Returned-clause-law
returns-in-Returned-clause-law c =
    let m = c.args.machine.now in
    let back : Doing = λ f s. gives (returned c.args.value) s in
    moves_as m c.returns.new.machine c.returns.result (steps.left c.args.leaving c.args.value) back
    (λ base s. ap (λ (l : Leaving). steps.left l c.args.value (frame_in base m) s) c.in-Returned.is) c.returns.ensures.law
