use Rattle.rp_meaning.specs.Frame.{Doing}
use Rattle.rp_base.specs.declared.value.Value.{Value}
use Rattle.rp_statements.proofs.Handlings.{moves_off}
use Rattle.rp_statements.proofs.GivenBack.{fit_off}
use Rattle.rp_engine.specs.Handling as steps
use Rattle.rp_statements.proofs.handling.leave.Goals as goal

pub returns-clause-law : goal.returns-clause-law
returns-clause-law c =
    let way : Value → Doing = λ v. steps.left c.args.leaving v in
    moves_off c.args.machine.now c.at_hand-value.new.self c.leave_with.new.machine c.at_hand-value.ensures.left c.leave_with.result way c.at_hand-value.result
    c.at_hand-value.ensures.value c.leave_with.ensures.law

pub returns-clause-ready : goal.returns-clause-ready
returns-clause-ready c = λ w h.
    c.leave_with.ensures.ready w (c.at_hand-value.ensures.ready w h)
    (fit_off c.args.machine.now c.at_hand-value.new.self c.at_hand-value.ensures.left w c.at_hand-value.result (c.at_hand-value.ensures.fit w h))
