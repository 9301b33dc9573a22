use Rattle.std.proofs.Common.{Option, None, sym, ap, ◌∙◌}
use Rattle.rp_base.specs.declared.value.Raised.{Raised}
use Rattle.rp_frame.specs.Top.{below}
use Rattle.rp_frame.specs.declared.task.StmtTask.TheVariants as stmt
use Rattle.rp_access.specs.Moment.{state_of}
use Rattle.rp_statements.proofs.Handlings.{moves_executes, resumes_off}
use Rattle.rp_statements.proofs.GivenBack.{fit_off}
use Rattle.rp_engine.specs.Does as does
use Rattle.rp_engine.specs.Handling as steps
use Rattle.rp_engine.specs.Law.{frame_in}
use Rattle.rp_engine.specs.Rest.{did}
use Rattle.rp_statements.proofs.handling.after_handler.Goals as goal

pub returns-in-Some-clause-law : goal.returns-in-Some-clause-law
returns-in-Some-clause-law c =
    let m = c.args.machine.now in
    let w = c.args.world.now in
    let h = does.handler c.args.handler.now in
    let hs = does.handlers c.args.behind.now in
    resumes_off m c.at_hand.new.self c.if_takes.new.machine c.at_hand.ensures.left w c.if_takes.new.world c.if_takes.result
    (stmt.Handler c.args.handler c.args.behind) c.args.value (steps.if_takes h hs c.in-Some.raised c.args.value)
    (λ base. ap (λ (o : Option Raised). did (frame_in base m) (below m.values) (steps.tried h hs o c.args.value (frame_in base m) (state_of w)))
    (sym (c.in-Some.ensures ∙ ap steps.thrown_of c.at_hand.ensures.value))) c.if_takes.ensures.law

pub returns-in-None-clause-law : goal.returns-in-None-clause-law
returns-in-None-clause-law c =
    let m = c.args.machine.now in
    let p = c.at_hand.new.self in
    let n = c.raise_once_more.new.machine in
    let w = c.args.world.now in
    let h = does.handler c.args.handler.now in
    let hs = does.handlers c.args.behind.now in
    resumes_off m p n c.at_hand.ensures.left w w c.raise_once_more.result (stmt.Handler c.args.handler c.args.behind) c.args.value (steps.raise_handled None)
    (λ base. ap (λ (o : Option Raised). did (frame_in base m) (below m.values) (steps.tried h hs o c.args.value (frame_in base m) (state_of w)))
    (sym (c.in-None.ensures ∙ ap steps.thrown_of c.at_hand.ensures.value))) (moves_executes p n c.raise_once_more.result (steps.raise_handled None) w c.raise_once_more.ensures.law)

pub returns-in-None-clause-ready : goal.returns-in-None-clause-ready
returns-in-None-clause-ready c = c.raise_once_more.ensures.ready c.args.world.now (c.at_hand.ensures.ready c.args.world.now c.requires.ready)

pub if_takes-requires-clause-ready : goal.if_takes-requires-clause-ready
if_takes-requires-clause-ready c = c.at_hand.ensures.ready c.args.world.now c.requires.ready

pub if_takes-requires-clause-value : goal.if_takes-requires-clause-value
if_takes-requires-clause-value c = fit_off c.args.machine.now c.at_hand.new.self c.at_hand.ensures.left c.args.world.now c.args.value c.requires.value
