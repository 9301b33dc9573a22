use Rattle.std.proofs.Common.{ap, ◌∙◌}
use Rattle.rp_statements.proofs.Handlings.{entered, entered_ready, handling_fit}
use Rattle.rp_engine.specs.Does as does
use Rattle.rp_engine.specs.Handling.{handling_value}
use Rattle.rp_statements.proofs.handling.enter_handler.Goals as goal

pub returns-clause-law : goal.returns-clause-law
returns-clause-law c =
    let m = c.args.machine.now in
    let p = c.change_handling-before.new.machine in
    entered m p c.wait_with.new.self c.args.raised c.change_handling-before.ensures.now c.wait_with.result c.args.name (does.block c.args.body.now) c.handling_value.result
    (c.handling_value.ensures ∙ ap handling_value c.change_handling-before.ensures.before) c.wait_with.ensures.law

pub returns-clause-ready : goal.returns-clause-ready
returns-clause-ready c = λ w h.
    let m = c.args.machine.now in
    let p = c.change_handling-before.new.machine in
    c.wait_with.ensures.ready w (entered_ready m p c.wait_with.new.self c.args.raised c.change_handling-before.ensures.now w h)
    (handling_fit w.store.heap p.frame.side c.handling_value.result c.change_handling-before.result c.handling_value.ensures)
