use Rattle.rp_statements.proofs.Handlings.{ended, ended_ready}
use Rattle.rp_statements.proofs.handling.end_handler.Goals as goal

pub returns-clause-law : goal.returns-clause-law
returns-clause-law c = ended c.args.machine.now c.handle_before.new.machine c.handle_before.ensures c.go.new.self c.args.control c.go.ensures.law

pub returns-clause-ready : goal.returns-clause-ready
returns-clause-ready c = λ w h. c.go.ensures.ready w (ended_ready c.args.machine.now c.handle_before.new.machine c.handle_before.ensures w h)
