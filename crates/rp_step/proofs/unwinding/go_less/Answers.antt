use Rattle.rp_engine.proofs.Passing.{forgot, ready_forgot}
use Rattle.rp_step.proofs.unwinding.go_less.Goals as goal

pub returns-clause-law : goal.returns-clause-law
returns-clause-law c = forgot c.args.machine.now c.forget.new.self c.args.count c.forget.ensures c.go.new.self c.args.control c.go.ensures.law

pub returns-clause-ready : goal.returns-clause-ready
returns-clause-ready c = λ w h. c.go.ensures.ready w (ready_forgot c.args.machine.now c.forget.new.self c.args.count c.forget.ensures w h)
