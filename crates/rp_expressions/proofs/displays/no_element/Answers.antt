use Rattle.rp_engine.proofs.Gatherings.{forgot_end}
use Rattle.rp_engine.proofs.Passing.{ready_forgot}
use Rattle.rp_expressions.proofs.displays.no_element.Goals as goal

pub returns-clause-law : goal.returns-clause-law
returns-clause-law c = forgot_end c.args.machine.now c.forget.new.self c.no_value.new.self c.no_value.result c.args.count c.args.end c.forget.ensures c.no_value.ensures.law

pub returns-clause-ready : goal.returns-clause-ready
returns-clause-ready c = λ w h. c.no_value.ensures.ready w (ready_forgot c.args.machine.now c.forget.new.self c.args.count c.forget.ensures w h)
