use Rattle.rp_engine.proofs.Passing.{ready_forgot}
use Rattle.rp_statements.proofs.GivenBack.{fit_less, returned_less}
use Rattle.rp_statements.proofs.returning.returns_less.Goals as goal

pub returns-clause-law : goal.returns-clause-law
returns-clause-law c = returned_less c.args.machine.now c.forget.new.self c.args.count c.forget.ensures c.returns.new.machine c.returns.result c.args.value c.returns.ensures.law

pub returns-clause-ready : goal.returns-clause-ready
returns-clause-ready c = λ w h fit.
    c.returns.ensures.ready w (ready_forgot c.args.machine.now c.forget.new.self c.args.count c.forget.ensures w h)
    (fit_less c.args.machine.now c.forget.new.self c.args.count c.forget.ensures w c.args.value fit)
