use Rattle.std.proofs.Common.{arith}
use Rattle.rp_expressions.proofs.Callings.{dropped_trailers, fit_dropped, ready_dropped}
use Rattle.rp_engine.specs.Does as does
use Rattle.rp_expressions.proofs.arguments.with_result.Goals as goal

pub returns-clause-law : goal.returns-clause-law
returns-clause-law c =
    dropped_trailers c.args.machine.now c.forget.new.self c.more_trailers.new.machine c.more_trailers.result c.args.count _ c.forget.ensures (omega arith)
    (does.trailers c.args.trailers.now) c.args.value c.more_trailers.ensures.law

pub returns-clause-ready : goal.returns-clause-ready
returns-clause-ready c = λ w ready fit.
    c.more_trailers.ensures.ready w
    (ready_dropped c.args.machine.now c.forget.new.self c.more_trailers.new.machine c.more_trailers.result c.args.count _ c.forget.ensures (omega arith) w ready)
    (fit_dropped c.args.machine.now c.forget.new.self c.more_trailers.new.machine c.more_trailers.result c.args.count _ c.forget.ensures (omega arith) w c.args.value fit)
