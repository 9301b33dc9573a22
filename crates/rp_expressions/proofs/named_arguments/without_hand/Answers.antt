use Rattle.std.proofs.Common.{◌≡◌, ◌+◌, arith, suc}
use Rattle.rp_expressions.proofs.Callings.{dropped_end, ready_dropped}
use Rattle.rp_engine.specs.HandSteps.{size_of}
use Rattle.rp_expressions.proofs.named_arguments.without_hand.Goals as goal

pub returns-clause-law : goal.returns-clause-law
returns-clause-law c =
    let is : c.size.result + 1 ≡ suc (size_of c.args.hand) = omega (arith, c.size.ensures) in
    dropped_end c.args.machine.now c.forget.new.self c.no_value.new.self c.no_value.result (size_of c.args.hand) _ c.forget.ensures is c.args.end c.no_value.ensures.law

pub returns-clause-ready : goal.returns-clause-ready
returns-clause-ready c = λ w ready.
    let is : c.size.result + 1 ≡ suc (size_of c.args.hand) = omega (arith, c.size.ensures) in
    c.no_value.ensures.ready w (ready_dropped c.args.machine.now c.forget.new.self c.no_value.new.self c.no_value.result (size_of c.args.hand) _ c.forget.ensures is w ready)
