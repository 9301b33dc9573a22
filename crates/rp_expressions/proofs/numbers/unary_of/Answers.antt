use Rattle.rp_engine.proofs.Answering.{answer_ok}
use Rattle.rp_expressions.proofs.Operating.{unary_is}
use Rattle.rp_engine.proofs.Worlds.{IsReady-goes}
use Rattle.rp_access.proofs.Going.{Comes-same}
use Rattle.rp_access.specs.Moment.{state_of}
use Rattle.rp_meaning.specs.Operators.{operate_unary}
use Rattle.rp_expressions.proofs.numbers.unary_of.Goals as goal

pub returns-clause-law : goal.returns-clause-law
returns-clause-law c =
    answer_ok c.args.machine.now c.give.new.self c.args.world.now c.operate_unary.new.world c.give.result (operate_unary c.args.op c.args.a) c.operate_unary.result
    (λ base. Comes-same c.operate_unary.result (state_of c.operate_unary.new.world) _ _ (unary_is base c.args.machine.now.units.now c.args.machine.now.frame c.args.op c.args.a (state_of c.args.world.now)) c.operate_unary.ensures.law)
    c.give.ensures.law

pub returns-clause-ready : goal.returns-clause-ready
returns-clause-ready c =
    c.give.ensures.ready c.operate_unary.new.world (IsReady-goes _ _ _ c.args.world.now c.operate_unary.new.world c.requires.ready c.operate_unary.ensures.shape c.operate_unary.ensures.faithful)
    (c.operate_unary.ensures.fit c.args.machine.now.frame.side)
