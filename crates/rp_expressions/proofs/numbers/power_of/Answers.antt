use Rattle.rp_engine.proofs.Answering.{answer_ok}
use Rattle.rp_access.proofs.Going.{Comes-same}
use Rattle.rp_engine.proofs.Going.{operate_is}
use Rattle.rp_engine.proofs.Worlds.{IsReady-goes}
use Rattle.rp_access.specs.Moment.{state_of}
use Rattle.rp_base.specs.declared.operator.BinOp.TheVariants.{Pow}
use Rattle.rp_meaning.specs.Operators.{operate}
use Rattle.rp_expressions.proofs.numbers.power_of.Goals as goal

pub returns-clause-law : goal.returns-clause-law
returns-clause-law c =
    answer_ok c.args.machine.now c.give.new.self c.args.world.now c.operate.new.world c.give.result (operate Pow c.args.a c.args.b) c.operate.result
    (λ base. Comes-same c.operate.result (state_of c.operate.new.world) _ _ (operate_is base c.args.machine.now.units.now c.args.machine.now.frame Pow c.args.a c.args.b (state_of c.args.world.now)) c.operate.ensures.law)
    c.give.ensures.law

pub returns-clause-ready : goal.returns-clause-ready
returns-clause-ready c =
    c.give.ensures.ready c.operate.new.world (IsReady-goes _ _ _ c.args.world.now c.operate.new.world c.requires.ready c.operate.ensures.shape c.operate.ensures.faithful) c.operate.ensures.fit
