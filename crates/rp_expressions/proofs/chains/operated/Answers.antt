use Rattle.rp_engine.proofs.Moves.{as_any_ok, end_ok}
use Rattle.rp_expressions.proofs.Operating.{operands_ends, operands_gives}
use Rattle.rp_engine.proofs.Worlds.{IsReady-goes}
use Rattle.rp_meaning.specs.Expressions as forms
use Rattle.rp_engine.specs.Does as does
use Rattle.rp_engine.specs.Rest.{with_operands}
use Rattle.rp_expressions.proofs.chains.operated.Goals as goal

pub returns-in-Ok-clause-law : goal.returns-in-Ok-clause-law
returns-in-Ok-clause-law c =
    let w = c.args.world.now in
    let u = c.operate.new.world in
    let os = does.ops c.args.rest.now in
    as_any_ok c.args.machine.now c.more_operands.new.machine w u c.more_operands.result (with_operands c.args.op c.args.a c.args.b os) (forms.operands os c.in-Ok.value)
    (operands_gives c.args.machine.now w u os c.args.op c.args.a c.args.b c.in-Ok.value c.in-Ok.ensures.law) c.more_operands.ensures.law

pub returns-in-Ok-clause-ready : goal.returns-in-Ok-clause-ready
returns-in-Ok-clause-ready c =
    c.more_operands.ensures.ready c.operate.new.world (IsReady-goes _ _ _ c.args.world.now c.operate.new.world c.requires.ready c.operate.ensures.shape c.operate.ensures.faithful) c.in-Ok.ensures.fit

pub returns-clause-law : goal.returns-clause-law
returns-clause-law c =
    let w = c.args.world.now in
    let u = c.operate.new.world in
    let os = does.ops c.args.rest.now in
    end_ok c.args.machine.now c.no_value.new.self w u c.no_value.result (with_operands c.args.op c.args.a c.args.b os) c.in-Err.end
    (operands_ends c.args.machine.now w u os c.args.op c.args.a c.args.b c.in-Err.end c.in-Err.ensures.law) c.no_value.ensures.law

pub returns-clause-ready : goal.returns-clause-ready
returns-clause-ready c =
    c.no_value.ensures.ready c.operate.new.world (IsReady-goes _ _ _ c.args.world.now c.operate.new.world c.requires.ready c.operate.ensures.shape c.operate.ensures.faithful)
