use Rattle.rp_expressions.proofs.Truths.{anyway, no_truth, one_of_two}
use Rattle.rp_engine.proofs.Worlds.{IsReady-goes}
use Rattle.rp_engine.specs.Does as does
use Rattle.rp_engine.specs.ExpressionSteps.{one_of}
use Rattle.rp_engine.specs.Law.{Evaluates}
use Rattle.rp_expressions.proofs.conditions.either.Goals as goal

pub returns-in-Ok-clause-law : goal.returns-in-Ok-clause-law
returns-in-Ok-clause-law c =
    let m = c.args.machine.now in
    let n = c.one_of.new.machine in
    let u = c.truth.new.world in
    one_of_two m n c.args.world.now u u c.one_of.result c.args.value (does.expr c.args.this.now) (does.expr c.args.other.now) c.in-Ok.truth c.in-Ok.ensures.law
    (anyway c.one_of.result (Evaluates (one_of c.in-Ok.truth (does.expr c.args.this.now) (does.expr c.args.other.now)) m u n u) (c.one_of.ensures.law u))

pub returns-in-Ok-clause-ready : goal.returns-in-Ok-clause-ready
returns-in-Ok-clause-ready c =
    c.one_of.ensures.ready c.truth.new.world (IsReady-goes _ _ _ c.args.world.now c.truth.new.world c.requires.ready c.truth.ensures.shape c.truth.ensures.faithful)

pub returns-clause-law : goal.returns-clause-law
returns-clause-law c =
    no_truth c.args.machine.now c.no_value.new.self c.args.world.now c.truth.new.world c.no_value.result c.args.value
    (does.expr c.args.this.now) (does.expr c.args.other.now) c.in-Err.end c.in-Err.ensures.law c.no_value.ensures.law

pub returns-clause-ready : goal.returns-clause-ready
returns-clause-ready c =
    c.no_value.ensures.ready c.truth.new.world (IsReady-goes _ _ _ c.args.world.now c.truth.new.world c.requires.ready c.truth.ensures.shape c.truth.ensures.faithful)
