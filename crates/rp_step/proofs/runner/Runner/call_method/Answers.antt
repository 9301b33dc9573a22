use Rattle.std.specs.Str.{chars}
use Rattle.rp_engine.proofs.Doings.{always}
use Rattle.rp_step.proofs.SpecialCalls.{method_called, method_refused}
use Rattle.rp_step.proofs.RunWeights.{refused_under}
use Rattle.rp_step.proofs.runner.Runner.call_method.Goals as goal

pub returns-in-Some-clause-law : goal.returns-in-Some-clause-law
returns-in-Some-clause-law c =
    method_called c.args.self.now c.args.world.now c.call_behind.new.world c.call_behind.new.self c.call_behind.result c.args.hand c.args.at c.args.name c.args.lent
    c.method_of.result c.method_of.ensures.value c.in-Some.function c.in-Some.is c.call_behind.ensures.law

pub returns-in-None-clause-law : goal.returns-in-None-clause-law
unfolding chars
returns-in-None-clause-law c =
    method_refused c.args.self.now c.args.world.now c.args.world.now c.refuse.new.self c.refuse.result c.args.hand c.args.at c.args.name c.args.lent
    c.method_of.result c.method_of.ensures.value c.in-None.is c.refuse.ensures.law

pub returns-in-None-clause-ready : goal.returns-in-None-clause-ready
returns-in-None-clause-ready c = always c.refuse.result _ (c.refuse.ensures.ready c.args.world.now c.requires.ready)

pub returns-in-None-clause-less : goal.returns-in-None-clause-less
returns-in-None-clause-less c = refused_under c.refuse.result c.args.self.now c.refuse.new.self c.args.world.now c.args.world.now c.refuse.ensures.less
