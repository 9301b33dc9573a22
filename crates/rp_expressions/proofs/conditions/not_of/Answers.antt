use Rattle.rp_expressions.proofs.Truths.{no_truth, not_given}
use Rattle.rp_engine.proofs.Worlds.{IsReady-goes}
use Rattle.rp_meaning.specs.Expressions as forms
use Rattle.rp_ops.specs.Outcome.{gives}
use Rattle.std.proofs.Common.{false, true}
use Rattle.rp_expressions.proofs.conditions.not_of.Goals as goal

pub returns-in-Ok-clause-law : goal.returns-in-Ok-clause-law
returns-in-Ok-clause-law c =
    not_given c.args.machine.now c.back.new.self c.args.world.now c.truth.new.world c.back.result c.args.value c.in-Ok.truth c.in-Ok.ensures.law c.back.ensures.law

pub returns-in-Ok-clause-ready : goal.returns-in-Ok-clause-ready
returns-in-Ok-clause-ready c =
    c.back.ensures.ready c.truth.new.world (IsReady-goes _ _ _ c.args.world.now c.truth.new.world c.requires.ready c.truth.ensures.shape c.truth.ensures.faithful) (tt, tt)

pub returns-clause-law : goal.returns-clause-law
returns-clause-law c =
    no_truth c.args.machine.now c.no_value.new.self c.args.world.now c.truth.new.world c.no_value.result c.args.value
    (λ f s. gives (forms.truth false) s) (λ f s. gives (forms.truth true) s) c.in-Err.end c.in-Err.ensures.law c.no_value.ensures.law

pub returns-clause-ready : goal.returns-clause-ready
returns-clause-ready c =
    c.no_value.ensures.ready c.truth.new.world (IsReady-goes _ _ _ c.args.world.now c.truth.new.world c.requires.ready c.truth.ensures.shape c.truth.ensures.faithful)
