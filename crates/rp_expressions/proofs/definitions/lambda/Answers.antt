use Rattle.std.proofs.Common.{sym}
use Rattle.rp_expressions.proofs.Definings.{lambda_end, lambda_ok}
use Rattle.rp_engine.proofs.Moves.{end_ok}
use Rattle.rp_meaning.specs.Expressions as forms
use Rattle.rp_engine.specs.Does as does
use Rattle.rp_tree.specs.declared.expr.Params.{out-Params}
use Rattle.rp_store.proofs.CallerLemmas.{KeepsShape-trans}
use Rattle.rp_engine.proofs.Worlds.{IsReady-stored, shape_stored}
use Rattle.rp_expressions.proofs.definitions.lambda.Goals as goal

pub returns-in-Ok-clause-law : goal.returns-in-Ok-clause-law
returns-in-Ok-clause-law c =
    lambda_ok c.args.machine.now c.defaults.new.machine c.args.world.now c.take_step.new.world c.defaults.new.world c.defaults.result c.args.block
    (does.defaults (out-Params c.args.params.now).plain.items) c.in-Ok.ensures.law (rw (sym c.deref.ensures.value) c.defaults.ensures.law)

pub returns-in-Err-clause-law : goal.returns-in-Err-clause-law
returns-in-Err-clause-law c =
    let ms = does.defaults (out-Params c.args.params.now).plain.items in
    end_ok c.args.machine.now c.no_value.new.self c.args.world.now c.take_step.new.world c.no_value.result (forms.lambda c.args.block ms) c.in-Err.end
    (lambda_end c.args.machine.now c.no_value.new.self c.args.world.now c.take_step.new.world c.take_step.new.world c.no_value.result c.args.block ms c.in-Err.end c.in-Err.ensures.law)
    c.no_value.ensures.law

pub defaults-requires : goal.defaults-requires
defaults-requires c = record { ready = IsReady-stored _ _ _ c.args.world.now c.take_step.new.world c.requires.ready c.take_step.ensures.store (c.take_step.ensures.faithful c.requires.ready.faithful) }

pub returns-in-Ok-clause-ready : goal.returns-in-Ok-clause-ready
returns-in-Ok-clause-ready c = c.defaults.ensures.ready

pub returns-in-Ok-clause-shape : goal.returns-in-Ok-clause-shape
returns-in-Ok-clause-shape c = KeepsShape-trans _ _ _ (shape_stored c.args.world.now.store c.take_step.new.world.store c.take_step.ensures.store) c.defaults.ensures.shape

pub returns-in-Err-clause-ready : goal.returns-in-Err-clause-ready
returns-in-Err-clause-ready c = c.no_value.ensures.ready c.take_step.new.world (IsReady-stored _ _ _ c.args.world.now c.take_step.new.world c.requires.ready c.take_step.ensures.store (c.take_step.ensures.faithful c.requires.ready.faithful))

pub returns-in-Err-clause-shape : goal.returns-in-Err-clause-shape
returns-in-Err-clause-shape c = shape_stored c.args.world.now.store c.take_step.new.world.store c.take_step.ensures.store
