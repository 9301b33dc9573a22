use Rattle.std.proofs.Common.{sym, ◌∙◌}
use Rattle.rp_access.specs.Moment.{state_of}
use Rattle.rp_calls.specs.Binding.{defaults_at}
use Rattle.rp_tree.specs.ExpressionViews.{view_params}
use Rattle.rp_enter.proofs.Entered.{fit_sound, own_entered}
use Rattle.rp_enter.proofs.entering.enter.Goals as goal

pub enter_with-requires-clause-args : goal.enter_with-requires-clause-args
enter_with-requires-clause-args c = fit_sound c.args.world.now.store.heap c.args.from c.args.args.now c.requires.args

pub enter_taken-requires-clause-args : goal.enter_taken-requires-clause-args
enter_taken-requires-clause-args c = fit_sound c.args.world.now.store.heap c.args.from c.args.args.now c.requires.args

pub returns-then-eq-clause-law : goal.returns-then-eq-clause-law
returns-then-eq-clause-law c =
    own_entered c.enter_with.result (state_of c.enter_with.new.world) (state_of c.args.world.now) c.args.from c.args.entry.side c.args.entry.block c.args.entry.within c.args.locals
    (view_params c.args.params.now) (defaults_at c.args.world.now.store.heap c.args.entry.function) c.args.args.now (sym c.eq.ensures ∙ c.if-eq.true) c.requires.args c.enter_with.ensures.law
