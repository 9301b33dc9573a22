use Rattle.std.proofs.Common.{◌∷◌, ◌∙◌}
use Rattle.rp_access.specs.Moment.{state_of}
use Rattle.rp_calls.specs.Binding.{defaults_at}
use Rattle.rp_tree.specs.ExpressionViews.{view_params}
use Rattle.rp_enter.proofs.Entered.{behind_sound, entered_same}
use Rattle.rp_enter.proofs.entering.enter_behind.Goals as goal

pub enter_taken-requires-clause-args : goal.enter_taken-requires-clause-args
enter_taken-requires-clause-args c =
    behind_sound c.args.world.now.store.heap c.args.receiver c.args.args.now c.as_slice.result.now (c.as_slice.ensures.value ∙ c.in_ok-all.ensures) c.requires.receiver c.requires.args

pub returns-clause-law : goal.returns-clause-law
returns-clause-law c =
    entered_same c.enter_taken.result (state_of c.enter_taken.new.world) (state_of c.args.world.now) c.args.entry.side c.args.entry.block c.args.entry.within c.args.locals
    (view_params c.args.params.now) (defaults_at c.args.world.now.store.heap c.args.entry.function) c.as_slice.result.now (c.args.receiver ∷ c.args.args.now) c.args.named.now
    (c.as_slice.ensures.value ∙ c.in_ok-all.ensures) c.enter_taken.ensures.law
