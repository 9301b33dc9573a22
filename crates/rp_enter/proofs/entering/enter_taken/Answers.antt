use Rattle.std.proofs.Common.{sym, subst, ◌∙◌}
use Rattle.rp_access.specs.Moment.{state_of}
use Rattle.rp_calls.specs.Binding.{defaults_at}
use Rattle.rp_store.specs.Kept.{AreSound}
use Rattle.rp_tree.specs.ExpressionViews.{view_params}
use Rattle.rp_enter.specs.Entering.{AreNamedSound}
use Rattle.rp_enter.proofs.Entered.{entered_taken}
use Rattle.rp_enter.proofs.entering.enter_taken.Goals as goal

pub enter_with-requires-clause-args : goal.enter_with-requires-clause-args
enter_with-requires-clause-args c = subst (AreSound c.args.world.now.store.heap) (sym c.as_slice.ensures.value) c.in_ok-args.ensures.sound

pub enter_with-requires-clause-named : goal.enter_with-requires-clause-named
enter_with-requires-clause-named c = subst (AreNamedSound c.args.world.now.store.heap) (sym c.as_slice-2.ensures.value) c.in_ok-named.ensures.sound

pub returns-clause-law : goal.returns-clause-law
returns-clause-law c =
    entered_taken c.enter_with.result (state_of c.enter_with.new.world) (state_of c.args.world.now) c.args.entry.side c.args.entry.block c.args.entry.within c.args.locals
    (view_params c.args.params.now) (defaults_at c.args.world.now.store.heap c.args.entry.function) c.args.args.now c.as_slice.result.now c.args.named.now c.as_slice-2.result.now
    (c.as_slice.ensures.value ∙ c.in_ok-args.ensures.values) (c.as_slice-2.ensures.value ∙ c.in_ok-named.ensures.values) c.enter_with.ensures.law
