use Rattle.std.proofs.Common.{length, sym, ap, ◌∙◌, subst}
use Rattle.rp_access.specs.Moment.{state_of}
use Rattle.rp_calls.specs.Binding.{defaults_at}
use Rattle.rp_codes.specs.Codes.{code_view}
use Rattle.rp_meaning.specs.Running.{params_of}
use Rattle.rp_scope.specs.Scopes.{locals_of}
use Rattle.rp_store.specs.Kept.{AreSound}
use Rattle.rp_enter.specs.Entering.{AreNamedSound}
use Rattle.rp_step.proofs.Entries.{enters_as, function_named}
use Rattle.rp_step.proofs.Hands.{args_are, held_named_sound, plain_sound}
use Rattle.rp_step.specs.Callables.{before_all}
use Rattle.rp_engine.specs.HandSteps.{held_by}
use Rattle.rp_engine.specs.Moment.{program_at}
use Rattle.rp_engine.specs.declared.units.Program.{Program}
use Rattle.rp_tree.specs.ExpressionViews.{view_params}
use Rattle.rp_step.proofs.runner.Runner.named_scope.Goals as goal

pub enter_named-requires-clause-function : goal.enter_named-requires-clause-function
enter_named-requires-clause-function c = function_named c.args.world.now.store.heap c.args.entry c.requires.function

pub enter_named-requires-clause-within : goal.enter_named-requires-clause-within
enter_named-requires-clause-within c = c.requires.function.scope

pub enter_named-requires-clause-args : goal.enter_named-requires-clause-args
enter_named-requires-clause-args c =
    let m = c.args.self.now.machine in
    subst (AreSound c.args.world.now.store.heap) (sym c.plain_args-args.ensures) (plain_sound c.args.world.now.store.heap m.frame.side c.args.hand m.values c.requires.ready.machine.fit)

pub enter_named-requires-clause-named : goal.enter_named-requires-clause-named
enter_named-requires-clause-named c =
    let m = c.args.self.now.machine in
    subst (AreNamedSound c.args.world.now.store.heap) (sym (c.as_slice.ensures.value ∙ c.in_ok-named.ensures))
    (held_named_sound c.args.world.now.store.heap m.frame.side c.args.hand m.values c.requires.ready.machine.fit)

pub returns-clause-law : goal.returns-clause-law
returns-clause-law c =
    let m = c.args.self.now.machine in
    let e = c.args.entry in
    let a = held_by c.args.hand m.values in
    let args = c.plain_args-args.result.now in
    let named = c.as_slice.result.now in
    enters_as e (defaults_at c.args.world.now.store.heap e.function) (state_of c.args.world.now) c.enter_named.result (state_of c.enter_named.new.world)
    (view_params c.params-params.result.now) (params_of (code_view c.args.code)) c.local_count-locals.result (length (locals_of (program_at m.units.now e.side).layouts e.block))
    (before_all c.args.receiver (record { plain = args; named = named })) (before_all c.args.receiver a)
    c.params-params.ensures (c.local_count-locals.ensures ∙ ap (λ (p : Program). length (locals_of p.layouts e.block)) c.program.ensures)
    (ap (before_all c.args.receiver) (args_are a args named c.plain_args-args.ensures (c.as_slice.ensures.value ∙ c.in_ok-named.ensures))) c.enter_named.ensures.law
