use Rattle.std.proofs.Common.{length, reverse, take, sym, ap, ◌∙◌, subst, Option, Some}
use Rattle.std.specs.Prelude.{IfSome}
use Rattle.rp_access.specs.Moment.{state_of}
use Rattle.rp_base.specs.declared.value.Value.{Value}
use Rattle.rp_calls.specs.Binding.{defaults_at}
use Rattle.rp_codes.specs.Codes.{code_view}
use Rattle.rp_meaning.specs.Binding.{only}
use Rattle.rp_meaning.specs.Running.{params_of}
use Rattle.rp_scope.specs.Scopes.{locals_of}
use Rattle.rp_store.specs.Kept.{AreFit, AreSound, IsSound}
use Rattle.rp_expressions.proofs.Callings.{sound_last}
use Rattle.rp_step.proofs.Entries.{enters_as, function_named}
use Rattle.rp_engine.proofs.Lasts.{last_fit}
use Rattle.rp_step.specs.Callables.{before_all}
use Rattle.rp_engine.specs.Moment.{program_at}
use Rattle.rp_engine.specs.declared.units.Program.{Program}
use Rattle.rp_tree.specs.ExpressionViews.{view_params}
use Rattle.rp_step.proofs.runner.Runner.plain_scope.Goals as goal

pub enter-requires-clause-function : goal.enter-requires-clause-function
enter-requires-clause-function c = function_named c.args.world.now.store.heap c.args.entry c.requires.function

pub enter-requires-clause-within : goal.enter-requires-clause-within
enter-requires-clause-within c = c.requires.function.scope

pub enter-requires-clause-args : goal.enter-requires-clause-args
enter-requires-clause-args c =
    let m = c.args.self.now.machine in
    subst (AreFit c.args.world.now.store.heap m.frame.side) (sym c.last-args.ensures) (last_fit m.units.now m.frame c.args.count m.values c.args.world.now c.requires.ready.machine)

pub enter_bound-requires-clause-function : goal.enter_bound-requires-clause-function
enter_bound-requires-clause-function c = function_named c.args.world.now.store.heap c.args.entry c.requires.function

pub enter_bound-requires-clause-within : goal.enter_bound-requires-clause-within
enter_bound-requires-clause-within c = c.requires.function.scope

pub enter_bound-requires-clause-args : goal.enter_bound-requires-clause-args
enter_bound-requires-clause-args c =
    let m = c.args.self.now.machine in
    subst (AreSound c.args.world.now.store.heap) (sym c.last-args.ensures) (sound_last m.units.now m.frame c.args.count m.values c.args.world.now c.requires.ready.machine)

pub returns-in-None-clause-law : goal.returns-in-None-clause-law
returns-in-None-clause-law c =
    let m = c.args.self.now.machine in
    let e = c.args.entry in
    enters_as e (defaults_at c.args.world.now.store.heap e.function) (state_of c.args.world.now) c.enter.result (state_of c.enter.new.world)
    (view_params c.params-params.result.now) (params_of (code_view c.args.code)) c.local_count-locals.result (length (locals_of (program_at m.units.now e.side).layouts e.block))
    (only c.last-args.result.now) (before_all c.args.receiver (only (reverse (take c.args.count m.values))))
    c.params-params.ensures (c.local_count-locals.ensures ∙ ap (λ (p : Program). length (locals_of p.layouts e.block)) c.program.ensures)
    (ap only c.last-args.ensures ∙ ap (λ o. before_all o (only (reverse (take c.args.count m.values)))) (sym c.in-None.is)) c.enter.ensures.law

pub returns-in-Some-clause-law : goal.returns-in-Some-clause-law
returns-in-Some-clause-law c =
    let m = c.args.self.now.machine in
    let e = c.args.entry in
    enters_as e (defaults_at c.args.world.now.store.heap e.function) (state_of c.args.world.now) c.enter_bound.result (state_of c.enter_bound.new.world)
    (view_params c.params-params.result.now) (params_of (code_view c.args.code)) c.local_count-locals.result (length (locals_of (program_at m.units.now e.side).layouts e.block))
    (before_all (Some c.in-Some.value) (only c.last-args.result.now)) (before_all c.args.receiver (only (reverse (take c.args.count m.values))))
    c.params-params.ensures (c.local_count-locals.ensures ∙ ap (λ (p : Program). length (locals_of p.layouts e.block)) c.program.ensures)
    (ap (λ vs. before_all (Some c.in-Some.value) (only vs)) c.last-args.ensures ∙ ap (λ o. before_all o (only (reverse (take c.args.count m.values)))) (sym c.in-Some.is)) c.enter_bound.ensures.law

pub enter_bound-requires-clause-receiver : goal.enter_bound-requires-clause-receiver
enter_bound-requires-clause-receiver c =
    subst (λ (o : Option Value). IfSome o (IsSound c.args.world.now.store.heap)) c.in-Some.is c.requires.receiver
