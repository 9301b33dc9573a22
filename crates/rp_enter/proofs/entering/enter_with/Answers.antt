use Rattle.std.proofs.Common.{◌≡◌, Err, rules}
use Rattle.rp_calls.specs.Binding.{defaults_at}
use Rattle.rp_tree.specs.ExpressionViews.{view_params}
use Rattle.rp_enter.proofs.Entered.{entered_fails, entered_scoped}
use Rattle.rp_enter.proofs.entering.enter_with.Goals as goal

pub returns-in_err-slots-clause-law : goal.returns-in_err-slots-clause-law
returns-in_err-slots-clause-law c =
    let w = c.args.world.now in
    let e : c.from_residual.result ≡ Err c.in_err-slots.field-0.0 = search rules in
    rw e (entered_fails w c.bound.new.world c.args.entry.side c.args.entry.block c.args.entry.within c.args.locals (view_params c.args.params.now)
    (defaults_at w.store.heap c.args.entry.function) (record { plain = c.args.args.now; named = c.args.named.now }) c.in_err-slots.field-0.0 c.in_err-slots.ensures.law)

pub returns-in_err-slots-clause-faithful : goal.returns-in_err-slots-clause-faithful
returns-in_err-slots-clause-faithful c =
    let e : c.from_residual.result ≡ Err c.in_err-slots.field-0.0 = search rules in
    λ other. c.in_err-slots.ensures.faithful (λ h. other (cc))

pub returns-in_err-all-clause-faithful : goal.returns-in_err-all-clause-faithful
returns-in_err-all-clause-faithful c = λ other. c.in_ok-slots.ensures.faithful (λ h. cc)

pub new_scope-requires-clause-faithful : goal.new_scope-requires-clause-faithful
new_scope-requires-clause-faithful c = c.in_ok-slots.ensures.faithful (λ h. cc)

pub new_scope-requires-clause-within : goal.new_scope-requires-clause-within
new_scope-requires-clause-within c = c.bound.ensures.shape.scope c.args.entry.side c.args.entry.within c.requires.within

pub returns-clause-law : goal.returns-clause-law
returns-clause-law c =
    let w = c.args.world.now in
    entered_scoped w c.bound.new.world c.args.entry.side c.args.entry.block c.args.entry.within c.args.locals (view_params c.args.params.now)
    (defaults_at w.store.heap c.args.entry.function) (record { plain = c.args.args.now; named = c.args.named.now }) c.new_scope.new.world c.new_scope.result
    c.in_ok-slots.slots.items c.in_ok-all.all.items c.in_ok-slots.ensures.law c.in_ok-all.ensures.slots c.new_scope.ensures.law
