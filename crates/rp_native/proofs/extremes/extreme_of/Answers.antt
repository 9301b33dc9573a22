use Rattle.std.proofs.Common.{List, subst, sym}
use Rattle.rp_base.specs.declared.value.Value.{Value}
use Rattle.rp_store.specs.Kept.{AreSound}
use Rattle.rp_ops.specs.Outcome.{Meets, state_of}
use Rattle.rp_ops.specs.Walk.{elements}
use Rattle.rp_native.specs.Extremes.{chosen}
use Rattle.rp_native.proofs.Outcomes.{goes-on}
use Rattle.rp_ops.proofs.CallerLemmas.{passes-on}
use Rattle.rp_native.proofs.extremes.extreme_of.Goals as goal

pub returns-in_err-values-clause-plain : goal.returns-in_err-values-clause-plain
returns-in_err-values-clause-plain c =
    passes-on c.from_residual.result c.in_err-values.field-0.0 (state_of c.elements.new.store c.elements.new.meter.left)
    (elements c.args.value.now (state_of c.args.store.now c.args.meter.now.left)) (chosen c.args.which) c.from_residual.ensures.1 c.in_err-values.ensures.plain

pub returns-clause-plain : goal.returns-clause-plain
returns-clause-plain c =
    let between = state_of c.elements.new.store c.elements.new.meter.left in
    goes-on c.chosen.result between between c.in_ok-values.values.items (elements c.args.value.now (state_of c.args.store.now c.args.meter.now.left)) (chosen c.args.which)
    c.in_ok-values.ensures.plain
    (subst (λ (vs : List Value). Meets c.chosen.result between (chosen c.args.which vs between)) c.as_slice.ensures.value (c.chosen.ensures.plain between))

pub returns-clause-sound : goal.returns-clause-sound
returns-clause-sound c =
    let heap = c.elements.new.store.heap in
    c.chosen.ensures.sound heap (subst (λ (vs : List Value). AreSound heap vs) (sym c.as_slice.ensures.value) c.in_ok-values.ensures.sound)
