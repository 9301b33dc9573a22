use Rattle.std.proofs.Common.{List, subst}
use Rattle.rp_base.specs.declared.value.Value.{Value}
use Rattle.rp_ops.specs.Outcome.{Meets, state_of}
use Rattle.rp_ops.specs.Walk.{elements}
use Rattle.rp_native.specs.Walked.{sum_of}
use Rattle.rp_native.proofs.Outcomes.{goes-on}
use Rattle.rp_ops.proofs.CallerLemmas.{passes-on}
use Rattle.rp_native.proofs.sums.sum.Goals as goal

pub returns-in_err-values-clause-plain : goal.returns-in_err-values-clause-plain
returns-in_err-values-clause-plain c =
    passes-on c.from_residual.result c.in_err-values.field-0.0 (state_of c.elements.new.store c.elements.new.meter.left)
    (elements c.args.value.now (state_of c.args.store.now c.args.meter.now.left)) sum_of c.from_residual.ensures.1 c.in_err-values.ensures.plain

pub returns-clause-plain : goal.returns-clause-plain
returns-clause-plain c =
    let between = state_of c.elements.new.store c.elements.new.meter.left in
    goes-on c.sum_of.result between between c.in_ok-values.values.items (elements c.args.value.now (state_of c.args.store.now c.args.meter.now.left)) (sum_of)
    c.in_ok-values.ensures.plain
    (subst (λ (vs : List Value). Meets c.sum_of.result between (sum_of vs between)) c.as_slice.ensures.value (c.sum_of.ensures.plain between))
