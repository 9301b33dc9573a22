use Rattle.std.proofs.Common.{subst}
use Rattle.rp_store.specs.Object.{Content}
use Rattle.rp_ops.specs.Binary.{new_object}
use Rattle.rp_ops.specs.Outcome.{Meets, state_of}
use Rattle.rp_ops.specs.View.{sequence_of}
use Rattle.rp_ops.specs.Walk.{elements}
use Rattle.rp_native.specs.Objects.{IsContainerOf}
use Rattle.rp_native.proofs.Growths.{Gains-from, Gains-same}
use Rattle.rp_native.proofs.Outcomes.{goes-on}
use Rattle.rp_ops.proofs.CallerLemmas.{passes-on}
use Rattle.rp_native.proofs.copies.sequence_copy.Goals as goal

pub returns-in_err-values-clause-plain : goal.returns-in_err-values-clause-plain
returns-in_err-values-clause-plain c =
    passes-on c.from_residual.result c.in_err-values.field-0.0 (state_of c.elements.new.store c.elements.new.meter.left)
    (elements c.args.value.now (state_of c.args.store.now c.args.meter.now.left)) (λ vs s. new_object c.args.side (sequence_of c.args.kind vs) s)
    c.from_residual.ensures.1 c.in_err-values.ensures.plain

pub returns-in_err-values-clause-grown : goal.returns-in_err-values-clause-grown
returns-in_err-values-clause-grown c = Gains-same (IsContainerOf c.args.side) c.args.store.now.heap c.elements.new.store.heap c.in_err-values.ensures.same

pub returns-clause-plain : goal.returns-clause-plain
returns-clause-plain c =
    let steps = c.elements.new.meter.left in
    let between = state_of c.elements.new.store steps in
    goes-on c.new_container.result (state_of c.new_container.new.store steps) between c.in_ok-values.values.items
    (elements c.args.value.now (state_of c.args.store.now c.args.meter.now.left)) (λ vs s. new_object c.args.side (sequence_of c.args.kind vs) s)
    c.in_ok-values.ensures.plain
    (subst (λ (content : Content). Meets c.new_container.result (state_of c.new_container.new.store steps) (new_object c.args.side content between)) c.sequence.ensures.content
    (c.new_container.ensures.plain steps))

pub returns-clause-grown : goal.returns-clause-grown
returns-clause-grown c =
    Gains-from (IsContainerOf c.args.side) c.args.store.now.heap c.elements.new.store.heap c.new_container.new.store.heap c.in_ok-values.ensures.same c.new_container.ensures.grown
