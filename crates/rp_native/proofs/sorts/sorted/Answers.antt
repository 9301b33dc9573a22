use Rattle.rp_ops.specs.Outcome.{state_of}
use Rattle.rp_ops.specs.Walk.{elements}
use Rattle.rp_native.specs.Objects.{IsContainerOf}
use Rattle.rp_native.specs.Sorted.{sorted_list}
use Rattle.rp_native.proofs.Growths.{Gains-from, Gains-same}
use Rattle.rp_native.proofs.Outcomes.{goes-on}
use Rattle.rp_ops.proofs.CallerLemmas.{passes-on}
use Rattle.rp_native.proofs.sorts.sorted.Goals as goal

pub returns-in_err-values-clause-plain : goal.returns-in_err-values-clause-plain
returns-in_err-values-clause-plain c =
    passes-on c.from_residual.result c.in_err-values.field-0.0 (state_of c.elements.new.store c.elements.new.meter.left)
    (elements c.args.value.now (state_of c.args.store.now c.args.meter.now.left)) (sorted_list c.args.side) c.from_residual.ensures.1 c.in_err-values.ensures.plain

pub returns-in_err-values-clause-grown : goal.returns-in_err-values-clause-grown
returns-in_err-values-clause-grown c = Gains-same (IsContainerOf c.args.side) c.args.store.now.heap c.elements.new.store.heap c.in_err-values.ensures.same

pub returns-clause-plain : goal.returns-clause-plain
returns-clause-plain c =
    let steps = c.elements.new.meter.left in
    let between = state_of c.elements.new.store steps in
    goes-on c.sorted_list.result (state_of c.sorted_list.new.store steps) between c.in_ok-values.values.items
    (elements c.args.value.now (state_of c.args.store.now c.args.meter.now.left)) (sorted_list c.args.side) c.in_ok-values.ensures.plain (c.sorted_list.ensures.plain steps)

pub returns-clause-grown : goal.returns-clause-grown
returns-clause-grown c =
    Gains-from (IsContainerOf c.args.side) c.args.store.now.heap c.elements.new.store.heap c.sorted_list.new.store.heap c.in_ok-values.ensures.same c.sorted_list.ensures.grown
