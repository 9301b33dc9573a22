use Rattle.std.proofs.Common.{◌≡◌, List, Option, subst, sym}
use Rattle.std.specs.Prelude.{IfOk}
use Rattle.rp_base.specs.declared.value.Value.{Value}
use Rattle.rp_enter.specs.Entering.{AreSlotsFit}
use Rattle.rp_meaning.specs.Running.{slots_taken}
use Rattle.rp_enter.proofs.Entered.{own_slots}
use Rattle.rp_enter.proofs.entering.slots_taken.Goals as goal

pub returns-then-are_fit-clause-slots : goal.returns-then-are_fit-clause-slots
returns-then-are_fit-clause-slots c =
    let heap = c.args.world.now.store.heap in
    sym (own_slots heap c.args.side c.args.slots.items
    (subst (AreSlotsFit heap c.args.side) c.as_slice.ensures.value (c.are_fit.ensures c.if-are_fit.true)))

pub returns-then-are_fit-clause-fit : goal.returns-then-are_fit-clause-fit
returns-then-are_fit-clause-fit c =
    subst (AreSlotsFit c.args.world.now.store.heap c.args.side) c.as_slice.ensures.value (c.are_fit.ensures c.if-are_fit.true)

pub returns-clause-slots : goal.returns-clause-slots
returns-clause-slots c =
    let heap = c.args.world.now.store.heap in
    subst (λ (xs : List (Option Value)). IfOk c.each_taken.result (λ all. all.items ≡ slots_taken heap c.args.side xs)) c.as_slice-2.ensures.value
    c.each_taken.ensures.slots
