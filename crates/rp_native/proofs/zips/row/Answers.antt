use Rattle.std.proofs.Common.{◌≡◌, ◌+◌, ◌∷◌, [], List, get_or, length, ap, arith, subst, sym, ◌∙◌}
use Rattle.std.specs.List.{All}
use Rattle.std.proofs.Math.ListN.{set}
use Rattle.std.proofs.lemmas.List.{length-append}
use Rattle.std.proofs.lemmas.List.Elements.{All-push, All-set}
use Rattle.rp_base.specs.declared.value.Value.{Value}
use Rattle.rp_store.specs.Heap.{Owned}
use Rattle.rp_store.specs.Kept.{AreSound, IsSound}
use Rattle.rp_store.proofs.CallerLemmas.{KeepsCounters-trans}
use Rattle.rp_ops.specs.Outcome.{state_of}
use Rattle.rp_ops.specs.Walk.{Cursor, IsWalkHeld}
use Rattle.rp_native.specs.Zips.{row}
use Rattle.rp_native.proofs.ZipRows.{row-fail, row-turn}
use Rattle.rp_native.proofs.zips.row.Goals as goal

pub returns-in_err-value-clause-plain : goal.returns-in_err-value-clause-plain
returns-in_err-value-clause-plain c = λ steps.
    let at = c.loop-walk in
    let walk = get_or at.walks at.walk-index c.walk-item.result in
    row-fail c.from_residual-in_err-value.result c.in_err-value.field-0.0 (set at.walks at.walk-index c.element.new.walk) at.row.items at.walks at.walk-index
    walk (state_of at.store steps) (state_of c.element.new.store steps) (row c.args.walks.now (state_of c.args.store.now steps))
    c.from_residual-in_err-value.ensures.1 (at.invariant.0 steps) (omega arith) (ap (λ (d : Cursor). get_or at.walks at.walk-index d) c.walk-item.is) (c.in_err-value.ensures.plain steps)

pub loop-walk-preserved : goal.loop-walk-preserved
loop-walk-preserved c =
    let at = c.loop-walk in
    let walk = get_or at.walks at.walk-index c.walk-item.result in
    let v = c.in_ok-value.value in
    let heap = c.element.new.store.heap in
    let same = c.in_ok-value.ensures.same in
    let long : length c.put.new.row.items ≡ length at.row.items + 1 = ap length c.in_ok-put.ensures ∙ length-append at.row.items (v ∷ []) in
    let counted = at.invariant.3 in (
      (λ steps. at.invariant.0 steps
          ∙ row-turn at.row.items c.put.new.row.items at.walks at.walk-index walk c.element.new.walk v (state_of at.store steps)
          (state_of c.element.new.store steps) (omega arith) (ap (λ (d : Cursor). get_or at.walks at.walk-index d) c.walk-item.is) (c.in_ok-value.ensures.plain steps) c.in_ok-put.ensures),
      same ∙ at.invariant.1,
      All-set (IsWalkHeld heap) at.walks at.walk-index c.element.new.walk c.in_ok-value.ensures.held
          (subst (λ (heap : List Owned). All (IsWalkHeld heap) at.walks) (sym same) at.invariant.2),
      omega arith,
      subst (λ (vs : List Value). AreSound heap vs) (sym c.in_ok-put.ensures)
          (All-push (IsSound heap) at.row.items v (subst (λ (heap : List Owned). AreSound heap at.row.items) (sym same) at.invariant.4) c.in_ok-value.ensures.sound),
      KeepsCounters-trans c.args.store.now at.store c.element.new.store at.invariant.5 c.in_ok-value.ensures.counters,
    )
