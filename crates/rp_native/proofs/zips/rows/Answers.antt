use Rattle.std.proofs.Common.{◌≡◌, ◌+◌, ◌-◌, List, length, arith, subst, sym, ◌∙◌}
use Rattle.std.specs.List.{All}
use Rattle.std.proofs.lemmas.List.Elements.{All-push}
use Rattle.rp_base.specs.declared.value.Value.{Value}
use Rattle.rp_store.specs.Heap.{Owned}
use Rattle.rp_store.specs.Kept.{AreSound}
use Rattle.rp_store.proofs.CallerLemmas.{KeepsCounters-trans}
use Rattle.rp_ops.specs.Outcome.{state_of}
use Rattle.rp_native.specs.TableView.{rows_of}
use Rattle.rp_native.specs.Zips.{rows}
use Rattle.rp_native.proofs.ZipRows.{rows-fail, rows-turn}
use Rattle.rp_native.proofs.zips.rows.Goals as goal

pub returns-in_err-row-clause-plain : goal.returns-in_err-row-clause-plain
returns-in_err-row-clause-plain c =
    let at = c.loop in
    let left = c.args.count - at.counter in
    let fewer = c.args.count - (at.counter + 1) in
    rows-fail c.from_residual-in_err-row.result c.in_err-row.field-0.0 (rows_of at.rows.items) at.walks left fewer (state_of at.store at.meter.left)
    (state_of c.next_row.new.store c.next_row.new.meter.left) (rows c.args.count c.args.walks.now (state_of c.args.store.now c.args.meter.now.left))
    c.from_residual-in_err-row.ensures.1 at.invariant.0 (omega (c.loop-test.true, arith)) c.in_err-row.ensures.plain

pub loop-preserved : goal.loop-preserved
loop-preserved c =
    let at = c.loop in
    let left = c.args.count - at.counter in
    let fewer = c.args.count - (at.counter + 1) in
    let done = rows_of at.rows.items in
    let row = c.in_ok-row.row.items in
    let heap = c.next_row.new.store.heap in
    let same = c.in_ok-row.ensures.same in
    let put = c.in_ok-put_row.ensures in
    let Width : List Value → Type 0 = λ row. length row ≡ length c.args.walks.now in (
      at.invariant.0
          ∙ rows-turn done (rows_of c.put_row.new.rows.items) row at.walks c.next_row.new.walks left fewer (state_of at.store at.meter.left)
          (state_of c.next_row.new.store c.next_row.new.meter.left) (omega (c.loop-test.true, arith)) c.in_ok-row.ensures.plain put,
      same ∙ at.invariant.1,
      c.in_ok-row.ensures.held,
      c.in_ok-row.ensures.count ∙ at.invariant.3,
      subst (λ (rows : List (List Value)). All Width rows) (sym put) (All-push Width done row at.invariant.4 (c.in_ok-row.ensures.width ∙ at.invariant.3)),
      subst (λ (rows : List (List Value)). All (AreSound heap) rows) (sym put)
          (All-push (AreSound heap) done row (subst (λ (heap : List Owned). All (AreSound heap) done) (sym same) at.invariant.5) c.in_ok-row.ensures.sound),
      omega (c.in_ok-row.ensures.fewer, at.invariant.6, arith),
      KeepsCounters-trans c.args.store.now at.store c.next_row.new.store at.invariant.7 c.in_ok-row.ensures.counters,
    )
