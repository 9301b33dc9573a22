use Rattle.std.proofs.Common.{◌≡◌, ◌∷◌, ◌++◌, [], List, length, ap, arith, subst, sym, ◌∙◌}
use Rattle.std.specs.List.{All}
use Rattle.std.specs.Vec.Iter.{into_iter_items}
use Rattle.std.proofs.lemmas.List.Elements.{All-head, All-push, All-tail, All-weaker}
use Rattle.rp_base.specs.declared.value.Value.{Value}
use Rattle.rp_base.specs.declared.value.Value.TheVariants as value
use Rattle.rp_store.specs.Heap.{Owned}
use Rattle.rp_store.specs.Kept.{AreSound, IsSound}
use Rattle.rp_store.specs.Object as object
use Rattle.rp_store.proofs.CallerLemmas.{IsSound-last, KeepsCounters-trans}
use Rattle.rp_native.specs.TableView.{rows_of}
use Rattle.rp_native.proofs.TableRows.{Gains-tuples, Row, next-place, one-yielded, references-more, tuples-more}
use Rattle.rp_native.proofs.tables.add_tuples.Goals as goal

pub add-requires : goal.add-requires
add-requires c =
    let at = c.loop-row in
    let x = c.in-Some.row in
    let rest = into_iter_items c.next.new.self in
    let P : List Value → Type 0 = AreSound at.store.heap in
    let steps : into_iter_items at.row-iterator ≡ x ∷ rest = c.in-Some.ensures.steps.0 in
    All-head P x.items (rows_of rest) (subst (λ (l : List Row). All P (rows_of l)) steps at.invariant.5)

pub returns-in_err-at-clause-grown : goal.returns-in_err-at-clause-grown
returns-in_err-at-clause-grown c =
    Gains-tuples c.args.side (rows_of c.loop-row.yielded) c.args.store.now c.add.new.self (c.in_err-at.ensures.same ∙ c.loop-row.invariant.2)

pub returns-in_err-push-clause-grown : goal.returns-in_err-push-clause-grown
returns-in_err-push-clause-grown c =
    Gains-tuples c.args.side (rows_of (c.loop-row.yielded ++ c.in-Some.row ∷ [])) c.args.store.now c.add.new.self
    (tuples-more c.args.side c.args.store.now c.loop-row.store c.add.new.self c.loop-row.yielded c.in-Some.row c.loop-row.invariant.2 c.in_ok-at.ensures.added)

pub returns-clause-grown : goal.returns-clause-grown
returns-clause-grown c = Gains-tuples c.args.side (rows_of c.loop-row.yielded) c.args.store.now c.loop-row.store c.loop-row.invariant.2

pub loop-row-preserved : goal.loop-row-preserved
loop-row-preserved c =
    let at = c.loop-row in
    let x = c.in-Some.row in
    let rest = into_iter_items c.next.new.self in
    let old = c.args.store.now in
    let new = c.add.new.self in
    let steps : into_iter_items at.row-iterator ≡ x ∷ rest = c.in-Some.ensures.steps.0 in
    let place = next-place c.args.side old at.store at.yielded c.in_ok-at.at.0 at.invariant.2 c.in_ok-at.ensures.place in
    let o : Owned = record { owner = c.args.side; content = object.tuple x.items } in
    let last : IsSound new.heap (value.Ref c.in_ok-at.at) =
    subst (λ (heap : List Owned). IsSound heap (value.Ref c.in_ok-at.at)) (sym (ap (λ s. s.heap) c.in_ok-at.ensures.added))
    (IsSound-last at.store.heap o c.in_ok-at.at c.in_ok-at.ensures.place (λ scope. scope)) in (
      one-yielded at.yielded (into_iter_items at.row-iterator) rest (into_iter_items c.into_iter-row-iterator.result) x steps at.invariant.0,
      (let was = at.invariant.1 in
          let gone = c.in-Some.ensures.steps.1 in
          let short = ap length steps in
          omega arith),
      tuples-more c.args.side old at.store new at.yielded x at.invariant.2 c.in_ok-at.ensures.added,
      references-more at.tuples.items c.push.new.self.items (length old.heap) c.in_ok-at.at.0 at.yielded x at.invariant.3 place c.in_ok-push.ensures.items,
      subst (λ (vs : List Value). AreSound new.heap vs) (sym c.in_ok-push.ensures.items)
          (All-push (IsSound new.heap) at.tuples.items (value.Ref c.in_ok-at.at) (c.add.ensures.shape.all_sound at.tuples.items at.invariant.4) last),
      All-weaker (AreSound at.store.heap) (AreSound new.heap) c.add.ensures.shape.all_sound (rows_of rest)
          (All-tail (AreSound at.store.heap) x.items (rows_of rest) (subst (λ (l : List Row). All (AreSound at.store.heap) (rows_of l)) steps at.invariant.5)),
      KeepsCounters-trans old at.store new at.invariant.6 c.add.ensures.counters,
    )
