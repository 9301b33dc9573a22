use Rattle.std.proofs.Common.{◌≡◌, ◌∷◌, ◌++◌, [], List, length, ap, arith, subst, sym, ◌∙◌}
use Rattle.std.specs.Vec.Iter.{into_iter_items, into_iter_len}
use Rattle.std.proofs.lemmas.List.Elements.{All-head, All-push, All-tail}
use Rattle.rp_base.specs.declared.value.Value.{Value}
use Rattle.rp_base.specs.declared.value.Value.TheVariants as value
use Rattle.rp_store.specs.Heap.{Owned}
use Rattle.rp_store.specs.Kept.{AreSound, IsSound}
use Rattle.rp_store.specs.Object as object
use Rattle.rp_store.proofs.CallerLemmas.{IsSound-last, KeepsCounters-trans}
use Rattle.rp_native.specs.Tables.{numbered, references}
use Rattle.rp_native.proofs.TableRows.{Gains-tuples, all-yielded, length-numbered, nothing-left, one-yielded, pair-place, pair-sound, pairs-more, references-count, references-more}
use Rattle.rp_native.proofs.tables.add_pairs.Goals as goal

pub row_of-requires : goal.row_of-requires
row_of-requires c =
    let at = c.loop-value in
    omega (arith, c.len-in-loop-value.ensures, at.tuples.ok.1, at.tuples.small)

pub add-requires : goal.add-requires
add-requires c =
    let at = c.loop-value in
    let v = c.in-Some.value in
    let rest = into_iter_items c.next.new.self in
    let steps : into_iter_items at.value-iterator ≡ v ∷ rest = c.in-Some.ensures.steps.0 in
    subst (λ (row : List Value). AreSound at.store.heap row) (sym c.in_ok-row.ensures)
    (pair-sound at.store.heap c.len-in-loop-value.result v
    (All-head (IsSound at.store.heap) v rest (subst (λ (vs : List Value). AreSound at.store.heap vs) steps at.invariant.5)))

pub returns-in_err-row-clause-grown : goal.returns-in_err-row-clause-grown
returns-in_err-row-clause-grown c = Gains-tuples c.args.side (numbered 0 c.loop-value.yielded) c.args.store.now c.loop-value.store c.loop-value.invariant.2

pub returns-in_err-at-clause-grown : goal.returns-in_err-at-clause-grown
returns-in_err-at-clause-grown c =
    Gains-tuples c.args.side (numbered 0 c.loop-value.yielded) c.args.store.now c.add.new.self (c.in_err-at.ensures.same ∙ c.loop-value.invariant.2)

pub returns-in_err-push-clause-grown : goal.returns-in_err-push-clause-grown
returns-in_err-push-clause-grown c =
    let at = c.loop-value in
    let v = c.in-Some.value in
    let count : c.len-in-loop-value.result ≡ length at.yielded = references-count at.tuples.items _ _ c.len-in-loop-value.result at.invariant.3 (omega (arith, at.tuples.ok.0)) in
    Gains-tuples c.args.side (numbered 0 (at.yielded ++ v ∷ [])) c.args.store.now c.add.new.self
    (pairs-more c.args.side c.args.store.now at.store c.add.new.self at.yielded v c.len-in-loop-value.result c.in_ok-row.row.items at.invariant.2 count
    c.in_ok-row.ensures c.in_ok-at.ensures.added)

pub returns-clause-grown : goal.returns-clause-grown
returns-clause-grown c = Gains-tuples c.args.side (numbered 0 c.loop-value.yielded) c.args.store.now c.loop-value.store c.loop-value.invariant.2

pub loop-value-preserved : goal.loop-value-preserved
loop-value-preserved c =
    let at = c.loop-value in
    let v = c.in-Some.value in
    let rest = into_iter_items c.next.new.self in
    let old = c.args.store.now in
    let new = c.add.new.self in
    let row = c.in_ok-row.row.items in
    let steps : into_iter_items at.value-iterator ≡ v ∷ rest = c.in-Some.ensures.steps.0 in
    let count : c.len-in-loop-value.result ≡ length at.yielded = references-count at.tuples.items _ _ c.len-in-loop-value.result at.invariant.3 (omega (arith, at.tuples.ok.0)) in
    let place = pair-place c.args.side old at.store at.yielded c.in_ok-at.at.0 at.invariant.2 c.in_ok-at.ensures.place in
    let o : Owned = record { owner = c.args.side; content = object.tuple row } in
    let last : IsSound new.heap (value.Ref c.in_ok-at.at) =
    subst (λ (heap : List Owned). IsSound heap (value.Ref c.in_ok-at.at)) (sym (ap (λ s. s.heap) c.in_ok-at.ensures.added))
    (IsSound-last at.store.heap o c.in_ok-at.at c.in_ok-at.ensures.place (λ scope. scope)) in (
      one-yielded at.yielded (into_iter_items at.value-iterator) rest (into_iter_items c.into_iter-value-iterator.result) v steps at.invariant.0,
      (let was = at.invariant.1 in
          let gone = c.in-Some.ensures.steps.1 in
          let short = ap length steps in
          omega arith),
      pairs-more c.args.side old at.store new at.yielded v c.len-in-loop-value.result row at.invariant.2 count c.in_ok-row.ensures c.in_ok-at.ensures.added,
      references-more at.tuples.items c.push.new.self.items (length old.heap) c.in_ok-at.at.0 at.yielded v at.invariant.3 place c.in_ok-push.ensures.items,
      subst (λ (vs : List Value). AreSound new.heap vs) (sym c.in_ok-push.ensures.items)
          (All-push (IsSound new.heap) at.tuples.items (value.Ref c.in_ok-at.at) (c.add.ensures.shape.all_sound at.tuples.items at.invariant.4) last),
      c.add.ensures.shape.all_sound rest (All-tail (IsSound at.store.heap) v rest (subst (λ (vs : List Value). AreSound at.store.heap vs) steps at.invariant.5)),
      KeepsCounters-trans old at.store new at.invariant.6 c.add.ensures.counters,
    )

pub returns-clause-places : goal.returns-clause-places
returns-clause-places c =
    let at = c.loop-value in
    let vs = c.args.values.items in
    let rest = into_iter_items at.value-iterator in
    let none : rest ≡ [] = nothing-left rest (into_iter_len at.value-iterator) at.invariant.1 c.in-None.ensures.steps.0 in
    let all : at.yielded ≡ vs = all-yielded at.yielded rest vs none (at.invariant.0 ∙ c.into_iter-value-iterator.ensures.into_iter_gives.0) in
    at.invariant.3 ∙ ap (references (length c.args.store.now.heap)) (sym (length-numbered 0 at.yielded) ∙ ap (λ (l : List Value). length (numbered 0 l)) all)
