use Rattle.std.proofs.Common.{◌≡◌, List, OnOk, ◌∙◌, ap, subst}
use Rattle.std.specs.List.{repeat}
use Rattle.std.specs.Int.{w64}
use Rattle.std.proofs.lemmas.Int.{to_z-of_z}
use Rattle.std.proofs.lemmas.List.Elements.{All-same}
use Rattle.rp_base.specs.declared.value.Value.{Value}
use Rattle.rp_store.specs.Kept.{IsSound}
use Rattle.rp_store.specs.Store.{Cells, added}
use Rattle.rp_ops.specs.Binary.{repeated, times}
use Rattle.rp_ops.specs.View.{elements_of, sequence_of}
use Rattle.rp_ops.proofs.CallerLemmas.{AreSound-elements, AreSound-repeat, added-meets, length-elements, repeat-cells, stopped-meets}
use Rattle.rp_ops.proofs.sequences.repeat.Goals as goal

pub returns-in_err-charge_copies-clause-plain : goal.returns-in_err-charge_copies-clause-plain
returns-in_err-charge_copies-clause-plain c =
    let old = c.args.store.now in
    let xs = elements_of old.heap c.args.x in
    let copies = c.times-copies.ensures ∙ ap times (to_z-of_z w64 c.args.n c.ranges.n) in
    let size = length-elements old.heap c.args.x c.elements_at-size.result.now c.elements_at-size.ensures.value in
    (λ steps. stopped-meets c.args.side (sequence_of c.args.kind (repeated c.args.n xs)) old c.charge_copies.new.store c.from_residual.result c.in_err-charge_copies.field-0.0 _ steps
    (repeat-cells c.args.n c.times-copies.result _ c.args.kind xs copies size)
    c.from_residual.ensures.1 c.in_err-charge_copies.ensures.stopped c.in_err-charge_copies.ensures.over c.in_err-charge_copies.ensures.same)

pub returns-clause-plain : goal.returns-clause-plain
returns-clause-plain c =
    let old = c.args.store.now in
    let xs = elements_of old.heap c.args.x in
    let copies = c.times-copies.ensures ∙ ap times (to_z-of_z w64 c.args.n c.ranges.n) in
    let size = length-elements old.heap c.args.x c.elements_at-size.result.now c.elements_at-size.ensures.value in
    let items : c.in_ok-elements.elements.items ≡ repeated c.args.n xs =
    c.in_ok-elements.ensures ∙ ap (λ (s : Cells). repeat c.times-copies.result (elements_of s.heap c.args.x)) c.in_ok-charge_copies.ensures.charged
    ∙ ap (λ k. repeat k xs) copies in
    (λ steps. added-meets c.args.side (sequence_of c.args.kind (repeated c.args.n xs)) old c.charge_copies.new.store c.add.new.store c.add.result _ steps
    (repeat-cells c.args.n c.times-copies.result _ c.args.kind xs copies size)
    c.in_ok-charge_copies.ensures.within c.in_ok-charge_copies.ensures.charged
    (subst (λ (l : List Value). OnOk c.add.result (c.add.new.store ≡ added c.charge_copies.new.store c.args.side (sequence_of c.args.kind l))) items c.add.ensures.added)
    c.add.ensures.place c.add.ensures.memory)

pub add-requires : goal.add-requires
add-requires c =
    let heap = c.charge_copies.new.store.heap in
    record {
      sound = All-same (IsSound heap) c.in_ok-elements.elements.items (repeat c.times-copies.result (elements_of heap c.args.x)) c.in_ok-elements.ensures
          (AreSound-repeat heap c.times-copies.result (elements_of heap c.args.x) (AreSound-elements heap c.args.x.at c.args.x.lent c.kept.ensures));
    }
