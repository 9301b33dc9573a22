use Rattle.std.proofs.Common.{◌≡◌, List, [], Some, ◌∙◌, ap, false, rules, length, subst, sym}
use Rattle.std.specs.Int.{w64}
use Rattle.std.specs.List.{repeat}
use Rattle.std.specs.Option.{option_map_or}
use Rattle.std.proofs.lemmas.Int.{to_z-of_z}
use Rattle.std.proofs.lemmas.List.Elements.{All-same}
use Rattle.rp_base.specs.declared.value.Value.{Value}
use Rattle.rp_store.specs.Heap.{IsHeld, Names, content_at}
use Rattle.rp_store.specs.Kept.{IsSound}
use Rattle.rp_store.specs.Parts.{IsList}
use Rattle.rp_store.specs.Store.{Cells}
use Rattle.rp_ops.specs.Binary.{repeated, times}
use Rattle.rp_ops.specs.Inplace.{repeats_list}
use Rattle.rp_ops.specs.Outcome.{state_of}
use Rattle.rp_ops.specs.View.{elements_of, held_by}
use Rattle.rp_ops.specs.declared.operand.Elements.{Elements}
use Rattle.rp_ops.proofs.CallerLemmas.{AreSound-elements, AreSound-repeat, IsHeld-Names}
use Rattle.rp_ops.proofs.Inplaces.{elements_of-own, more-cells, repeats-once, repeats-stopped, repeats-within}
use Rattle.rp_ops.proofs.augmentation.set_repeated.Goals as goal

pub elements_at-size-requires : goal.elements_at-size-requires
elements_at-size-requires c = IsHeld-Names IsList c.args.store.now.heap c.args.at c.requires.list

pub copied-requires : goal.copied-requires
copied-requires c =
    let held : IsHeld c.charge_copies.new.store.heap c.args.at =
    subst (λ (s : Cells). IsHeld s.heap c.args.at) (sym c.in_ok-charge_copies.ensures.charged) (IsHeld-Names IsList c.args.store.now.heap c.args.at c.requires.list) in
    record { x = held }

pub set_elements-requires-clause-held : goal.set_elements-requires-clause-held
set_elements-requires-clause-held c =
    subst (λ (s : Cells). IsHeld s.heap c.args.at) (sym c.in_ok-charge_copies.ensures.charged) (IsHeld-Names IsList c.args.store.now.heap c.args.at c.requires.list)

pub set_elements-requires-clause-list : goal.set_elements-requires-clause-list
set_elements-requires-clause-list c =
    subst (λ (s : Cells). Names s.heap IsList c.args.at) (sym c.in_ok-charge_copies.ensures.charged) c.requires.list

pub returns-in_err-charge_copies-clause-plain : goal.returns-in_err-charge_copies-clause-plain
returns-in_err-charge_copies-clause-plain c =
    let old = c.args.store.now in
    let xs : List Value = option_map_or held_by (content_at old.heap c.args.at) [] in
    let copies = c.times-copies.ensures ∙ ap times (to_z-of_z w64 c.args.n c.ranges.n) in
    (λ steps. repeats-stopped c.args.a.now c.args.at xs c.args.n old c.charge_copies.new.store c.from_residual-in_err-charge_copies.result c.in_err-charge_copies.field-0.0 _ steps
    (more-cells c.args.n c.times-copies.result c.but_first-more.result _ xs c.but_first-more.ensures copies (sym (ap length c.elements_at-size.ensures.value)))
    c.from_residual-in_err-charge_copies.ensures.1 c.in_err-charge_copies.ensures.stopped c.in_err-charge_copies.ensures.over c.in_err-charge_copies.ensures.same)

pub returns-clause-plain : goal.returns-clause-plain
returns-clause-plain c =
    let old = c.args.store.now in
    let x : Elements = record { at = c.args.at; lent = false } in
    let xs : List Value = option_map_or held_by (content_at old.heap c.args.at) [] in
    let copies = c.times-copies.ensures ∙ ap times (to_z-of_z w64 c.args.n c.ranges.n) in
    let items : c.in_ok-values.values.items ≡ repeated c.args.n xs =
    c.in_ok-values.ensures ∙ ap (λ (s : Cells). repeat c.times-copies.result (elements_of s.heap x)) c.in_ok-charge_copies.ensures.charged
    ∙ ap (λ k. repeat k (elements_of old.heap x)) copies ∙ ap (λ l. repeat (times c.args.n) l) (elements_of-own old.heap c.args.at) in
    (λ steps. ap (λ (v : Value). repeats_list v c.args.at xs (Some c.args.n) (state_of old steps)) (sym c.in_ok-same.ensures)
    ∙ repeats-within c.in_ok-same.same c.args.at xs c.in_ok-values.values.items c.args.n old c.charge_copies.new.store c.set_elements.new.self _ steps
    (more-cells c.args.n c.times-copies.result c.but_first-more.result _ xs c.but_first-more.ensures copies (sym (ap length c.elements_at-size.ensures.value)))
    c.in_ok-charge_copies.ensures.within c.in_ok-charge_copies.ensures.charged items c.set_elements.ensures.done)

pub set_elements-requires-clause-values : goal.set_elements-requires-clause-values
set_elements-requires-clause-values c =
    let heap = c.charge_copies.new.store.heap in
    let x : Elements = record { at = c.args.at; lent = false } in
    All-same (IsSound heap) c.in_ok-values.values.items (repeat c.times-copies.result (elements_of heap x)) c.in_ok-values.ensures
    (AreSound-repeat heap c.times-copies.result (elements_of heap x) (AreSound-elements heap c.args.at false c.kept.ensures))

pub returns-then-copies-eq1-clause-plain : goal.returns-then-copies-eq1-clause-plain
returns-then-copies-eq1-clause-plain c =
    let old = c.args.store.now in
    let xs : List Value = option_map_or held_by (content_at old.heap c.args.at) [] in
    let copies = c.times-copies.ensures ∙ ap times (to_z-of_z w64 c.args.n c.ranges.n) in
    let one : c.times-copies.result ≡ 1 = search rules in
    (λ steps. ap (λ (v : Value). repeats_list v c.args.at xs (Some c.args.n) (state_of old steps)) (sym c.in_ok-same.ensures)
    ∙ repeats-once c.in_ok-same.same c.args.at c.args.n old c.charge_copies.new.store _ steps
    (more-cells c.args.n c.times-copies.result c.but_first-more.result _ xs c.but_first-more.ensures copies (sym (ap length c.elements_at-size.ensures.value)))
    c.in_ok-charge_copies.ensures.within c.in_ok-charge_copies.ensures.charged (sym copies ∙ one))
