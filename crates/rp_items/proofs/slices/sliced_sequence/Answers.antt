use Rattle.std.proofs.Common.{◌≡◌, false, List, [], length, ◌∙◌, ap, refl, sym, subst}
use Rattle.std.specs.Option.{option_map_or}
use Rattle.std.proofs.lemmas.List.Elements.{All-same}
use Rattle.rp_base.specs.declared.value.Side.{Side}
use Rattle.rp_base.specs.declared.value.Value.{Value}
use Rattle.rp_store.specs.Heap.{content_at}
use Rattle.rp_store.specs.Kept.{AreSound, IsSound}
use Rattle.rp_store.specs.Object.{Content, content_of}
use Rattle.rp_ops.specs.Binary.{new_object}
use Rattle.rp_ops.specs.Outcome.{Meets, state_of}
use Rattle.rp_ops.specs.View.{held_by, sequence_of}
use Rattle.rp_ops.proofs.CallerLemmas.{AreSound-elements, stopped-meets}
use Rattle.rp_items.specs.Slices.{owner_of, sliced}
use Rattle.rp_items.specs.SliceView.{span_seen, taken}
use Rattle.rp_items.proofs.SlicePlaces.{All-sliced, taken-sliced}
use Rattle.rp_items.proofs.Sliced.{handed-own, owner-is, slice-cells}
use Rattle.rp_items.proofs.slices.sliced_sequence.Goals as goal

pub returns-in_err-check_room-clause-plain : goal.returns-in_err-check_room-clause-plain
returns-in_err-check_room-clause-plain c =
    let old = c.args.store.now in
    let span = span_seen c.args.span in
    let xs : List Value = option_map_or held_by (content_at old.heap c.args.at) [] in
    let size = sym (ap length c.elements_at.ensures.value) in
    (λ steps. stopped-meets (owner_of c.args.at (state_of old steps)) (sequence_of c.args.kind (sliced span xs)) old old c.from_residual.result c.in_err-check_room.field-0.0 _ steps
    (slice-cells c.args.kind span c.places_of-places.result xs _ size c.places_of-places.ensures.places c.places_of-places.ensures.within)
    c.from_residual.ensures.1 c.in_err-check_room.ensures.stopped c.in_err-check_room.ensures.over refl)

pub new_object-requires-clause-holds : goal.new_object-requires-clause-holds
new_object-requires-clause-holds c =
    let heap = c.args.store.now.heap in
    let span = span_seen c.args.span in
    let xs : List Value = option_map_or held_by (content_at heap c.args.at) [] in
    let items : c.in_ok-values.values.items ≡ sliced span xs =
    c.in_ok-values.ensures ∙ ap (λ (ys : List Value). taken c.places_of-places.result ys) c.elements_at-2.ensures.value
    ∙ taken-sliced _ span c.places_of-places.result xs (sym (ap length c.elements_at.ensures.value)) c.places_of-places.ensures.places in
    let sound : AreSound heap xs = subst (λ (ys : List Value). AreSound heap ys) (handed-own xs) (AreSound-elements heap c.args.at false c.elements_at.ensures.kept) in
    c.sequence.ensures.holds heap c.owner-owner.result (All-same (IsSound heap) c.in_ok-values.values.items (sliced span xs) items (All-sliced (IsSound heap) span xs sound))

pub returns-clause-plain : goal.returns-clause-plain
returns-clause-plain c =
    let old = c.args.store.now in
    let span = span_seen c.args.span in
    let xs : List Value = option_map_or held_by (content_at old.heap c.args.at) [] in
    let items : c.in_ok-values.values.items ≡ sliced span xs =
    c.in_ok-values.ensures ∙ ap (λ (ys : List Value). taken c.places_of-places.result ys) c.elements_at-2.ensures.value
    ∙ taken-sliced _ span c.places_of-places.result xs (sym (ap length c.elements_at.ensures.value)) c.places_of-places.ensures.places in
    let content = c.sequence.ensures.content ∙ ap (sequence_of c.args.kind) items in
    (λ steps.
    let s = state_of old steps in
    let t = state_of c.new_object.new.store steps in
    subst (λ (d : Content). Meets c.new_object.result t (new_object (owner_of c.args.at s) d s)) content
    (subst (λ (side : Side). Meets c.new_object.result t (new_object side (content_of c.sequence.result) s)) (sym (owner-is c.args.at s c.owner-owner.result c.owner-owner.ensures)) (c.new_object.ensures.plain steps)))
