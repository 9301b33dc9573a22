use Rattle.std.proofs.Common.{ℕ, List, length, encode_utf8_all, ◌∙◌, refl, sym, subst}
use Rattle.std.proofs.lemmas.Str.{chars_from_encodes}
use Rattle.rp_ops.specs.Binary.{new_text}
use Rattle.rp_ops.specs.Outcome.{Meets, state_of}
use Rattle.rp_ops.proofs.CallerLemmas.{text-stopped}
use Rattle.rp_items.specs.Slices.{sliced}
use Rattle.rp_items.specs.SliceView.{span_seen, taken}
use Rattle.rp_items.proofs.Sliced.{slice-over}
use Rattle.rp_items.proofs.SlicePlaces.{taken-sliced}
use Rattle.rp_items.proofs.slices.sliced_text.Goals as goal

pub returns-in_err-check_room-clause-plain : goal.returns-in_err-check_room-clause-plain
returns-in_err-check_room-clause-plain c =
    let old = c.args.store.now in
    let span = span_seen c.args.span in
    let t = c.args.text.now in
    let p = c.places_of-places.result in
    (λ steps. text-stopped (sliced span t) old old c.from_residual.result c.in_err-check_room.field-0.0 (length (encode_utf8_all (sliced span t))) steps refl
    c.from_residual.ensures.1 c.in_err-check_room.ensures.stopped
    (slice-over span p t _ old (sym c.len.ensures) c.places_of-places.ensures.places c.places_of-places.ensures.within c.in_err-check_room.ensures.over) refl)

pub returns-in-Some-clause-plain : goal.returns-in-Some-clause-plain
returns-in-Some-clause-plain c =
    let span = span_seen c.args.span in
    let t = c.args.text.now in
    let letters = c.in-Some.ensures ∙ taken-sliced _ span c.places_of-places.result t (sym c.len.ensures) c.places_of-places.ensures.places in
    (λ steps. subst (λ (cs : List ℕ). Meets c.new_text.result (state_of c.new_text.new.store steps) (new_text cs (state_of c.args.store.now steps))) letters
    (c.new_text.ensures.plain steps))

pub returns-in-Some-clause-sound : goal.returns-in-Some-clause-sound
returns-in-Some-clause-sound c = c.new_text.ensures.sound c.new_text.new.store.heap

pub returns-clause-plain : goal.returns-clause-plain
returns-clause-plain c =
    let span = span_seen c.args.span in
    let t = c.args.text.now in
    let p = c.places_of-places.result in
    let letters = sym (chars_from_encodes (taken p t) c.as_str.result.now c.as_str.utf8 (sym (c.as_str.ensures.value ∙ c.in_ok-taken.ensures)))
    ∙ taken-sliced _ span p t (sym c.len.ensures) c.places_of-places.ensures.places in
    (λ steps. subst (λ (cs : List ℕ). Meets c.new_text-2.result (state_of c.new_text-2.new.store steps) (new_text cs (state_of c.args.store.now steps))) letters
    (c.new_text-2.ensures.plain steps))

pub returns-clause-sound : goal.returns-clause-sound
returns-clause-sound c = c.new_text-2.ensures.sound c.new_text-2.new.store.heap
