use Rattle.std.proofs.Common.{[], Option, Some, ◌∙◌, ap, sym, subst}
use Rattle.std.specs.Option.{option_map_or}
use Rattle.rp_store.specs.declared.object.Object.{Object}
use Rattle.rp_store.specs.Object as object
use Rattle.rp_store.specs.Object.{Content, content_of}
use Rattle.rp_ops.specs.Binary.{new_object}
use Rattle.rp_ops.specs.Outcome.{Meets, on_found, state_of}
use Rattle.rp_ops.specs.View.{held_by}
use Rattle.rp_items.specs.Items.{no_items}
use Rattle.rp_items.specs.Slices.{content_slice, owner_of, sliced, span_named}
use Rattle.rp_items.proofs.slices.object_slice.Goals as goal

pub returns-in-List-clause-plain : goal.returns-in-List-clause-plain
returns-in-List-clause-plain c =
    let parts = span_named c.args.parts.from.now c.args.parts.to.now c.args.parts.step.now in
    let found = c.object.ensures.content ∙ ap (λ (o : Object). Some (content_of o)) c.in-List.is in
    (λ steps.
    let s = state_of c.args.store.now steps in
    let t = state_of c.sequence_slice.new.store steps in
    subst (λ (x : Option Content). Meets c.sequence_slice.result t (option_map_or (λ d. content_slice (owner_of c.args.at s) d parts s) x (no_items s))) (sym found)
    (subst (λ (x : Option Content). Meets c.sequence_slice.result t
    (on_found parts s (λ p s. new_object (owner_of c.args.at (state_of c.args.store.now steps)) (object.list (sliced p (option_map_or held_by x []))) s))) found
    (c.sequence_slice.ensures.plain steps)))

pub returns-in-Tuple-clause-plain : goal.returns-in-Tuple-clause-plain
returns-in-Tuple-clause-plain c =
    let parts = span_named c.args.parts.from.now c.args.parts.to.now c.args.parts.step.now in
    let found = c.object.ensures.content ∙ ap (λ (o : Object). Some (content_of o)) c.in-Tuple.is in
    (λ steps.
    let s = state_of c.args.store.now steps in
    let t = state_of c.sequence_slice-in-Tuple.new.store steps in
    subst (λ (x : Option Content). Meets c.sequence_slice-in-Tuple.result t (option_map_or (λ d. content_slice (owner_of c.args.at s) d parts s) x (no_items s))) (sym found)
    (subst (λ (x : Option Content). Meets c.sequence_slice-in-Tuple.result t
    (on_found parts s (λ p s. new_object (owner_of c.args.at (state_of c.args.store.now steps)) (object.tuple (sliced p (option_map_or held_by x []))) s))) found
    (c.sequence_slice-in-Tuple.ensures.plain steps)))
