use Rattle.std.proofs.Common.{◌≡◌, ℕ, [], length, sym, ap, subst, ◌∙◌, IfOk}
use Rattle.std.proofs.lemmas.Result.{on_ok_weaker}
use Rattle.rp_meaning.specs.Load.{trusted}
use Rattle.rp_store.specs.Store.{added}
use Rattle.rp_world.specs.PlacingSteps.{SlotsMade, classes_placed, exposing}
use Rattle.rp_world.proofs.Filled.{all-declared, all-filled, bound-more, classes-there}
use Rattle.rp_world.proofs.filling.fill.Goals as goal

pub place_objects-requires-clause-classes : goal.place_objects-requires-clause-classes
place_objects-requires-clause-classes c =
    let d = c.args.decl.now in
    let begun = c.place_exposing.new.store in
    let one = c.in_ok-place_exposing.ensures.placed ∙ ap (λ names. added c.args.store.now trusted (exposing names)) c.expose.ensures in
    let two = sym (λ k. classes_placed (c.classes.ensures.value k) (c.new-slots.ensures.items k, begun)) ∙ c.in_ok-place_classes.ensures.placed in
    classes-there d c.args.store.now begun c.place_classes.new.store c.place_classes.new.slots.items c.requires.empty one two c.requires.declared

pub place_globals-requires : goal.place_globals-requires
place_globals-requires c =
    bound-more c.place_objects.new.store.heap c.args.locals c.place_objects.new.slots.items c.fill_slots.new.slots.items c.in_ok-fill_slots.ensures c.in_ok-place_objects.ensures.bound

pub returns-clause-filled : goal.returns-clause-filled
returns-clause-filled c =
    let d = c.args.decl.now in
    let begun = c.place_exposing.new.store in
    let one = c.in_ok-place_exposing.ensures.placed ∙ ap (λ names. added c.args.store.now trusted (exposing names)) c.expose.ensures in
    let two = sym (λ k. classes_placed (c.classes.ensures.value k) (c.new-slots.ensures.items k, begun)) ∙ c.in_ok-place_classes.ensures.placed in
    on_ok_weaker c.place_globals.result
    (λ four. all-filled d c.args.store.now begun c.place_classes.new.store c.place_classes.new.slots.items c.requires.empty one two c.place_objects.new.store c.place_globals.new.store c.place_objects.new.slots.items c.fill_slots.new.slots.items
    c.in_ok-place_objects.ensures.placed four c.args.locals c.in_ok-fill_slots.ensures)
    c.place_globals.ensures.placed

pub returns-clause-place : goal.returns-clause-place
returns-clause-place c =
    let d = c.args.decl.now in
    let begun = c.place_exposing.new.store in
    let one = c.in_ok-place_exposing.ensures.placed ∙ ap (λ names. added c.args.store.now trusted (exposing names)) c.expose.ensures in
    let two = sym (λ k. classes_placed (c.classes.ensures.value k) (c.new-slots.ensures.items k, begun)) ∙ c.in_ok-place_classes.ensures.placed in
    let same = all-declared d c.args.store.now begun c.place_classes.new.store c.place_classes.new.slots.items c.requires.empty one two c.place_objects.new.store c.place_objects.new.slots.items c.in_ok-place_objects.ensures.placed in
    subst (λ (n : ℕ). IfOk c.place_globals.result (λ at. at.0 ≡ n)) (ap (λ (r : SlotsMade). length r.1.heap) same) c.place_globals.ensures.place
