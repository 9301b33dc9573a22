use Rattle.std.proofs.Common.{List, ap, arith, drop, length, refl, sym, take, ◌-◌, ◌∙◌, ◌∷◌, ◌≤◌}
use Rattle.rp_meaning.specs.State.{next}
use Rattle.rp_meaning.specs.Statements as forms
use Rattle.rp_tree.specs.declared.expr.Place.{Place}
use Rattle.rp_engine.proofs.Doings.{does_as, does_moves}
use Rattle.rp_access.proofs.Lists.{first_rest, none_left, only_first}
use Rattle.rp_targets.proofs.Steps.{on_done}
use Rattle.rp_engine.specs.Does as does
use Rattle.rp_engine.specs.Law.{frame_in}
use Rattle.rp_access.specs.Moment.{state_of}
use Rattle.rp_store.proofs.CallerLemmas.{KeepsShape-same}
use Rattle.rp_engine.proofs.Weights as weights
use Rattle.rp_targets.proofs.places.store_all.Goals as goal

pub returns-in-len1-clause-law : goal.returns-in-len1-clause-law
returns-in-len1-clause-law c =
    let m = c.args.machine.now in
    let w = c.args.world.now in
    let ps = c.args.places.now in
    let p = c.place-item.result in
    let v = c.args.value in
    does_as m c.store.new.machine w c.store.new.world c.store.result (forms.store_all (does.places ps) v) (does.place p v) w
    (λ base. ap (λ (ps : List Place). forms.store_all (does.places ps) v (frame_in base m) (state_of w)) (sym (only_first ps p c.in-len1.len_at_least c.in-len1.len_below c.place-item.is))
    ∙ on_done (does.place p v (frame_in base m) (state_of w))) c.store.ensures.law

pub returns-in-len1-up-clause-law : goal.returns-in-len1-up-clause-law
returns-in-len1-up-clause-law c =
    let m = c.args.machine.now in
    let w = c.args.world.now in
    let ps = c.args.places.now in
    let p = c.place-item-2.result in
    let v = c.args.value in
    does_as m c.store_first.new.machine w c.store_first.new.world c.store_first.result (forms.store_all (does.places ps) v)
    (forms.store_all (does.place p ∷ does.places (take (length ps - 1) (drop 1 ps))) v) w
    (λ base. ap (λ (ps : List Place). forms.store_all (does.places ps) v (frame_in base m) (state_of w)) (sym (first_rest ps p (omega arith) c.place-item-2.is)))
    c.store_first.ensures.law

pub returns-in-empty-clause-law : goal.returns-in-empty-clause-law
returns-in-empty-clause-law c =
    let m = c.args.machine.now in
    let w = c.args.world.now in
    let ps = c.args.places.now in
    does_moves m c.go.new.self w w c.go.result (forms.store_all (does.places ps) c.args.value) (forms.leave next)
    (λ base. ap (λ (ps : List Place). forms.store_all (does.places ps) c.args.value (frame_in base m) (state_of w)) (none_left ps (omega arith))) c.go.ensures.law

pub returns-in-empty-clause-ready : goal.returns-in-empty-clause-ready
returns-in-empty-clause-ready c = c.go.ensures.ready c.args.world.now c.requires.ready

pub returns-in-empty-clause-shape : goal.returns-in-empty-clause-shape
returns-in-empty-clause-shape c = KeepsShape-same c.args.world.now.store.heap c.args.world.now.store.heap refl

pub returns-in-len1-clause-ready : goal.returns-in-len1-clause-ready
returns-in-len1-clause-ready c = c.store.ensures.ready

pub returns-in-len1-clause-shape : goal.returns-in-len1-clause-shape
returns-in-len1-clause-shape c = c.store.ensures.shape

pub returns-in-len1-up-clause-ready : goal.returns-in-len1-up-clause-ready
returns-in-len1-up-clause-ready c = c.store_first.ensures.ready

pub returns-in-len1-up-clause-shape : goal.returns-in-len1-up-clause-shape
returns-in-len1-up-clause-shape c = c.store_first.ensures.shape

pub returns-in-len1-clause-less : goal.returns-in-len1-clause-less
returns-in-len1-clause-less c =
    grind (arith, weights.places_front c.args.places.now c.place-item.result c.in-len1.len_at_least c.place-item.is)

pub returns-in-len1-up-clause-less : goal.returns-in-len1-up-clause-less
returns-in-len1-up-clause-less c =
    let some : 1 ≤ length c.args.places.now = omega arith in
    grind (arith, weights.places_front c.args.places.now c.place-item-2.result some c.place-item-2.is)
