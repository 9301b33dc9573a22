use Rattle.std.proofs.Common.{◌∷◌, ◌-◌, List, length, map, take, drop, sym, ap, arith}
use Rattle.rp_meaning.specs.State.{next}
use Rattle.rp_meaning.specs.Statements as forms
use Rattle.rp_tree.specs.declared.expr.Place.{Place}
use Rattle.rp_engine.proofs.Doings.{does_as, does_moves}
use Rattle.rp_access.proofs.Lists.{first_rest, none_left}
use Rattle.rp_engine.specs.Does as does
use Rattle.rp_engine.specs.Law.{frame_in}
use Rattle.rp_access.specs.Moment.{state_of}
use Rattle.rp_engine.proofs.Weights as weights
use Rattle.rp_targets.proofs.places.delete_all.Goals as goal

pub returns-in-len1-up-clause-law : goal.returns-in-len1-up-clause-law
returns-in-len1-up-clause-law c =
    let m = c.args.machine.now in
    let w = c.args.world.now in
    let ps = c.args.places.now in
    let p = c.place-item.result in
    does_as m c.delete_first.new.machine w c.delete_first.new.world c.delete_first.result (does.deletes ps)
    (forms.block (does.delete p ∷ map does.delete (take (length ps - 1) (drop 1 ps)))) w
    (λ base. ap (λ (ps : List Place). does.deletes ps (frame_in base m) (state_of w)) (sym (first_rest ps p c.in-len1-up.len_at_least c.place-item.is)))
    c.delete_first.ensures.law

pub returns-in-empty-clause-law : goal.returns-in-empty-clause-law
returns-in-empty-clause-law c =
    let m = c.args.machine.now in
    let w = c.args.world.now in
    let ps = c.args.places.now in
    does_moves m c.go.new.self w w c.go.result (does.deletes ps) (forms.leave next)
    (λ base. ap (λ (ps : List Place). does.deletes ps (frame_in base m) (state_of w)) (none_left ps (omega arith))) c.go.ensures.law

pub returns-in-len1-up-clause-less : goal.returns-in-len1-up-clause-less
returns-in-len1-up-clause-less c =
    grind (arith, weights.places_front c.args.places.now c.place-item.result c.in-len1-up.len_at_least c.place-item.is)
