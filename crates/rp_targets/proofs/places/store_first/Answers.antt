use Rattle.std.proofs.Common.{◌∷◌, sym, ap}
use Rattle.rp_base.specs.declared.value.Value.{Value}
use Rattle.rp_meaning.specs.State.{on_next}
use Rattle.rp_meaning.specs.Statements as forms
use Rattle.rp_engine.proofs.Doings.{pushed_with}
use Rattle.rp_engine.specs.Does as does
use Rattle.rp_engine.specs.Law.{frame_in}
use Rattle.rp_access.specs.Moment.{state_of}
use Rattle.rp_engine.specs.Rest.{did}
use Rattle.rp_targets.proofs.places.store_first.Goals as goal

pub returns-clause-law : goal.returns-clause-law
returns-clause-law c =
    let m = c.args.machine.now in
    let w = c.args.world.now in
    let p = does.place c.args.place.now in
    let ps = does.places c.args.rest.now in
    let v = c.args.value in
    pushed_with m c.store.new.machine w c.store.new.world c.store.result _ c.push-2.new.self (forms.store_all (p ∷ ps) v) (p c.in_ok-first.first) v c.push.new.self
    c.in_ok-push.ensures.pushed c.in_ok-push-2.ensures.pushed
    (λ base. ap (λ (z : Value). did (frame_in base m) m.values (on_next (p z (frame_in base m) (state_of w)) (forms.store_all ps v (frame_in base m)))) (sym c.in_ok-first.ensures)) c.store.ensures.law
