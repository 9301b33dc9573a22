use Rattle.std.proofs.Common.{sym, ap, ◌∙◌, subst}
use Rattle.rp_base.specs.declared.value.Value.{Value}
use Rattle.std.specs.Prelude.{List}
use Rattle.rp_frame.specs.Top.{below, top}
use Rattle.rp_meaning.specs.Statements as forms
use Rattle.rp_engine.proofs.AtHand.{below_ready}
use Rattle.rp_engine.proofs.Doings.{held_as}
use Rattle.rp_engine.specs.Does as does
use Rattle.rp_engine.specs.Law.{frame_in}
use Rattle.rp_access.specs.Moment.{state_of}
use Rattle.rp_engine.specs.Ready.{IsReady}
use Rattle.rp_engine.specs.Rest.{did}
use Rattle.rp_targets.proofs.places.store_more.Goals as goal

pub store_all-requires-clause-ready : goal.store_all-requires-clause-ready
store_all-requires-clause-ready c =
    let m = c.args.machine.now in
    subst (λ (vs : List Value). IsReady m.units.now m.frame vs c.args.world.now) (sym c.pop-value.ensures.left) (below_ready m.units.now m.frame m.values c.args.world.now c.requires.ready)

pub returns-clause-law : goal.returns-clause-law
returns-clause-law c =
    let m = c.args.machine.now in
    let s = state_of c.args.world.now in
    let ps = does.places c.args.places.now in
    held_as m c.store_all.new.machine c.store_all.new.world c.store_all.result
    (λ base. did (frame_in base m) (below m.values) (forms.store_all ps (top m.values) (frame_in base m) s))
    (λ base. did (frame_in base m) c.pop-value.new.self (forms.store_all ps c.pop-value.result (frame_in base m) s))
    (λ base. ap (λ (us : List Value). did (frame_in base m) us (forms.store_all ps (top m.values) (frame_in base m) s)) (sym c.pop-value.ensures.left)
    ∙ ap (λ (v : Value). did (frame_in base m) c.pop-value.new.self (forms.store_all ps v (frame_in base m) s)) (sym c.pop-value.ensures.value)) c.store_all.ensures.law
