use Rattle.std.proofs.Common.{[], ◌∷◌, ap, subst, sym}
use Rattle.std.specs.Prelude.{ℕ, List, OnOk}
use Rattle.rp_proxy.specs.declared.world.World.{World}
use Rattle.rp_store.specs.Kept.{IsFit}
use Rattle.rp_store.specs.Shape.{KeepsShape}
use Rattle.rp_expressions.proofs.Spreads.{Behind}
use Rattle.rp_engine.proofs.Worlds.{shape_stored}
use Rattle.rp_engine.specs.Does as does
use Rattle.rp_engine.specs.Ready.{IsReady}
use Rattle.rp_expressions.proofs.named_arguments.after_named.Goals as goal

pub returns-in_err-word-clause-ready : goal.returns-in_err-word-clause-ready
returns-in_err-word-clause-ready c =
    let m = c.args.machine.now in
    subst (λ (u : World). IsReady m.units.now m.frame m.values u) (sym c.argument_word.ensures.same) c.requires.ready

pub returns-in_err-word-clause-shape : goal.returns-in_err-word-clause-shape
returns-in_err-word-clause-shape c =
    shape_stored c.args.world.now.store c.argument_word.new.world.store (ap (λ (u : World). u.store) c.argument_word.ensures.same)

pub with_word-requires-clause-ready : goal.with_word-requires-clause-ready
with_word-requires-clause-ready c =
    let m = c.args.machine.now in
    subst (λ (u : World). IsReady m.units.now m.frame m.values u) (sym c.argument_word.ensures.same) c.requires.ready

pub with_word-requires-clause-value : goal.with_word-requires-clause-value
with_word-requires-clause-value c =
    subst (λ (u : World). IsFit u.store.heap c.args.machine.now.frame.side c.args.value) (sym c.argument_word.ensures.same) c.requires.value

pub returns-clause-law : goal.returns-clause-law
returns-clause-law c =
    let m = c.args.machine.now in
    let n = c.with_word.new.machine in
    let w = c.args.world.now in
    let v = c.with_word.new.world in
    let r = c.with_word.result in
    let as' = does.args c.args.args.now in
    let ts = does.trailers c.args.rest.now in
    let word = c.in_ok-word.word in
    subst (λ (word : List ℕ). OnOk r (Behind m n w v r as' ts c.args.hand ((word, c.args.value) ∷ []))) c.in_ok-word.ensures.word
    (subst (λ (u : World). OnOk r (Behind m n u v r as' ts c.args.hand ((word, c.args.value) ∷ []))) c.argument_word.ensures.same c.with_word.ensures.law)

pub returns-clause-shape : goal.returns-clause-shape
returns-clause-shape c =
    subst (λ (u : World). KeepsShape u.store.heap c.with_word.new.world.store.heap) c.argument_word.ensures.same c.with_word.ensures.shape
