use Rattle.std.proofs.Common.{[], ◌∷◌, ap, subst, sym, ◌∙◌, arith}
use Rattle.rp_access.specs.Moment.{state_of}
use Rattle.rp_base.specs.declared.word.TheConstants.{SET_ITEM}
use Rattle.rp_meaning.specs.Access as access
use Rattle.rp_meaning.specs.State.{done, next}
use Rattle.rp_meaning.specs.Statements as forms
use Rattle.rp_targets.proofs.Changed.{item_set_ends, item_set_gives}
use Rattle.rp_ops.specs.Outcome.{on_value}
use Rattle.rp_engine.proofs.Doings.{does_end, does_goes, does_moves}
use Rattle.rp_engine.proofs.Specials.{store_left}
use Rattle.rp_engine.proofs.Worlds.{IsReady-goes}
use Rattle.rp_engine.specs.Law.{frame_in}
use Rattle.rp_engine.specs.SpecialSteps.{special_called}
use Rattle.rp_store.specs.Kept.{IsFit}
use Rattle.rp_engine.proofs.Weights as weights
use Rattle.rp_targets.proofs.storing.set_item.Goals as goal

pub returns-in-Ok-None-clause-law : goal.returns-in-Ok-None-clause-law
returns-in-Ok-None-clause-law c =
    let m = c.args.machine.now in
    let w = c.args.world.now in
    let u = c.set_item.new.world in
    let found = rw c.in-Ok-None.field-0-is at c.in-Ok-None.ensures.law in
    does_moves m c.go.new.self w u c.go.result (access.set_item c.args.o c.args.i c.args.value) (forms.leave next) (item_set_gives m w u c.args.o c.args.i c.args.value found) c.go.ensures.law

pub returns-in-Err-clause-law : goal.returns-in-Err-clause-law
returns-in-Err-clause-law c =
    let m = c.args.machine.now in
    let w = c.args.world.now in
    let u = c.set_item.new.world in
    does_end m c.cut_off.new.self w u c.cut_off.result (access.set_item c.args.o c.args.i c.args.value) c.in-Err.end (item_set_ends m w u c.args.o c.args.i c.args.value c.in-Err.end c.in-Err.ensures.law) c.cut_off.ensures.law

pub returns-in-Ok-None-clause-ready : goal.returns-in-Ok-None-clause-ready
returns-in-Ok-None-clause-ready c =
    c.go.ensures.ready c.set_item.new.world (IsReady-goes _ _ _ c.args.world.now c.set_item.new.world c.requires.ready c.set_item.ensures.shape c.set_item.ensures.faithful)

pub returns-in-Err-clause-ready : goal.returns-in-Err-clause-ready
returns-in-Err-clause-ready c =
    c.cut_off.ensures.ready c.set_item.new.world (IsReady-goes _ _ _ c.args.world.now c.set_item.new.world c.requires.ready c.set_item.ensures.shape c.set_item.ensures.faithful)

pub returns-in-Ok-Some-clause-law : goal.returns-in-Ok-Some-clause-law
returns-in-Ok-Some-clause-law c =
    let m = c.args.machine.now in
    let w = c.args.world.now in
    let u = c.set_item.new.world in
    let left = rw c.in-Ok-Some.field-0-is at c.in-Ok-Some.ensures.special in
    does_goes m c.store_by_method.new.machine w u c.store_by_method.result (access.set_item c.args.o c.args.i c.args.value)
    (λ frame s. on_value (special_called SET_ITEM c.args.o (c.args.i ∷ c.in-Ok-Some.value ∷ []) frame s) (λ v s. done s))
    (λ base. store_left base m.units.now m.frame c.args.o c.args.i c.args.value (state_of w) (state_of u) left.1
    ∙ ap (λ v. on_value (special_called SET_ITEM c.args.o (c.args.i ∷ v ∷ []) (frame_in base m) (state_of u)) (λ v s. done s)) (sym left.0)) c.store_by_method.ensures.law

pub returns-in-Ok-Some-clause-ready : goal.returns-in-Ok-Some-clause-ready
returns-in-Ok-Some-clause-ready c =
    let u = c.set_item.new.world in
    let side = c.args.machine.now.frame.side in
    let shape = c.set_item.ensures.shape in
    let left = rw c.in-Ok-Some.field-0-is at c.in-Ok-Some.ensures.special in
    c.store_by_method.ensures.ready u (IsReady-goes _ _ _ c.args.world.now u c.requires.ready shape c.set_item.ensures.faithful) (shape.fit side c.args.o c.requires.o)
    (shape.fit side c.args.i c.requires.i) (subst (IsFit u.store.heap side) (sym left.0) (shape.fit side c.args.value c.requires.value))

pub returns-in-Ok-None-clause-less : goal.returns-in-Ok-None-clause-less
returns-in-Ok-None-clause-less c = grind (arith, weights.called_least)
