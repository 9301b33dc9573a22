use Rattle.rp_expressions.proofs.Asking.{calls_item, item_is}
use Rattle.rp_engine.proofs.Moves.{as_any_ok, end_ok, goes_ok}
use Rattle.rp_engine.proofs.Specials.{item_left}
use Rattle.rp_access.proofs.Going.{IsEnd-same, IsEnd-then, gives-then}
use Rattle.rp_engine.proofs.Worlds.{IsReady-goes}
use Rattle.std.proofs.Common.{[], ◌∷◌, ap, ◌∙◌, arith}
use Rattle.rp_base.specs.declared.word.TheConstants.{GET_ITEM}
use Rattle.rp_ops.specs.Outcome.{on_value}
use Rattle.rp_engine.specs.SpecialSteps.{special_called}
use Rattle.rp_meaning.specs.Expressions as forms
use Rattle.rp_engine.specs.Does as does
use Rattle.rp_engine.specs.TrailerSteps.{with_item}
use Rattle.rp_engine.specs.Law.{frame_in}
use Rattle.rp_access.specs.Moment.{state_of}
use Rattle.rp_engine.proofs.Weights as weights
use Rattle.rp_expressions.proofs.primaries.item_at.Goals as goal

pub returns-in-Ok-Some-clause-law : goal.returns-in-Ok-Some-clause-law
returns-in-Ok-Some-clause-law c =
    let m = c.args.machine.now in
    let w = c.args.world.now in
    let u = c.get_item.new.world in
    let ts = does.trailers c.args.rest.now in
    let found = rw c.in-Ok-Some.field-0-is at c.in-Ok-Some.ensures.law in
    as_any_ok m c.more_trailers.new.machine w u c.more_trailers.result (with_item c.args.value ts c.args.key) (forms.trailers ts c.in-Ok-Some.value)
    (λ base. gives-then c.in-Ok-Some.value (state_of u) _ (λ v s. forms.trailers ts v (frame_in base m) s)
    (item_is base m.units.now m.frame c.args.value c.args.key (state_of w) ∙ found (calls_item base m.units.now m.frame c.args.key))) c.more_trailers.ensures.law

pub returns-in-Err-clause-law : goal.returns-in-Err-clause-law
returns-in-Err-clause-law c =
    let m = c.args.machine.now in
    let w = c.args.world.now in
    let u = c.get_item.new.world in
    let ts = does.trailers c.args.rest.now in
    end_ok m c.no_value.new.self w u c.no_value.result (with_item c.args.value ts c.args.key) c.in-Err.end
    (λ base. IsEnd-then c.in-Err.end (state_of u) _ (λ v s. forms.trailers ts v (frame_in base m) s)
    (IsEnd-same c.in-Err.end (state_of u) _ _ (item_is base m.units.now m.frame c.args.value c.args.key (state_of w)) (c.in-Err.ensures.law (calls_item base m.units.now m.frame c.args.key)))) c.no_value.ensures.law

pub returns-in-Ok-Some-clause-ready : goal.returns-in-Ok-Some-clause-ready
returns-in-Ok-Some-clause-ready c =
    let found = rw c.in-Ok-Some.field-0-is at c.in-Ok-Some.ensures.fit in
    c.more_trailers.ensures.ready c.get_item.new.world
    (IsReady-goes _ _ _ c.args.world.now c.get_item.new.world c.requires.ready c.get_item.ensures.shape c.get_item.ensures.faithful) found

pub returns-in-Err-clause-ready : goal.returns-in-Err-clause-ready
returns-in-Err-clause-ready c =
    c.no_value.ensures.ready c.get_item.new.world (IsReady-goes _ _ _ c.args.world.now c.get_item.new.world c.requires.ready c.get_item.ensures.shape c.get_item.ensures.faithful)

pub returns-in-Ok-None-clause-law : goal.returns-in-Ok-None-clause-law
returns-in-Ok-None-clause-law c =
    let m = c.args.machine.now in
    let w = c.args.world.now in
    let u = c.get_item.new.world in
    let ts = does.trailers c.args.rest.now in
    let left = rw c.in-Ok-None.field-0-is at c.in-Ok-None.ensures.special in
    goes_ok m c.item_by_method.new.machine w u c.item_by_method.result (with_item c.args.value ts c.args.key)
    (λ frame s. on_value (special_called GET_ITEM c.args.value (c.args.key ∷ []) frame s) (λ w s. forms.trailers ts w frame s))
    (λ base. ap (λ o. on_value o (λ w s. forms.trailers ts w (frame_in base m) s)) (item_left base m.units.now m.frame c.args.value c.args.key (state_of w) (state_of u) left))
    c.item_by_method.ensures.law

pub returns-in-Ok-None-clause-ready : goal.returns-in-Ok-None-clause-ready
returns-in-Ok-None-clause-ready c =
    let side = c.args.machine.now.frame.side in
    let shape = c.get_item.ensures.shape in
    c.item_by_method.ensures.ready c.get_item.new.world
    (IsReady-goes _ _ _ c.args.world.now c.get_item.new.world c.requires.ready shape c.get_item.ensures.faithful) (shape.fit side c.args.value c.requires.value) (shape.fit side c.args.key c.requires.key)

pub returns-in-Ok-Some-clause-less : goal.returns-in-Ok-Some-clause-less
returns-in-Ok-Some-clause-less c = grind (arith, weights.called_least)
