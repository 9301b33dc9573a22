use Rattle.std.proofs.Common.{[], ◌∷◌, ◌∙◌, arith}
use Rattle.rp_base.specs.declared.word.TheConstants.{CONTAINS}
use Rattle.rp_ops.specs.Outcome.{on_value}
use Rattle.rp_engine.proofs.Specials.{test_left}
use Rattle.rp_engine.specs.SpecialSteps.{special_called, with_contained}
use Rattle.rp_expressions.proofs.Asking.{calls_within, test_is}
use Rattle.rp_access.proofs.Going.{IsEnd-same, IsEnd-then, gives-then}
use Rattle.rp_engine.proofs.Moves.{as_any_ok, end_ok, goes_ok}
use Rattle.rp_engine.proofs.Worlds.{IsReady-goes}
use Rattle.rp_engine.specs.ComparisonSteps.{by_test, with_test}
use Rattle.rp_engine.specs.Does as does
use Rattle.rp_engine.specs.Law.{frame_in}
use Rattle.rp_access.specs.Moment.{state_of}
use Rattle.rp_engine.proofs.Weights as weights
use Rattle.rp_expressions.proofs.comparisons.compared.Goals as goal

pub returns-in-Ok-Some-clause-law : goal.returns-in-Ok-Some-clause-law
returns-in-Ok-Some-clause-law c =
    let m = c.args.machine.now in
    let w = c.args.world.now in
    let u = c.holds.new.world in
    let ts = does.tests c.args.rest.now in
    let found = rw c.in-Ok-Some.field-0-is at c.in-Ok-Some.ensures.law in
    as_any_ok m c.by_test.new.machine w u c.by_test.result (with_test c.args.test c.args.a ts c.args.b) (by_test c.in-Ok-Some.holds c.args.b ts)
    (λ base. gives-then c.in-Ok-Some.holds (state_of u) _ (λ r s. by_test r c.args.b ts (frame_in base m) s)
    (test_is base m.units.now m.frame c.args.test c.args.a c.args.b (state_of w) ∙ found (calls_within base m.units.now m.frame c.args.a))) c.by_test.ensures.law

pub returns-in-Ok-Some-clause-ready : goal.returns-in-Ok-Some-clause-ready
returns-in-Ok-Some-clause-ready c =
    let w = c.args.world.now in
    let u = c.holds.new.world in
    c.by_test.ensures.ready u (IsReady-goes _ _ _ w u c.requires.ready c.holds.ensures.shape c.holds.ensures.faithful)
    (c.holds.ensures.shape.fit c.args.machine.now.frame.side c.args.b c.requires.b)

pub returns-in-Err-clause-law : goal.returns-in-Err-clause-law
returns-in-Err-clause-law c =
    let m = c.args.machine.now in
    let w = c.args.world.now in
    let u = c.holds.new.world in
    let ts = does.tests c.args.rest.now in
    end_ok m c.no_value.new.self w u c.no_value.result (with_test c.args.test c.args.a ts c.args.b) c.in-Err.end
    (λ base. IsEnd-then c.in-Err.end (state_of u) _ (λ r s. by_test r c.args.b ts (frame_in base m) s)
    (IsEnd-same c.in-Err.end (state_of u) _ _ (test_is base m.units.now m.frame c.args.test c.args.a c.args.b (state_of w))
    (c.in-Err.ensures.law (calls_within base m.units.now m.frame c.args.a)))) c.no_value.ensures.law

pub returns-in-Err-clause-ready : goal.returns-in-Err-clause-ready
returns-in-Err-clause-ready c =
    c.no_value.ensures.ready c.holds.new.world (IsReady-goes _ _ _ c.args.world.now c.holds.new.world c.requires.ready c.holds.ensures.shape c.holds.ensures.faithful)

pub returns-in-Ok-None-clause-law : goal.returns-in-Ok-None-clause-law
returns-in-Ok-None-clause-law c =
    let m = c.args.machine.now in
    let w = c.args.world.now in
    let u = c.holds.new.world in
    let ts = does.tests c.args.rest.now in
    let left = rw c.in-Ok-None.field-0-is at c.in-Ok-None.ensures.special in
    goes_ok m c.test_by_method.new.machine w u c.test_by_method.result (with_test c.args.test c.args.a ts c.args.b)
    (λ frame s. on_value (special_called CONTAINS c.args.b (c.args.a ∷ []) frame s) (λ r s. with_contained c.args.test c.args.b ts r frame s))
    (λ base. test_left base m.units.now m.frame c.args.test c.args.a c.args.b ts (state_of w) (state_of u) left) c.test_by_method.ensures.law

pub returns-in-Ok-None-clause-ready : goal.returns-in-Ok-None-clause-ready
returns-in-Ok-None-clause-ready c =
    let u = c.holds.new.world in
    let side = c.args.machine.now.frame.side in
    let shape = c.holds.ensures.shape in
    c.test_by_method.ensures.ready u (IsReady-goes _ _ _ c.args.world.now u c.requires.ready shape c.holds.ensures.faithful) (shape.fit side c.args.a c.requires.a) (shape.fit side c.args.b c.requires.b)

pub returns-in-Ok-Some-clause-less : goal.returns-in-Ok-Some-clause-less
returns-in-Ok-Some-clause-less c = grind (arith, weights.called_least)
