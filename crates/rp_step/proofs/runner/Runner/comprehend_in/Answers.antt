use Rattle.std.proofs.Common.{ap, sym, subst, ◌∙◌}
use Rattle.rp_access.specs.Moment.{state_of}
use Rattle.rp_access.specs.Spots.{cursor_at}
use Rattle.rp_base.specs.declared.value.Oid.{Oid}
use Rattle.rp_base.specs.declared.value.Value.TheVariants as value
use Rattle.rp_engine.proofs.Doings.{always}
use Rattle.rp_engine.proofs.Worlds.{IsReady-goes}
use Rattle.rp_engine.specs.ComprehensionSteps.{comprehension_in, does_made, turns_within}
use Rattle.rp_engine.specs.Does as does
use Rattle.rp_engine.specs.Law.{frame_in}
use Rattle.rp_store.specs.Kept.{IsFit}
use Rattle.rp_targets.proofs.Comprehending.{result_ends, result_gives, result_holds}
use Rattle.rp_step.proofs.InnerTurns.{gets_as, gets_end, runs_on}
use Rattle.rp_step.proofs.Runs.{runnable_goes}
use Rattle.rp_step.proofs.RunWeights.{later_under, none_under}
use Rattle.rp_step.specs.RunLoads.{waits}
use Rattle.rp_step.proofs.runner.Runner.comprehend_in.Goals as goal

pub returns-in-Ok-clause-law : goal.returns-in-Ok-clause-law
returns-in-Ok-clause-law c =
    let r = c.args.self.now in
    let w = c.args.world.now in
    let u = c.new_result.new.world in
    let p = c.args.parts in
    let x = does.clause p.first.now in
    let cs = does.clauses p.behind.now in
    let d = cursor_at c.args.value c.args.spot in
    gets_as r c.fill.new.self w u c.fill.new.world c.fill.result (comprehension_in p.block x cs (does_made p.made) d c.args.scope)
    (turns_within p.block x cs (does_made p.made).1 d c.args.scope c.place_at.result)
    (λ base. result_gives r.machine w u p.block x cs p.made d c.args.scope c.in-Ok.display c.in-Ok.ensures.law base
    ∙ ap (λ at. turns_within p.block x cs (does_made p.made).1 d c.args.scope at (frame_in base r.machine) (state_of u)) (sym c.place_at.ensures)) c.fill.ensures.law

pub fill-requires-clause-ready : goal.fill-requires-clause-ready
fill-requires-clause-ready c =
    let w = c.args.world.now in
    let u = c.new_result.new.world in
    let shape = c.new_result.ensures.shape in
    runs_on c.args.self.now w u c.requires.ready shape (IsReady-goes _ _ _ w u c.requires.ready.machine shape c.new_result.ensures.faithful)

pub fill-requires-clause-value : goal.fill-requires-clause-value
fill-requires-clause-value c = c.new_result.ensures.shape.fit c.args.self.now.machine.frame.side c.args.value c.requires.value

pub fill-requires-clause-scope : goal.fill-requires-clause-scope
fill-requires-clause-scope c = c.new_result.ensures.shape.scope c.args.self.now.machine.frame.side c.args.scope c.requires.scope

pub fill-requires-clause-place : goal.fill-requires-clause-place
fill-requires-clause-place c =
    let side = c.args.self.now.machine.frame.side in
    let u = c.new_result.new.world in
    subst (λ (at : Oid). IsFit u.store.heap side (value.Ref at)) (sym c.place_at.ensures)
    (result_holds c.args.parts.made side (state_of c.args.world.now) (state_of u) c.in-Ok.display (IsFit u.store.heap side) c.in-Ok.ensures.law c.in-Ok.ensures.fit)

pub returns-in-Err-clause-law : goal.returns-in-Err-clause-law
returns-in-Err-clause-law c =
    let r = c.args.self.now in
    let w = c.args.world.now in
    let u = c.new_result.new.world in
    let p = c.args.parts in
    let x = does.clause p.first.now in
    let cs = does.clauses p.behind.now in
    let d = cursor_at c.args.value c.args.spot in
    gets_end r c.no_value.new.self w u c.no_value.result (comprehension_in p.block x cs (does_made p.made) d c.args.scope) c.in-Err.end
    (result_ends r.machine w u p.block x cs p.made d c.args.scope c.in-Err.end c.in-Err.ensures.law) c.no_value.ensures.law

pub returns-in-Err-clause-ready : goal.returns-in-Err-clause-ready
returns-in-Err-clause-ready c =
    let w = c.args.world.now in
    let u = c.new_result.new.world in
    let shape = c.new_result.ensures.shape in
    always c.no_value.result _ (runnable_goes c.args.self.now c.no_value.new.self w u c.requires.ready
    (c.no_value.ensures.ready u (IsReady-goes _ _ _ w u c.requires.ready.machine shape c.new_result.ensures.faithful)) shape)

pub returns-in-Ok-clause-less : goal.returns-in-Ok-clause-less
returns-in-Ok-clause-less c =
    later_under c.fill.result 4 c.args.self.now c.fill.new.self c.args.world.now c.new_result.new.world c.fill.new.world c.new_result.ensures.fewer c.fill.ensures.less

pub returns-in-Err-clause-less : goal.returns-in-Err-clause-less
returns-in-Err-clause-less c =
    let r = c.args.self.now in
    none_under c.no_value.result r.machine c.no_value.new.self (waits r.callers.items) c.args.world.now c.new_result.new.world c.no_value.ensures.less
