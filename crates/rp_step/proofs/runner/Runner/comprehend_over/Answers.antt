use Rattle.rp_access.specs.Spots.{cursor_at}
use Rattle.rp_engine.proofs.Doings.{always}
use Rattle.rp_engine.proofs.Worlds.{IsReady-goes}
use Rattle.rp_engine.specs.ComprehensionSteps.{comprehension_in, comprehension_over, does_made}
use Rattle.rp_engine.specs.Does as does
use Rattle.rp_targets.proofs.Comprehending.{scope_ends, scope_gives}
use Rattle.rp_step.proofs.InnerTurns.{gets_as, gets_end, runs_on}
use Rattle.rp_step.proofs.Runs.{runnable_goes}
use Rattle.rp_step.proofs.RunWeights.{later_under, none_under}
use Rattle.rp_step.specs.RunLoads.{waits}
use Rattle.rp_step.proofs.runner.Runner.comprehend_over.Goals as goal

pub returns-in-Ok-clause-law : goal.returns-in-Ok-clause-law
returns-in-Ok-clause-law c =
    let r = c.args.self.now in
    let w = c.args.world.now in
    let u = c.inner_scope.new.world in
    let p = c.args.parts in
    let x = does.clause p.first.now in
    let cs = does.clauses p.behind.now in
    let d = cursor_at c.args.value c.args.spot in
    gets_as r c.comprehend_in.new.self w u c.comprehend_in.new.world c.comprehend_in.result (comprehension_over p.block x cs (does_made p.made) d)
    (comprehension_in p.block x cs (does_made p.made) d c.in-Ok.scope) (scope_gives r.machine w u p.block x cs (does_made p.made) d c.in-Ok.scope c.in-Ok.ensures.law)
    c.comprehend_in.ensures.law

pub comprehend_in-requires-clause-ready : goal.comprehend_in-requires-clause-ready
comprehend_in-requires-clause-ready c =
    let w = c.args.world.now in
    let u = c.inner_scope.new.world in
    let shape = c.inner_scope.ensures.shape in
    runs_on c.args.self.now w u c.requires.ready shape (IsReady-goes _ _ _ w u c.requires.ready.machine shape c.inner_scope.ensures.faithful)

pub comprehend_in-requires-clause-value : goal.comprehend_in-requires-clause-value
comprehend_in-requires-clause-value c = c.inner_scope.ensures.shape.fit c.args.self.now.machine.frame.side c.args.value c.requires.value

pub returns-in-Err-clause-law : goal.returns-in-Err-clause-law
returns-in-Err-clause-law c =
    let r = c.args.self.now in
    let w = c.args.world.now in
    let u = c.inner_scope.new.world in
    let p = c.args.parts in
    let x = does.clause p.first.now in
    let cs = does.clauses p.behind.now in
    let d = cursor_at c.args.value c.args.spot in
    gets_end r c.no_value.new.self w u c.no_value.result (comprehension_over p.block x cs (does_made p.made) d) c.in-Err.end
    (scope_ends r.machine w u p.block x cs (does_made p.made) d c.in-Err.end c.in-Err.ensures.law) c.no_value.ensures.law

pub returns-in-Err-clause-ready : goal.returns-in-Err-clause-ready
returns-in-Err-clause-ready c =
    let w = c.args.world.now in
    let u = c.inner_scope.new.world in
    let shape = c.inner_scope.ensures.shape in
    always c.no_value.result _ (runnable_goes c.args.self.now c.no_value.new.self w u c.requires.ready
    (c.no_value.ensures.ready u (IsReady-goes _ _ _ w u c.requires.ready.machine shape c.inner_scope.ensures.faithful)) shape)

pub returns-in-Ok-clause-less : goal.returns-in-Ok-clause-less
returns-in-Ok-clause-less c =
    later_under c.comprehend_in.result 4 c.args.self.now c.comprehend_in.new.self c.args.world.now c.inner_scope.new.world c.comprehend_in.new.world c.inner_scope.ensures.fewer c.comprehend_in.ensures.less

pub returns-in-Err-clause-less : goal.returns-in-Err-clause-less
returns-in-Err-clause-less c =
    let r = c.args.self.now in
    none_under c.no_value.result r.machine c.no_value.new.self (waits r.callers.items) c.args.world.now c.inner_scope.new.world c.no_value.ensures.less
