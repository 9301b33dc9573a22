use Rattle.std.proofs.Common.{sym, subst, ap}
use Rattle.rp_access.specs.Spots.{cursor_at}
use Rattle.rp_engine.specs.ComprehensionSteps.{comprehension_over, does_made}
use Rattle.rp_engine.specs.Does as does
use Rattle.rp_engine.specs.declared.machine.Machine.{Machine}
use Rattle.rp_store.specs.Kept.{IsFit}
use Rattle.rp_step.proofs.InnerTurns.{gets_top}
use Rattle.rp_step.proofs.RunWeights.{over_under}
use Rattle.rp_step.proofs.runner.Runner.comprehend.Goals as goal

pub returns-clause-law : goal.returns-clause-law
returns-clause-law c =
    let p = c.args.parts in
    gets_top c.args.self.now c.comprehend_over.new.self c.args.world.now c.comprehend_over.new.world c.comprehend_over.result c.at_hand-value.new.self c.at_hand-value.result
    (λ v. comprehension_over p.block (does.clause p.first.now) (does.clauses p.behind.now) (does_made p.made) (cursor_at v c.args.spot))
    c.at_hand-value.ensures.value c.at_hand-value.ensures.left c.comprehend_over.ensures.law

pub comprehend_over-requires-clause-ready : goal.comprehend_over-requires-clause-ready
comprehend_over-requires-clause-ready c = record { machine = c.at_hand-value.ensures.ready c.args.world.now c.requires.ready.machine; callers = c.requires.ready.callers }

pub comprehend_over-requires-clause-value : goal.comprehend_over-requires-clause-value
comprehend_over-requires-clause-value c =
    let w = c.args.world.now in
    subst (λ (m : Machine). IsFit w.store.heap m.frame.side c.at_hand-value.result) (sym c.at_hand-value.ensures.left) (c.at_hand-value.ensures.fit w c.requires.ready.machine)

pub returns-clause-less : goal.returns-clause-less
returns-clause-less c =
    over_under c.comprehend_over.result 4 c.args.self.now c.comprehend_over.new.self c.at_hand-value.new.self c.args.world.now c.comprehend_over.new.world
    (ap (λ (m : Machine). m.tasks) c.at_hand-value.ensures.left) c.comprehend_over.ensures.less
