use Rattle.std.proofs.Common.{subst, sym}
use Rattle.rp_store.specs.Kept.{IsFit}
use Rattle.rp_engine.specs.Does as does
use Rattle.rp_engine.specs.declared.machine.Machine.{Machine}
use Rattle.rp_expressions.proofs.SpecialMoves.{contained_resumes}
use Rattle.rp_expressions.proofs.special_methods.after_contained.Goals as goal

pub truth-within-requires : goal.truth-within-requires
truth-within-requires c = record { sound = c.requires.value.0 }

pub returns-clause-law : goal.returns-clause-law
returns-clause-law c =
    contained_resumes c.args.machine.now c.by_test.new.machine c.by_test.result c.at_hand-b.new.self c.args.world.now c.args.test (does.tests c.args.rest.now) c.at_hand-b.result c.args.value
    c.holds_by.result c.truth-within.result c.at_hand-b.ensures.left c.at_hand-b.ensures.value c.holds_by.ensures c.truth-within.ensures c.by_test.ensures.law

pub returns-clause-ready : goal.returns-clause-ready
returns-clause-ready c =
    let w = c.args.world.now in
    c.by_test.ensures.ready w (c.at_hand-b.ensures.ready w c.requires.ready)
    (subst (λ (z : Machine). IsFit w.store.heap z.frame.side c.at_hand-b.result) (sym c.at_hand-b.ensures.left) (c.at_hand-b.ensures.fit w c.requires.ready))
