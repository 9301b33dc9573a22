use Rattle.rp_meaning.specs.Expressions as forms
use Rattle.rp_meaning.specs.Frame.{Meaning}
use Rattle.rp_ops.specs.Outcome.{on_value}
use Rattle.rp_tree.specs.declared.expr.Arg.TheViews.{out-Clause, out-Walk}
use Rattle.std.proofs.Common.{◌∷◌}
use Rattle.rp_targets.proofs.ComprehensionEquations.{clause_of}
use Rattle.rp_targets.proofs.Comprehending.{comprehension_ends, comprehension_gives}
use Rattle.rp_engine.proofs.Moves.{end_ok, goes_ok}
use Rattle.rp_engine.specs.ComprehensionSteps.{comprehension_of, does_made}
use Rattle.rp_engine.specs.Does as does
use Rattle.rp_engine.proofs.Worlds.{IsReady-stored, shape_stored}
use Rattle.rp_targets.proofs.comprehensions.begin_comprehension.Goals as goal

pub returns-in-Ok-clause-law : goal.returns-in-Ok-clause-law
returns-in-Ok-clause-law c =
    let m = c.args.machine.now in
    let w = c.args.world.now in
    let u = c.take_step.new.world in
    let b = c.args.parts.block in
    let x = c.args.parts.first.now in
    let cs = does.clauses c.args.parts.behind.now in
    let r = does_made c.args.parts.made in
    let of : Meaning = does.expr (out-Walk (out-Clause x).walk).of in
    goes_ok m c.wait.new.self w u c.wait.result (forms.comprehension b (does.clause x ∷ cs) r.0 r.1)
    (λ f s. on_value (of f s) (λ v s. comprehension_of b (does.clause x) cs r v f s))
    (comprehension_gives m w u b (does.clause x) cs r of (clause_of x) c.in-Ok.ensures.law) c.wait.ensures.law

pub returns-in-Err-clause-law : goal.returns-in-Err-clause-law
returns-in-Err-clause-law c =
    let m = c.args.machine.now in
    let w = c.args.world.now in
    let u = c.take_step.new.world in
    let b = c.args.parts.block in
    let x = c.args.parts.first.now in
    let cs = does.clauses c.args.parts.behind.now in
    let r = does_made c.args.parts.made in
    end_ok m c.no_value.new.self w u c.no_value.result (forms.comprehension b (does.clause x ∷ cs) r.0 r.1) c.in-Err.end
    (comprehension_ends m w u b (does.clause x) cs r c.in-Err.end c.in-Err.ensures.law) c.no_value.ensures.law

pub returns-in-Ok-clause-ready : goal.returns-in-Ok-clause-ready
returns-in-Ok-clause-ready c = c.wait.ensures.ready c.take_step.new.world (IsReady-stored _ _ _ c.args.world.now c.take_step.new.world c.requires.ready c.take_step.ensures.store (c.take_step.ensures.faithful c.requires.ready.faithful))

pub returns-in-Ok-clause-shape : goal.returns-in-Ok-clause-shape
returns-in-Ok-clause-shape c = shape_stored c.args.world.now.store c.take_step.new.world.store c.take_step.ensures.store

pub returns-in-Err-clause-ready : goal.returns-in-Err-clause-ready
returns-in-Err-clause-ready c = c.no_value.ensures.ready c.take_step.new.world (IsReady-stored _ _ _ c.args.world.now c.take_step.new.world c.requires.ready c.take_step.ensures.store (c.take_step.ensures.faithful c.requires.ready.faithful))

pub returns-in-Err-clause-shape : goal.returns-in-Err-clause-shape
returns-in-Err-clause-shape c = shape_stored c.args.world.now.store c.take_step.new.world.store c.take_step.ensures.store
