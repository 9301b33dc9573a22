use Rattle.std.proofs.Common.{ap, ◌∙◌}
use Rattle.rp_access.specs.Spots.{cursor_at}
use Rattle.rp_engine.proofs.Doings.{always}
use Rattle.rp_engine.specs.ComprehensionSteps.{does_made}
use Rattle.rp_engine.specs.Does as does
use Rattle.rp_meaning.specs.Expressions as forms
use Rattle.rp_step.proofs.InnerTurns.{fills_ready, turns_made, within_fit, within_ready}
use Rattle.rp_engine.specs.declared.machine.Machine.{Machine}
use Rattle.rp_step.specs.declared.callers.Caller.{Caller}
use Rattle.rp_step.proofs.RunWeights.{turns_under}
use Rattle.rp_step.proofs.runner.Runner.fill.Goals as goal

pub returns-clause-law : goal.returns-clause-law
returns-clause-law c =
    let r = c.args.self.now in
    let p = c.args.parts in
    let x = does.clause p.first.now in
    let cs = does.clauses p.behind.now in
    turns_made r c.args.world.now c.first_turn.new.world c.first_turn.new.machine p.block x cs (does_made p.made).1 (cursor_at c.args.value c.args.spot) c.args.scope c.args.at
    c.first_turn.result c.keep.new.self.callers.items c.in_ok-frame.frame c.keep.new.self.machine c.suspend-caller.result
    (does.target c.clause_turn-each.result.target.now) (does.inside c.clause_turn-each.result.inside)
    c.in_ok-frame.ensures c.suspend-caller.ensures.caller (c.keep.ensures.machine ∙ c.suspend-caller.ensures.left) c.in_ok-keep.ensures.kept c.clause_turn-each.ensures.target
    (c.clause_turn-each.ensures.inside ∙ ap (λ add. forms.where_all x.tests (forms.nest cs add)) c.adds_at-adds.ensures) c.first_turn.ensures.law

pub first_turn-requires-clause-ready : goal.first_turn-requires-clause-ready
first_turn-requires-clause-ready c =
    within_ready c.args.self.now.machine c.keep.new.self.machine c.in_ok-frame.frame c.args.parts.block c.args.scope c.args.world.now c.in_ok-frame.ensures
    (c.keep.ensures.machine ∙ c.suspend-caller.ensures.left) c.requires.ready.machine c.requires.scope

pub first_turn-requires-clause-value : goal.first_turn-requires-clause-value
first_turn-requires-clause-value c =
    within_fit c.args.self.now.machine c.keep.new.self.machine c.in_ok-frame.frame c.args.parts.block c.args.scope c.args.world.now c.in_ok-frame.ensures
    (c.keep.ensures.machine ∙ c.suspend-caller.ensures.left) c.args.value c.requires.value

pub returns-clause-ready : goal.returns-clause-ready
returns-clause-ready c =
    let both = fills_ready c.args.self.now c.first_turn.new.machine c.args.world.now c.first_turn.new.world c.keep.new.self.callers.items c.suspend-caller.result c.args.at
    c.suspend-caller.ensures.caller c.in_ok-keep.ensures.kept c.requires.ready c.requires.place c.first_turn.ensures.shape c.first_turn.ensures.ready in
    always c.first_turn.result _ (record { machine = both.0; callers = both.1 })

pub returns-clause-less : goal.returns-clause-less
returns-clause-less c =
    let r = c.args.self.now in
    turns_under c.first_turn.result c.first_turn.new.machine c.keep.new.self.machine c.keep.new.self.callers.items r.callers.items r.machine.tasks c.suspend-caller.result
    c.args.world.now c.first_turn.new.world (ap (λ (c : Caller). c.tasks) c.suspend-caller.ensures.caller)
    (ap (λ (m : Machine). m.tasks) (c.keep.ensures.machine ∙ c.suspend-caller.ensures.left)) c.in_ok-keep.ensures.kept c.first_turn.ensures.less
