use Rattle.std.proofs.Common.{ℕ, Err, drop, ap, subst, ◌∙◌}
use Rattle.rp_access.specs.Calling.{IsCallRefused, IsCodeLeft}
use Rattle.rp_access.specs.Moment.{state_of}
use Rattle.rp_base.specs.declared.value.Value.{Value}
use Rattle.rp_frame.specs.Top.{top}
use Rattle.rp_expressions.proofs.Callings.{sound_under}
use Rattle.rp_expressions.proofs.Spreads.{named_asks, named_refused}
use Rattle.rp_engine.proofs.Worlds.{IsReady-goes}
use Rattle.rp_engine.specs.Does as does
use Rattle.rp_expressions.proofs.named_arguments.call_named.Goals as goal

pub ask_named-requires-clause-f : goal.ask_named-requires-clause-f
ask_named-requires-clause-f c =
    sound_under c.args.machine.now.units.now c.args.machine.now.frame _ c.args.machine.now.values c.args.world.now c.under.result.now c.under.ensures c.requires.ready

pub returns-in-Ok-clause-law : goal.returns-in-Ok-clause-law
returns-in-Ok-clause-law c =
    let w = c.args.world.now in
    let u = c.ask_named.new.world in
    named_asks c.args.machine.now c.wait.new.self w u c.wait.result c.args.hand (does.trailers c.args.rest.now)
    (subst (λ (f : Value). IsCodeLeft f (state_of w) (state_of u)) (c.under.ensures ∙ ap (λ (j : ℕ). top (drop j c.args.machine.now.values)) c.size.ensures) c.in-Ok.ensures.left) c.wait.ensures.law

pub returns-in-Ok-clause-ready : goal.returns-in-Ok-clause-ready
returns-in-Ok-clause-ready c =
    c.wait.ensures.ready c.ask_named.new.world (IsReady-goes _ _ _ c.args.world.now c.ask_named.new.world c.requires.ready c.ask_named.ensures.shape c.ask_named.ensures.faithful)

pub returns-clause-law : goal.returns-clause-law
returns-clause-law c =
    let w = c.args.world.now in
    let u = c.ask_named.new.world in
    named_refused c.args.machine.now c.without_hand.new.machine w u c.without_hand.result c.args.hand (does.trailers c.args.rest.now) c.in-Err.end
    (subst (λ (f : Value). IsCallRefused f (Err c.in-Err.end) (state_of w) (state_of u)) (c.under.ensures ∙ ap (λ (j : ℕ). top (drop j c.args.machine.now.values)) c.size.ensures) c.in-Err.ensures.refused) c.requires.named c.without_hand.ensures.law

pub returns-clause-ready : goal.returns-clause-ready
returns-clause-ready c =
    c.without_hand.ensures.ready c.ask_named.new.world (IsReady-goes _ _ _ c.args.world.now c.ask_named.new.world c.requires.ready c.ask_named.ensures.shape c.ask_named.ensures.faithful)
