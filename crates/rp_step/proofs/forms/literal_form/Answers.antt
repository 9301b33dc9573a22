use Rattle.std.proofs.Common.{subst, sym}
use Rattle.rp_engine.proofs.Moves.{end_ok, goes_ok}
use Rattle.rp_engine.proofs.Worlds.{IsReady-stored}
use Rattle.rp_engine.specs.Law.{frame_in}
use Rattle.rp_meaning.specs.Expressions as forms
use Rattle.rp_ops.specs.Outcome.{gives}
use Rattle.rp_store.specs.Kept.{IsFit}
use Rattle.rp_step.proofs.forms.literal_form.Goals as goal

pub returns-in-Ok-clause-law : goal.returns-in-Ok-clause-law
returns-in-Ok-clause-law c =
    let m = c.args.machine.now in
    goes_ok m c.back.new.self c.args.world.now c.literal.new.world c.back.result (forms.constant c.args.value) (λ f s. gives c.in-Ok.value s)
    (λ base. c.in-Ok.ensures.law (frame_in base m)) c.back.ensures.law

pub returns-in-Ok-clause-ready : goal.returns-in-Ok-clause-ready
returns-in-Ok-clause-ready c =
    let v = c.literal.new.world in
    c.back.ensures.ready v (IsReady-stored _ _ _ c.args.world.now v c.requires.ready c.literal.ensures.store c.literal.ensures.faithful)
    (subst (IsFit v.store.heap c.args.machine.now.frame.side) (sym c.in-Ok.ensures.same) (c.requires.fit v.store.heap))

pub returns-in-Err-clause-law : goal.returns-in-Err-clause-law
returns-in-Err-clause-law c =
    let m = c.args.machine.now in
    end_ok m c.no_value.new.self c.args.world.now c.literal.new.world c.no_value.result (forms.constant c.args.value) c.in-Err.end
    (λ base. c.in-Err.ensures.law (frame_in base m)) c.no_value.ensures.law

pub returns-in-Err-clause-ready : goal.returns-in-Err-clause-ready
returns-in-Err-clause-ready c =
    let v = c.literal.new.world in
    c.no_value.ensures.ready v (IsReady-stored _ _ _ c.args.world.now v c.requires.ready c.literal.ensures.store c.literal.ensures.faithful)
