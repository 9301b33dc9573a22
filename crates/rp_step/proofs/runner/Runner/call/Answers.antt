use Rattle.std.proofs.Common.{Bool, Option, drop, codes, sym, ◌∙◌, subst}
use Rattle.std.specs.Prelude.{IfSome}
use Rattle.std.specs.Str.{chars}
use Rattle.rp_base.specs.declared.kind.Kind.TheVariants.{TypeError}
use Rattle.rp_base.specs.declared.value.Oid.{Oid}
use Rattle.rp_base.specs.declared.value.Value.TheVariants as value
use Rattle.rp_frame.specs.Top.{top}
use Rattle.rp_store.specs.Kept.{IsSound}
use Rattle.rp_access.specs.Moment.{state_of}
use Rattle.rp_engine.proofs.Doings.{always}
use Rattle.rp_step.proofs.Entries.{asked_at, refused_ok, rock_refused}
use Rattle.rp_engine.specs.DefinitionSteps.{called}
use Rattle.rp_engine.specs.Law.{frame_in}
use Rattle.rp_engine.specs.HandSteps.{held_by, size_of}
use Rattle.rp_step.proofs.RunWeights.{refused_under}
use Rattle.rp_step.proofs.runner.Runner.call.Goals as goal

pub returns-in-None-clause-law : goal.returns-in-None-clause-law
unfolding chars
returns-in-None-clause-law c =
    let m = c.args.self.now.machine in
    let w = c.args.world.now in
    refused_ok m w c.args.self.now.callers.items (size_of c.args.hand) c.refuse.new.self c.refuse.result TypeError (codes "call")
    (λ base. called (top (drop (size_of c.args.hand) m.values)) (held_by c.args.hand m.values) (frame_in base m) (state_of w))
    (λ base. rock_refused m w (size_of c.args.hand) (held_by c.args.hand m.values) base (sym c.callee.ensures.value ∙ c.in-None.is)) c.refuse.ensures.law

pub returns-in-None-clause-ready : goal.returns-in-None-clause-ready
returns-in-None-clause-ready c = always c.refuse.result _ (c.refuse.ensures.ready c.args.world.now c.requires.ready)

pub returns-in-Some-clause-law : goal.returns-in-Some-clause-law
returns-in-Some-clause-law c =
    let m = c.args.self.now.machine in
    asked_at m c.args.world.now c.call_object.new.world c.args.self.now.callers.items (size_of c.args.hand) (held_by c.args.hand m.values) c.call_object.new.self c.call_object.result (c.in-Some.at, c.in-Some.lent)
    (sym c.callee.ensures.value ∙ c.in-Some.is) c.call_object.ensures.law

pub call_object-requires-clause-sound : goal.call_object-requires-clause-sound
call_object-requires-clause-sound c =
    let w = c.args.world.now in
    subst (λ (o : Option (Oid × Bool)). IfSome o (λ (p : Oid × Bool). IsSound w.store.heap (value.Ref p.0))) c.in-Some.is (c.callee.ensures.sound w c.requires.ready)

pub returns-in-None-clause-less : goal.returns-in-None-clause-less
returns-in-None-clause-less c = refused_under c.refuse.result c.args.self.now c.refuse.new.self c.args.world.now c.args.world.now c.refuse.ensures.less
