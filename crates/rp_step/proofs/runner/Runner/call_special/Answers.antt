use Rattle.std.proofs.Common.{Bool, Option, sym, ◌∙◌, subst}
use Rattle.std.specs.Prelude.{IfSome}
use Rattle.std.specs.Str.{chars}
use Rattle.rp_base.specs.declared.value.Oid.{Oid}
use Rattle.rp_base.specs.declared.value.Value.TheVariants as value
use Rattle.rp_store.specs.Kept.{IsSound}
use Rattle.rp_engine.proofs.Doings.{always}
use Rattle.rp_step.proofs.SpecialCalls.{special_asked, special_refused}
use Rattle.rp_step.proofs.RunWeights.{refused_under}
use Rattle.rp_step.proofs.runner.Runner.call_special.Goals as goal

pub returns-in-None-clause-law : goal.returns-in-None-clause-law
unfolding chars
returns-in-None-clause-law c =
    special_refused c.args.self.now c.args.world.now c.args.world.now c.refuse.new.self c.refuse.result c.args.count c.args.name (sym c.callee.ensures.value ∙ c.in-None.is) c.refuse.ensures.law

pub returns-in-None-clause-ready : goal.returns-in-None-clause-ready
returns-in-None-clause-ready c = always c.refuse.result _ (c.refuse.ensures.ready c.args.world.now c.requires.ready)

pub returns-in-Some-clause-law : goal.returns-in-Some-clause-law
returns-in-Some-clause-law c =
    special_asked c.args.self.now c.args.world.now c.call_method.new.world c.call_method.new.self c.call_method.result c.args.count c.args.name (c.in-Some.at, c.in-Some.lent)
    (sym c.callee.ensures.value ∙ c.in-Some.is) c.call_method.ensures.law

pub call_method-requires-clause-sound : goal.call_method-requires-clause-sound
call_method-requires-clause-sound c =
    let w = c.args.world.now in
    subst (λ (o : Option (Oid × Bool)). IfSome o (λ (p : Oid × Bool). IsSound w.store.heap (value.Ref p.0))) c.in-Some.is (c.callee.ensures.sound w c.requires.ready)

pub returns-in-None-clause-less : goal.returns-in-None-clause-less
returns-in-None-clause-less c = refused_under c.refuse.result c.args.self.now c.refuse.new.self c.args.world.now c.args.world.now c.refuse.ensures.less
