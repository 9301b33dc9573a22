use Rattle.std.proofs.Common.{ap, codes, refl, subst}
use Rattle.std.specs.Str.{chars}
use Rattle.rp_base.specs.declared.kind.Kind.TheVariants.{TypeError}
use Rattle.rp_access.specs.Moment.{state_of}
use Rattle.rp_ops.specs.Outcome.{on_value}
use Rattle.rp_engine.proofs.Doings.{always}
use Rattle.rp_engine.specs.DefinitionSteps.{called_by, got_by}
use Rattle.rp_engine.specs.HandSteps.{held_by, size_of}
use Rattle.rp_engine.specs.Law.{frame_in}
use Rattle.rp_step.proofs.Entries.{calls_it, refused_ok}
use Rattle.rp_step.proofs.Instancing.{calls_class}
use Rattle.rp_step.specs.Callables.{IsCallableAt, IsCalledAt, IsUncalledAt}
use Rattle.rp_step.specs.declared.callables.Called.{Called}
use Rattle.std.specs.Prelude.{Some}
use Rattle.rp_step.proofs.RunWeights.{refused_under}
use Rattle.rp_step.proofs.runner.Runner.call_object.Goals as goal

pub returns-in-Code-clause-law : goal.returns-in-Code-clause-law
returns-in-Code-clause-law c =
    let r = c.args.self.now in
    let w = c.args.world.now in
    let found : IsCallableAt w.store.heap c.args.at c.in-Code.callable =
    subst (λ (o : Called). IsCalledAt w.store.heap c.args.at o) c.in-Code.is c.in_ok-callable.ensures in
    calls_it r.machine w c.call_function.new.world r.callers.items (size_of c.args.hand) (held_by c.args.hand r.machine.values) c.call_function.new.self c.call_function.result c.args.at c.args.lent c.in-Code.callable
    found c.call_function.ensures.law

pub call_function-requires-clause-function : goal.call_function-requires-clause-function
call_function-requires-clause-function c =
    let w = c.args.world.now in
    let found : IsCallableAt w.store.heap c.args.at c.in-Code.callable =
    subst (λ (o : Called). IsCalledAt w.store.heap c.args.at o) c.in-Code.is c.in_ok-callable.ensures in
    found.function

pub call_function-requires-clause-receiver : goal.call_function-requires-clause-receiver
call_function-requires-clause-receiver c =
    let w = c.args.world.now in
    let found : IsCallableAt w.store.heap c.args.at c.in-Code.callable =
    subst (λ (o : Called). IsCalledAt w.store.heap c.args.at o) c.in-Code.is c.in_ok-callable.ensures in
    found.sound

pub instance_of-requires-clause-class : goal.instance_of-requires-clause-class
instance_of-requires-clause-class c = (subst (λ (o : Called). IsCalledAt c.args.world.now.store.heap c.args.at o) c.in-Class.is c.in_ok-callable.ensures).0

pub returns-in-Class-clause-law : goal.returns-in-Class-clause-law
returns-in-Class-clause-law c =
    let w = c.args.world.now in
    let class = subst (λ (o : Called). IsCalledAt w.store.heap c.args.at o) c.in-Class.is c.in_ok-callable.ensures in
    calls_class c.args.self.now c.instance_of.new.self w c.instance_of.new.world c.args.hand c.args.at c.args.lent c.instance_of.result c.in-Class.owner
    class.0 class.1 c.instance_of.ensures.law

pub returns-in-Nothing-clause-law : goal.returns-in-Nothing-clause-law
unfolding chars
returns-in-Nothing-clause-law c =
    let r = c.args.self.now in
    let w = c.args.world.now in
    let a = held_by c.args.hand r.machine.values in
    let none : IsUncalledAt w.store.heap c.args.at = subst (λ (o : Called). IsCalledAt w.store.heap c.args.at o) c.in-Nothing.is c.in_ok-callable.ensures in
    refused_ok r.machine w r.callers.items (size_of c.args.hand) c.refuse.new.self c.refuse.result TypeError (codes "call")
    (λ base. called_by (Some (c.args.at, c.args.lent)) a (frame_in base r.machine) (state_of w))
    (λ base. ap (λ o. on_value o (λ x s. got_by c.args.lent x (frame_in base r.machine) s)) (none a (frame_in base r.machine) (state_of w) refl)) c.refuse.ensures.law

pub returns-in-Nothing-clause-ready : goal.returns-in-Nothing-clause-ready
returns-in-Nothing-clause-ready c = always c.refuse.result _ (c.refuse.ensures.ready c.args.world.now c.requires.ready)

pub returns-in-Nothing-clause-less : goal.returns-in-Nothing-clause-less
returns-in-Nothing-clause-less c = refused_under c.refuse.result c.args.self.now c.refuse.new.self c.args.world.now c.args.world.now c.refuse.ensures.less
