use Rattle.std.proofs.Common.{Some, ◌∙◌, ap, subst, sym}
use Rattle.rp_base.specs.declared.value.Value.{Value}
use Rattle.rp_store.specs.Object as object
use Rattle.rp_store.specs.declared.object.Callee.{Callee}
use Rattle.rp_step.proofs.CalledObjects.{HasNoCode, bound_callable, uncalled}
use Rattle.rp_step.specs.Callables.{IsCallWith}
use Rattle.rp_step.proofs.callables.bound_at.Goals as goal

pub returns-in_ok-receiver-in-Function : goal.returns-in_ok-receiver-in-Function
returns-in_ok-receiver-in-Function c =
    let heap = c.args.store.now.heap in
    bound_callable heap c.args.at c.in-Function.function c.args.receiver.now c.callable_with.result
    (c.requires.method ∙ ap (λ (x : Callee). Some (object.method c.args.receiver.now x)) c.in-Function.is)
    (subst (λ (v : Value). IsCallWith heap c.in-Function.function (Some v) c.callable_with.result) c.in_ok-receiver-in-Function.ensures c.callable_with.ensures)

pub returns-in-Native : goal.returns-in-Native
returns-in-Native c =
    uncalled c.args.store.now.heap c.args.at (object.method c.args.receiver.now c.args.callee.now) c.requires.method
    (subst (λ (x : Callee). HasNoCode (object.method c.args.receiver.now x)) (sym c.in-Native.is) tt)
