use Rattle.std.proofs.Common.{subst, sym}
use Rattle.rp_store.specs.Object.{content_of}
use Rattle.rp_store.specs.Parts.{IsClass}
use Rattle.rp_store.specs.declared.object.Object.{Object}
use Rattle.std.proofs.Common.{Option}
use Rattle.std.specs.Prelude.{IsSomeAnd}
use Rattle.rp_store.specs.Object.{Content}
use Rattle.rp_step.proofs.CalledObjects.{HasNoCode, function_callable, uncalled}
use Rattle.rp_step.proofs.callables.called_at.Goals as goal

pub returns-in-Function : goal.returns-in-Function
returns-in-Function c = function_callable c.args.store.now.heap c.args.at c.callable_with.result c.callable_with.ensures

pub returns-in-Class : goal.returns-in-Class
returns-in-Class c =
    let class = subst (λ (o : Object). IsClass (content_of o)) (sym c.in-Class.is) tt in
    (subst (λ (x : Option Content). IsSomeAnd x IsClass) (sym c.object.ensures.content) class, c.owner.ensures)

pub returns-in-List : goal.returns-in-List
returns-in-List c =
    uncalled c.args.store.now.heap c.args.at (content_of c.object.result.now) c.object.ensures.content (subst (λ (o : Object). HasNoCode (content_of o)) (sym c.in-List.is) tt)

pub returns-in-Tuple : goal.returns-in-Tuple
returns-in-Tuple c =
    uncalled c.args.store.now.heap c.args.at (content_of c.object.result.now) c.object.ensures.content (subst (λ (o : Object). HasNoCode (content_of o)) (sym c.in-Tuple.is) tt)

pub returns-in-Dict : goal.returns-in-Dict
returns-in-Dict c =
    uncalled c.args.store.now.heap c.args.at (content_of c.object.result.now) c.object.ensures.content (subst (λ (o : Object). HasNoCode (content_of o)) (sym c.in-Dict.is) tt)

pub returns-in-Scope : goal.returns-in-Scope
returns-in-Scope c =
    uncalled c.args.store.now.heap c.args.at (content_of c.object.result.now) c.object.ensures.content (subst (λ (o : Object). HasNoCode (content_of o)) (sym c.in-Scope.is) tt)
