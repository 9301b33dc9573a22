use Rattle.std.proofs.Common.{refl}
use Rattle.rp_store.specs.Writers.{pushed}
use Rattle.rp_store.proofs.HeapLemmas.{grown-view, kept-view, not_over, on_err, same-view, shape-view}
use Rattle.rp_store.proofs.Shapes.{Allows-pushed, Allows-same}
use Rattle.rp_store.proofs.store.Store.push.Goals as goal

pub returns-in_err-push-clause-same : goal.returns-in_err-push-clause-same
returns-in_err-push-clause-same c =
    on_err c.from_residual.result _ (same-view c.self.inside.slots.items c.self.inside.used c.self.inside.limit c.args.self.now c.self.view_is c.args.at c.index_mut.result.now c.index_mut.ensures.value
    c.push.new.self c.in_err-push.ensures.same)

pub returns-clause-pushed : goal.returns-clause-pushed
returns-clause-pushed c =
    grown-view c.self.inside.slots.items c.self.inside.used c.self.inside.limit c.args.self.now c.self.view_is c.args.at c.index_mut.result.now c.index_mut.ensures.value
    c.push.new.self (pushed c.args.value) 1 1 c.in_ok-push.ensures.ok refl

pub invariant_of-self : goal.invariant_of-self
invariant_of-self c = (
  c.self.invariant.0,
  kept-view c.self.inside.slots.items c.self.inside.used c.self.inside.limit c.args.self.now c.self.view_is c.args.at c.index_mut.result.now c.index_mut.ensures.value
      c.push.new.self (λ k. k) c.in_err-push.ensures.same (Allows-same c.args.self.now.heap c.args.at) c.self.invariant.1,
)

pub returns-in_err-push-clause-shape : goal.returns-in_err-push-clause-shape
returns-in_err-push-clause-shape c = shape-view c.self.inside.slots.items c.self.inside.used c.self.inside.limit c.args.self.now c.self.view_is c.args.at c.index_mut.result.now c.index_mut.ensures.value
    c.push.new.self (λ k. k) c.in_err-push.ensures.same (Allows-same c.args.self.now.heap c.args.at)

pub invariant_of-self-2 : goal.invariant_of-self-2
invariant_of-self-2 c = (
  not_over c.self.inside.slots.items c.self.inside.used c.self.inside.limit c.args.self.now c.self.view_is c.is_over.result 1 1 c.if-is_over.false c.is_over.ensures.over refl,
  kept-view c.self.inside.slots.items c.self.inside.used c.self.inside.limit c.args.self.now c.self.view_is c.args.at c.index_mut.result.now c.index_mut.ensures.value
      c.push.new.self (pushed c.args.value) c.in_ok-push.ensures.ok (Allows-pushed c.args.self.now.heap c.args.at c.args.value c.requires.value) c.self.invariant.1,
)

pub returns-clause-shape : goal.returns-clause-shape
returns-clause-shape c = shape-view c.self.inside.slots.items c.self.inside.used c.self.inside.limit c.args.self.now c.self.view_is c.args.at c.index_mut.result.now c.index_mut.ensures.value
    c.push.new.self (pushed c.args.value) c.in_ok-push.ensures.ok (Allows-pushed c.args.self.now.heap c.args.at c.args.value c.requires.value)
