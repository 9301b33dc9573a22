use Rattle.rp_store.proofs.HeapLemmas.{kept-view, same-view}
use Rattle.rp_store.proofs.Shapes.{Allows-same}
use Rattle.rp_store.proofs.store.Store.seek.Goals as goal

pub returns : goal.returns
returns c =
    same-view c.self.inside.slots.items c.self.inside.used c.self.inside.limit c.args.self.now c.self.view_is c.args.at c.index_mut.result.now c.index_mut.ensures.value
    c.seek.new.self c.seek.ensures

pub invariant_of-self : goal.invariant_of-self
invariant_of-self c = (
  c.self.invariant.0,
  kept-view c.self.inside.slots.items c.self.inside.used c.self.inside.limit c.args.self.now c.self.view_is c.args.at c.index_mut.result.now c.index_mut.ensures.value
      c.seek.new.self (λ k. k) c.seek.ensures (Allows-same c.args.self.now.heap c.args.at) c.self.invariant.1,
)
