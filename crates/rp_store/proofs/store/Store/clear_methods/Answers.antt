use Rattle.rp_store.specs.Writers.{without_methods}
use Rattle.rp_store.proofs.HeapLemmas.{kept-view, shape-view, written-view}
use Rattle.rp_store.proofs.Shapes.{Allows-without_methods}
use Rattle.rp_store.proofs.store.Store.clear_methods.Goals as goal

pub returns-clause-done : goal.returns-clause-done
returns-clause-done c =
    written-view c.self.inside.slots.items c.self.inside.used c.self.inside.limit c.args.self.now c.self.view_is c.args.at c.index_mut.result.now c.index_mut.ensures.value
    c.clear_methods.new.self (without_methods) c.clear_methods.ensures

pub invariant_of-self : goal.invariant_of-self
invariant_of-self c = (
  c.self.invariant.0,
  kept-view c.self.inside.slots.items c.self.inside.used c.self.inside.limit c.args.self.now c.self.view_is c.args.at c.index_mut.result.now c.index_mut.ensures.value
      c.clear_methods.new.self (without_methods) c.clear_methods.ensures (Allows-without_methods c.args.self.now.heap c.args.at) c.self.invariant.1,
)

pub returns-clause-shape : goal.returns-clause-shape
returns-clause-shape c = shape-view c.self.inside.slots.items c.self.inside.used c.self.inside.limit c.args.self.now c.self.view_is c.args.at c.index_mut.result.now c.index_mut.ensures.value
    c.clear_methods.new.self (without_methods) c.clear_methods.ensures (Allows-without_methods c.args.self.now.heap c.args.at)
