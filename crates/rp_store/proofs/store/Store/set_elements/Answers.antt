use Rattle.rp_store.specs.Writers.{with_elements}
use Rattle.rp_store.proofs.HeapLemmas.{kept-view, shape-view, written-view}
use Rattle.rp_store.proofs.Shapes.{Allows-elements}
use Rattle.rp_store.proofs.store.Store.set_elements.Goals as goal

pub returns-clause-done : goal.returns-clause-done
returns-clause-done c =
    written-view c.self.inside.slots.items c.self.inside.used c.self.inside.limit c.args.self.now c.self.view_is c.args.at c.index_mut.result.now c.index_mut.ensures.value
    c.set_elements.new.self (with_elements c.args.values.items) c.set_elements.ensures

pub invariant_of-self : goal.invariant_of-self
invariant_of-self c = (
  c.self.invariant.0,
  kept-view c.self.inside.slots.items c.self.inside.used c.self.inside.limit c.args.self.now c.self.view_is c.args.at c.index_mut.result.now c.index_mut.ensures.value
      c.set_elements.new.self (with_elements c.args.values.items) c.set_elements.ensures (Allows-elements c.args.self.now.heap c.args.at c.args.values.items c.requires.values) c.self.invariant.1,
)

pub returns-clause-shape : goal.returns-clause-shape
returns-clause-shape c = shape-view c.self.inside.slots.items c.self.inside.used c.self.inside.limit c.args.self.now c.self.view_is c.args.at c.index_mut.result.now c.index_mut.ensures.value
    c.set_elements.new.self (with_elements c.args.values.items) c.set_elements.ensures (Allows-elements c.args.self.now.heap c.args.at c.args.values.items c.requires.values)
