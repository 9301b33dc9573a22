use Rattle.rp_store.specs.Writers.{with_element}
use Rattle.rp_store.proofs.HeapLemmas.{kept-view, shape-view, written-view}
use Rattle.rp_store.proofs.Shapes.{Allows-element}
use Rattle.rp_store.proofs.store.Store.set_at.Goals as goal

pub returns-clause-done : goal.returns-clause-done
returns-clause-done c =
    written-view c.self.inside.slots.items c.self.inside.used c.self.inside.limit c.args.self.now c.self.view_is c.args.at c.index_mut.result.now c.index_mut.ensures.value
    c.set_at.new.self (with_element c.args.i c.args.value) c.set_at.ensures

pub invariant_of-self : goal.invariant_of-self
invariant_of-self c = (
  c.self.invariant.0,
  kept-view c.self.inside.slots.items c.self.inside.used c.self.inside.limit c.args.self.now c.self.view_is c.args.at c.index_mut.result.now c.index_mut.ensures.value
      c.set_at.new.self (with_element c.args.i c.args.value) c.set_at.ensures (Allows-element c.args.self.now.heap c.args.at c.args.i c.args.value c.requires.value) c.self.invariant.1,
)

pub returns-clause-shape : goal.returns-clause-shape
returns-clause-shape c = shape-view c.self.inside.slots.items c.self.inside.used c.self.inside.limit c.args.self.now c.self.view_is c.args.at c.index_mut.result.now c.index_mut.ensures.value
    c.set_at.new.self (with_element c.args.i c.args.value) c.set_at.ensures (Allows-element c.args.self.now.heap c.args.at c.args.i c.args.value c.requires.value)
