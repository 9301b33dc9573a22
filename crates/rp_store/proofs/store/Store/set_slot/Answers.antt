use Rattle.rp_store.specs.Writers.{with_slot}
use Rattle.rp_store.proofs.HeapLemmas.{kept-view, shape-view, written-view}
use Rattle.rp_store.proofs.Shapes.{Allows-slot}
use Rattle.rp_store.proofs.store.Store.set_slot.Goals as goal

pub returns-clause-done : goal.returns-clause-done
returns-clause-done c =
    written-view c.self.inside.slots.items c.self.inside.used c.self.inside.limit c.args.self.now c.self.view_is c.args.at c.index_mut.result.now c.index_mut.ensures.value
    c.set_slot.new.self (with_slot c.args.i c.args.value) c.set_slot.ensures

pub invariant_of-self : goal.invariant_of-self
invariant_of-self c = (
  c.self.invariant.0,
  kept-view c.self.inside.slots.items c.self.inside.used c.self.inside.limit c.args.self.now c.self.view_is c.args.at c.index_mut.result.now c.index_mut.ensures.value
      c.set_slot.new.self (with_slot c.args.i c.args.value) c.set_slot.ensures (Allows-slot c.args.self.now.heap c.args.at c.args.i c.args.value c.requires.value) c.self.invariant.1,
)

pub returns-clause-shape : goal.returns-clause-shape
returns-clause-shape c = shape-view c.self.inside.slots.items c.self.inside.used c.self.inside.limit c.args.self.now c.self.view_is c.args.at c.index_mut.result.now c.index_mut.ensures.value
    c.set_slot.new.self (with_slot c.args.i c.args.value) c.set_slot.ensures (Allows-slot c.args.self.now.heap c.args.at c.args.i c.args.value c.requires.value)
