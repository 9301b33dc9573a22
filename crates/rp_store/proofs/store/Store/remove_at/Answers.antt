use Rattle.rp_store.specs.Writers.{without_element}
use Rattle.rp_store.proofs.HeapLemmas.{content-view, kept-view, shape-view, written-view}
use Rattle.rp_store.proofs.Shapes.{Allows-without_element}
use Rattle.rp_store.proofs.store.Store.remove_at.Goals as goal

pub returns-clause-removed : goal.returns-clause-removed
returns-clause-removed c =
    written-view c.self.inside.slots.items c.self.inside.used c.self.inside.limit c.args.self.now c.self.view_is c.args.at c.index_mut.result.now c.index_mut.ensures.value
    c.remove_at.new.self (without_element c.args.i) c.remove_at.ensures.removed

pub returns-clause-value : goal.returns-clause-value
returns-clause-value c =
    rw (content-view c.self.inside.slots.items c.self.inside.used c.self.inside.limit c.args.self.now c.self.view_is c.args.at c.index_mut.result.now c.index_mut.ensures.value c.requires.held)
    c.remove_at.ensures.value

pub invariant_of-self : goal.invariant_of-self
invariant_of-self c = (
  c.self.invariant.0,
  kept-view c.self.inside.slots.items c.self.inside.used c.self.inside.limit c.args.self.now c.self.view_is c.args.at c.index_mut.result.now c.index_mut.ensures.value
      c.remove_at.new.self (without_element c.args.i) c.remove_at.ensures.removed (Allows-without_element c.args.self.now.heap c.args.at c.args.i) c.self.invariant.1,
)

pub returns-clause-shape : goal.returns-clause-shape
returns-clause-shape c = shape-view c.self.inside.slots.items c.self.inside.used c.self.inside.limit c.args.self.now c.self.view_is c.args.at c.index_mut.result.now c.index_mut.ensures.value
    c.remove_at.new.self (without_element c.args.i) c.remove_at.ensures.removed (Allows-without_element c.args.self.now.heap c.args.at c.args.i)
