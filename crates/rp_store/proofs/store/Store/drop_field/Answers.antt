use Rattle.rp_store.specs.Writers.{without_field}
use Rattle.rp_store.proofs.HeapLemmas.{content-view, kept-view, shape-view, written-view}
use Rattle.rp_store.proofs.Shapes.{Allows-without_field}
use Rattle.rp_store.proofs.store.Store.drop_field.Goals as goal

pub returns-clause-dropped : goal.returns-clause-dropped
returns-clause-dropped c =
    written-view c.self.inside.slots.items c.self.inside.used c.self.inside.limit c.args.self.now c.self.view_is c.args.at c.index_mut.result.now c.index_mut.ensures.value
    c.drop_field.new.self (without_field c.args.name) c.drop_field.ensures.removed

pub returns-clause-value : goal.returns-clause-value
returns-clause-value c =
    rw (content-view c.self.inside.slots.items c.self.inside.used c.self.inside.limit c.args.self.now c.self.view_is c.args.at c.index_mut.result.now c.index_mut.ensures.value c.requires.held)
    c.drop_field.ensures.held

pub invariant_of-self : goal.invariant_of-self
invariant_of-self c = (
  c.self.invariant.0,
  kept-view c.self.inside.slots.items c.self.inside.used c.self.inside.limit c.args.self.now c.self.view_is c.args.at c.index_mut.result.now c.index_mut.ensures.value
      c.drop_field.new.self (without_field c.args.name) c.drop_field.ensures.removed (Allows-without_field c.args.self.now.heap c.args.at c.args.name) c.self.invariant.1,
)

pub returns-clause-shape : goal.returns-clause-shape
returns-clause-shape c = shape-view c.self.inside.slots.items c.self.inside.used c.self.inside.limit c.args.self.now c.self.view_is c.args.at c.index_mut.result.now c.index_mut.ensures.value
    c.drop_field.new.self (without_field c.args.name) c.drop_field.ensures.removed (Allows-without_field c.args.self.now.heap c.args.at c.args.name)
