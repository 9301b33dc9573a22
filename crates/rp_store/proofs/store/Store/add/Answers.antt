use Rattle.rp_store.proofs.HeapLemmas.{kept-added, shape-added}
use Rattle.rp_store.proofs.store.Store.add.Goals as goal

pub invariant_of-self-2 : goal.invariant_of-self-2
invariant_of-self-2 c = (
  c.self.invariant.0,
  kept-added c.self.inside.slots.items c.self.inside.used c.self.inside.limit c.args.self.now c.self.view_is c.push.new.self.items
      (record { owner = c.args.side; object = c.args.object }) c.in_ok-push.ensures.items c.requires c.self.invariant.1,
)

pub returns-clause-shape : goal.returns-clause-shape
returns-clause-shape c = shape-added c.self.inside.slots.items c.self.inside.used c.self.inside.limit c.args.self.now c.self.view_is c.push.new.self.items
    (record { owner = c.args.side; object = c.args.object }) c.in_ok-push.ensures.items
