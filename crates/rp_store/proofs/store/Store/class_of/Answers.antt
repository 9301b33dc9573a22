use Rattle.rp_store.specs.Object.{content_of}
use Rattle.rp_store.proofs.Readings.{Names-class}
use Rattle.rp_store.proofs.store.Store.class_of.Goals as goal

pub returns-clause-class : goal.returns-clause-class
returns-clause-class c = Names-class c.args.self.now.heap (content_of c.object.result.now) c.object.ensures.holds _ c.class_of.ensures
