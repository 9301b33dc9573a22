use Rattle.rp_store.specs.Object.{content_of}
use Rattle.rp_store.proofs.Readings.{IsSound-entry}
use Rattle.rp_store.proofs.store.Store.entry.Goals as goal

pub returns-clause-sound : goal.returns-clause-sound
returns-clause-sound c = IsSound-entry c.args.self.now.heap (content_of c.object.result.now) c.object.ensures.holds c.args.key.now _ c.entry.ensures
