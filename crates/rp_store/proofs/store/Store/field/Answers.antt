use Rattle.rp_store.specs.Object.{content_of}
use Rattle.rp_store.proofs.Readings.{IsSound-field}
use Rattle.rp_store.proofs.store.Store.field.Goals as goal

pub returns-clause-sound : goal.returns-clause-sound
returns-clause-sound c = IsSound-field c.args.self.now.heap (content_of c.object.result.now) c.object.ensures.holds c.args.name _ c.field.ensures
