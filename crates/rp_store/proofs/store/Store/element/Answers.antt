use Rattle.rp_store.specs.Object.{content_of}
use Rattle.rp_store.proofs.Readings.{IsSound-element}
use Rattle.rp_store.proofs.store.Store.element.Goals as goal

pub returns-clause-sound : goal.returns-clause-sound
returns-clause-sound c = IsSound-element c.args.self.now.heap (content_of c.object.result.now) c.object.ensures.holds c.args.i _ c.element.ensures
