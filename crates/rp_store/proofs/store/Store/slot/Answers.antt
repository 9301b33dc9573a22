use Rattle.rp_store.specs.Object.{content_of}
use Rattle.rp_store.proofs.Readings.{Holds-at, IsFit-slot}
use Rattle.rp_store.proofs.store.Store.slot.Goals as goal

pub returns-clause-fit : goal.returns-clause-fit
returns-clause-fit c owner is = IsFit-slot c.args.self.now.heap owner (content_of c.object.result.now) (Holds-at c.args.self.now.heap c.args.at owner _ c.object.ensures.kept is c.object.ensures.content) c.args.i _ c.slot.ensures
