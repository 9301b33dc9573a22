use Rattle.rp_store.specs.Object.{content_of}
use Rattle.rp_store.proofs.Readings.{Holds-at, IsScopeOf-parent}
use Rattle.rp_store.proofs.store.Store.parent.Goals as goal

pub returns-clause-scope : goal.returns-clause-scope
returns-clause-scope c owner is = IsScopeOf-parent c.args.self.now.heap owner (content_of c.object.result.now) (Holds-at c.args.self.now.heap c.args.at owner _ c.object.ensures.kept is c.object.ensures.content) _ c.parent.ensures
