use Rattle.std.proofs.Common.{◌∙◌}
use Rattle.rp_store.specs.Object.{content_of}
use Rattle.rp_store.proofs.Readings.{Names-method}
use Rattle.rp_store.proofs.store.Store.method.Goals as goal

pub returns-clause-function : goal.returns-clause-function
returns-clause-function c =
    Names-method c.args.self.now.heap (content_of c.object.result.now) c.object.ensures.holds c.args.name _ (c.copied.ensures ∙ c.method.ensures)
