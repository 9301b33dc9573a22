use Rattle.std.proofs.Common.{ap}
use Rattle.rp_store.specs.Object.{dict}
use Rattle.rp_store.proofs.HeapLemmas.{map_ok}
use Rattle.rp_store.proofs.object.Object.set_entry.Goals as goal

pub returns-in-Dict-clause-ok : goal.returns-in-Dict-clause-ok
returns-in-Dict-clause-ok c rock = rw c.in-Dict.is (map_ok c.set_held.result (ap dict) (c.set_held.ensures.set rock))
