use Rattle.rp_store.proofs.CallerLemmas.{KeepsShape-of, ShapeStays-grown}
use Rattle.rp_access.proofs.operating.binary.Goals as goal

pub returns-clause-shape : goal.returns-clause-shape
returns-clause-shape c =
    let old = c.args.world.now.store.heap in
    let new = c.binary.new.store.heap in
    KeepsShape-of old new (ShapeStays-grown old new c.binary.ensures.grown.0 c.binary.ensures.grown.1.0)
