use Rattle.rp_hash.specs.Words.{finish}
use Rattle.rp_hash.proofs.hasher.WordHasherHasher.finish.Goals as goal

pub returns : goal.returns
unfolding finish
returns c = simp (c.round-3.ensures, c.round-2.ensures, c.round.ensures)
