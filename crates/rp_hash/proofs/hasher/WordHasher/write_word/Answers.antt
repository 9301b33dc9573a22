use Rattle.rp_hash.specs.Words.{write_word}
use Rattle.rp_hash.proofs.hasher.WordHasher.write_word.Goals as goal

pub returns : goal.returns
unfolding write_word
returns c = simp c.round.ensures
