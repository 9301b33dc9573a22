use Rattle.std.proofs.Common.{map}
use Rattle.rp_words.specs.Command.{pair_of}
use Rattle.rp_words.specs.View.{pair_view}
use Rattle.rp_words.proofs.Found.{AreFound}
use Rattle.rp_words.proofs.pair.read_each.Given as goal

abbrev pub invariant-pairs : goal.invariant-pairs
invariant-pairs l = AreFound pair_of (map (λ w. w.now) l.words) l.word-index (map pair_view l.pairs.items)
