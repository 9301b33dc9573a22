use Rattle.std.proofs.Common.{◌==◌, length}
use Rattle.std.specs.List.{slice_split}
use Rattle.rp_words.specs.Command.{number_of}
use Rattle.rp_words.proofs.Found.{AreFound}
use Rattle.rp_words.proofs.turns.read_each.Given as goal

abbrev pub invariant-numbers : goal.invariant-numbers
invariant-numbers l =
    AreFound (number_of 2 1 l.pairs) (slice_split (λ b. b == 44) l.turns)
    (length l.yielded) l.numbers.items
