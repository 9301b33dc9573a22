use Rattle.std.proofs.Common.{◌==◌, length}
use Rattle.std.specs.List.{slice_split}
use Rattle.rp_words.proofs.Found.{AreFound}
use Rattle.rp_words.proofs.Ids.{id_of}
use Rattle.rp_words.proofs.pair.read_ids.Given as goal

abbrev pub invariant-ids : goal.invariant-ids
invariant-ids l = AreFound id_of (slice_split (λ b. b == 43) l.who) (length l.yielded) l.ids.items
