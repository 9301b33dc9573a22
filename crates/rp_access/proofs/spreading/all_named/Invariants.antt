use Rattle.std.proofs.Common.{◌≡◌, [], length}
use Rattle.std.specs.Prelude.{All}
use Rattle.rp_store.specs.Kept.{IsEntry, IsFit}
use Rattle.rp_access.proofs.Spreadings.{all_of}
use Rattle.rp_access.proofs.spreading.all_named.Given as goal

-- what is taken so far, and what is left
abbrev pub invariant-loop-rock : goal.invariant-loop-rock
invariant-loop-rock l =
    (all_of l.world.store.heap l.side l.from l.all.items l.rest ≡ all_of l.world.store.heap l.side l.from [] l.entries)
    × All (IsEntry l.world.store.heap) l.rest × All (λ n. IsFit l.world.store.heap l.side n.1) l.all.items

abbrev pub decreases-loop-rock : goal.decreases-loop-rock
decreases-loop-rock l = length l.rest
