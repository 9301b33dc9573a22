use Rattle.std.proofs.Common.{◌≡◌, ℕ, true, length, vec_len}
use Rattle.rp_checker.specs.Chain.{AllEnd, AreClassesWithin, AreRight, HaveRowsWithin, IsChain, is_done}
use Rattle.rp_checker.proofs.plan.Plan.settle.Given as goal

abbrev pub invariant-loop-place : goal.invariant-loop-place
invariant-loop-place l =
    IsChain l.self l.done l.first l.chain.items
    × (AllEnd l.self → AreRight l.self l.initial.done l.initial.rows → AreRight l.self l.done l.rows)
    × (AreClassesWithin l.self → HaveRowsWithin (length l.self.permissions) l.initial.rows → HaveRowsWithin (length l.self.permissions) l.rows)
    × ((place : ℕ) → is_done l.initial.done place ≡ true → is_done l.done place ≡ true)

abbrev pub decreases-loop-place : goal.decreases-loop-place
decreases-loop-place l = vec_len l.chain
