use Rattle.std.proofs.Common.{◌≡◌, ◌<◌, ℕ, true, length}
use Rattle.rp_checker.specs.Chain.{AllEnd, AreClassesWithin, AreRight, HaveRowsWithin, is_done}
use Rattle.rp_checker.proofs.plan.Plan.all_rows.Given as goal

abbrev pub invariant-loop-place : goal.invariant-loop-place
invariant-loop-place l =
    (length l.rows.items ≡ length l.self.classes)
    × (length l.done.items ≡ length l.self.classes)
    × (AllEnd l.self → AreRight l.self l.done.items l.rows.items)
    × (AreClassesWithin l.self → HaveRowsWithin (length l.self.permissions) l.rows.items)
    × ((p : ℕ) → p < l.place → is_done l.done.items p ≡ true)
