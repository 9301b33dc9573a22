use Rattle.std.proofs.Common.{◌≡◌, ℕ, vec_len}
use Rattle.rp_checker.specs.Chain.{HaveRowsWithin}
use Rattle.rp_checker.proofs.plan.unmade.Given as goal

abbrev pub invariant-loop : goal.invariant-loop
invariant-loop l = (vec_len l.rows ≡ l.counter) × ((permissions : ℕ) → HaveRowsWithin permissions l.rows.items)
