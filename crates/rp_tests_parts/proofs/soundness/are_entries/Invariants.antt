use Rattle.std.proofs.Common.{ℕ, ◌<◌, get_or}
use Rattle.rp_base.specs.declared.value.Rock.{Rock}
use Rattle.rp_base.specs.declared.value.Value.{Value}
use Rattle.rp_store.specs.Kept.{IsEntry}
use Rattle.rp_store.specs.declared.key.Key.{Key}
use Rattle.rp_tests_parts.proofs.soundness.are_entries.Given as goal

abbrev pub invariant-loop-i : goal.invariant-loop-i
invariant-loop-i l = (k : ℕ) → k < l.i → (d : Key × (Rock × Value)) → IsEntry l.store.heap (get_or l.entries k d)
