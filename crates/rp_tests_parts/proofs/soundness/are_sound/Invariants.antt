use Rattle.std.proofs.Common.{ℕ, ◌<◌, get_or}
use Rattle.rp_base.specs.declared.value.Value.{Value}
use Rattle.rp_store.specs.Kept.{IsSound}
use Rattle.rp_tests_parts.proofs.soundness.are_sound.Given as goal

abbrev pub invariant-loop-value : goal.invariant-loop-value
invariant-loop-value l = (k : ℕ) → k < l.value-index → (d : Value) → IsSound l.store.heap (get_or l.values k d)
