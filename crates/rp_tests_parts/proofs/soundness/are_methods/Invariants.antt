use Rattle.std.proofs.Common.{ℕ, ◌<◌, get_or}
use Rattle.rp_base.specs.declared.value.Name.{Name}
use Rattle.rp_base.specs.declared.value.Oid.{Oid}
use Rattle.rp_store.specs.Heap.{Names}
use Rattle.rp_store.specs.Parts.{IsFunction}
use Rattle.rp_tests_parts.proofs.soundness.are_methods.Given as goal

abbrev pub invariant-loop-i : goal.invariant-loop-i
invariant-loop-i l = (k : ℕ) → k < l.i → (d : Name × Oid) → Names l.store.heap IsFunction (get_or l.methods k d).1
