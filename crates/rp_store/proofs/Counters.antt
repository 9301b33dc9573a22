-- Counters that go on.
use Rattle.std.proofs.Common.{◌≡◌, ap, ◌∙◌, arith}
use Rattle.rp_store.specs.Counters.{KeepsCounters}
use Rattle.rp_store.specs.Store.{Cells}

pub KeepsCounters-same : (old new : Cells) → new ≡ old → KeepsCounters old new
KeepsCounters-same old new e = record { limit = ap (λ (s : Cells). s.limit) e; used = rw (ap (λ (s : Cells). s.used) e) (omega arith) }

pub KeepsCounters-trans : (old mid new : Cells) → KeepsCounters old mid → KeepsCounters mid new → KeepsCounters old new
KeepsCounters-trans old mid new a b = record { limit = b.limit ∙ a.limit; used = omega (arith, a.used, b.used) }
