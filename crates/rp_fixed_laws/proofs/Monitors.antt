-- Both monitors change no object.
use Rattle.std.proofs.Common.{◌≡◌, refl, ◌+◌, Bool, true, false, if◌then◌else◌, Err}
use Rattle.std.specs.Prelude.{nat_lt}
use Rattle.rp_base.specs.declared.value.Value.TheVariants as value
use Rattle.rp_ops.specs.Outcome as plain
use Rattle.rp_proxy.specs.Decide.{Decision, Monitor, class_at, entry_of, go, logged, outcome}
use Rattle.rp_meaning.specs.Unmonitored.{monitored, unmonitored}
use Rattle.rp_fixed_laws.specs.Fixed.{BothMonitorsDecideQuietly, DecidesQuietly}

pub monitors : BothMonitorsDecideQuietly
monitors run = (monitored_quiet, unmonitored_quiet) where
  decided_so : Bool → Decision → Monitor → Monitor → Decision × Monitor
  decided_so b d m n = if b then (Err plain.no_cell, m) else (d, n)

  cell : (b : Bool) (d : Decision) (m n : Monitor) → n.store.heap ≡ m.store.heap
      → (decided_so b d m n).1.store.heap ≡ m.store.heap
  cell true d m n e = refl
  cell false d m n e = e

  monitored_quiet : DecidesQuietly (monitored run)
  monitored_quiet (value.Rock r) op m = refl
  monitored_quiet (value.Ref at) op m = refl
  monitored_quiet (value.Prox at) op m =
      cell (nat_lt m.store.limit (m.store.used + 1))
      (outcome (entry_of m op (class_at m.store.heap at)).name (entry_of m op (class_at m.store.heap at)).verdict) m
      (logged m (entry_of m op (class_at m.store.heap at))) refl

  unmonitored_quiet : DecidesQuietly (unmonitored run)
  unmonitored_quiet (value.Rock r) op m = refl
  unmonitored_quiet (value.Ref at) op m = refl
  unmonitored_quiet (value.Prox at) op m =
      cell (nat_lt m.store.limit (m.store.used + 1)) go m
      (record m { store = record m.store { used = m.store.used + 1 } }) refl
