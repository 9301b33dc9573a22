-- Runs in which what is kept of objects is kept (zope.security, proxies).
use Rattle.std.specs.Prelude.{◌≡◌, Some, Ok, Err}
use Rattle.rp_base.specs.declared.native.NativeId.TheVariants as native
use Rattle.rp_base.specs.declared.value.Oid.{Oid}
use Rattle.rp_base.specs.declared.value.Value.TheVariants as value
use Rattle.rp_base.specs.declared.word.TheConstants.{LEN}
use Rattle.rp_checker.specs.RowOf.{Operation}
use Rattle.rp_proxy.specs.Decide.{Decision, Monitor}
use Rattle.rp_meaning.specs.Frame.{Run}
use Rattle.rp_fixed_laws.specs.Fixed.{IsQuietRun}
use Rattle.rp_owner_laws.specs.Kept.{Keeper, own, shapes}

-- ---- runs

-- the operation is not done
abbrev pub IsEnd : Decision → Type 0
IsEnd (Ok nothing) = ⊥
IsEnd (Err e) = Unit {0}

-- A run in which nothing is let through a proxy; `len` of a value is decided as the reading of `__len__`, since it may
-- call that.
pub record LetsNothingThrough (run : Run) : Type 0 where
  pub proxies : (at : Oid) (op : Operation) (m : Monitor) → IsEnd (run.decide (value.Prox at) op m).0
  pub lengths : run.natives.needs native.Len 0 1 ≡ Some LEN

-- and, where it is about a script, nothing is let through a proxy
abbrev pub IsTight : Keeper → Run → Type 0
IsTight (shapes old) run = Unit {0}
IsTight (own n old) run = LetsNothingThrough run

pub record IsSuch (k : Keeper) (run : Run) : Type 0 where
  pub quiet : IsQuietRun run
  pub tight : IsTight k run
