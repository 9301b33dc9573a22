-- At most so many steps are left: what the induction over trees keeps, for every number.
use Rattle.std.proofs.Common.{◌≤◌, ℕ}
use Rattle.rp_base.specs.declared.value.Oid.{Oid}
use Rattle.rp_meaning.specs.Binding.{Arguments}
use Rattle.rp_meaning.specs.Frame.{Calls, Frame, Run}
use Rattle.rp_meaning.specs.State.{Outcome, State}
use Rattle.rp_meter_laws.specs.Metered.{AddNone}

abbrev pub IsIn : ℕ → State → Type 0
IsIn k s = s.plain.steps ≤ k

pub record Keeps {A : Type 0} (o : Outcome A) (k : ℕ) : Type 0 where
  pub steps : IsIn k o.state

abbrev pub CallsKeep : ℕ → Calls → Type 0
CallsKeep k calls = (at : Oid) (a : Arguments) (s : State) → IsIn k s → Keeps (calls at a s) k

pub record Steady (k : ℕ) (called : Calls) (run : Run) : Type 0 where
  pub calls : CallsKeep k called
  pub natives : AddNone run.natives

abbrev pub Keeping : {A : Type 0} → (Frame → State → Outcome A) → Type 0
Keeping does = (k : ℕ) (frame : Frame) → Steady k frame.calls frame.run → (s : State) → IsIn k s
    → Keeps (does frame s) k
