-- What a run with the monitor and the same run that is cut off at the first allowed operation on a proxy have in
-- common, as long as nothing is allowed: all (zope.security, proxies).
use Rattle.std.specs.Prelude.{◌≡◌, ℕ, suc, ◌≤◌, List, [], ◌∷◌, ◌++◌, slice_get, Some}
use Rattle.rp_base.specs.declared.native.NativeId.TheVariants as native
use Rattle.rp_base.specs.declared.value.Oid.{Oid}
use Rattle.rp_base.specs.declared.word.TheConstants.{LEN}
use Rattle.rp_trail.specs.Entry.{Entry, Verdict, allowed, denied, forbidden}
use Rattle.rp_meaning.specs.Binding.{Arguments}
use Rattle.rp_meaning.specs.Frame.{Frame, Calls, Run}
use Rattle.rp_meaning.specs.Running.{calls, frame_in}
use Rattle.rp_meaning.specs.State.{State, Outcome, heap_of}
use Rattle.rp_meaning.specs.Unmonitored.{IsAllowed, monitored}
use Rattle.rp_apart_laws.specs.Apart.{Each}
use Rattle.rp_fixed_laws.specs.Fixed.{AreBuiltIn}
use Rattle.rp_owner_laws.specs.Kept.{IsOwn, own}
use Rattle.rp_owner_laws.specs.Owners.{IsOrdered, OthersStay, cut}

-- how many entries allow something

abbrev pub allows : Verdict → ℕ → ℕ
allows (allowed permission) n = suc n
allows (denied permission) n = n
allows forbidden n = n

abbrev pub allowed_in : List Entry → ℕ
allowed_in [] = 0
allowed_in (e ∷ es) = allows e.verdict (allowed_in es)

-- so entries that allow nothing do not count
abbrev pub IsUnallowed : Entry → Type 0
IsUnallowed e = IsAllowed e.verdict → ⊥

abbrev pub UnallowedDoNotCount : Type 0
UnallowedDoNotCount = (old added : List Entry) → Each IsUnallowed added → allowed_in (old ++ added) ≡ allowed_in old

-- What something comes to with the monitor, where this was logged before, and cut off: there are no fewer allowed
-- entries, and where there are no more, both come to the same.
pub record Follows {A : Type 0} (old : List Entry) (o p : Outcome A) : Type 0 where
  pub grows : allowed_in old ≤ allowed_in o.state.log
  pub same : allowed_in o.state.log ≤ allowed_in old → p ≡ o

-- calls with the monitor, and cut off

abbrev pub CallsFollow : Calls → Calls → Type 0
CallsFollow calls others = (at : Oid) (a : Arguments) (s : State) → Follows s.log (calls at a s) (others at a s)

-- the frame with the monitor, and cut off, where its calls are others

abbrev pub decided_frame : Frame → Frame
decided_frame f = record f { run = monitored f.run }

abbrev pub cut_frame : Calls → Frame → Frame
cut_frame others f = record f { run = cut f.run; calls = others }

-- what is done in a frame comes to the same cut off, if the frame's calls do
abbrev pub Unseen : {A : Type 0} → (Frame → State → Outcome A) → Type 0
Unseen does = (f : Frame) (others : Calls) → CallsFollow f.calls others → (s : State)
    → Follows s.log (does (decided_frame f) s) (does (cut_frame others f) s)

-- ---- the objects of others

-- What is done in a frame of a script, with a scope of its own: where the log has no more allowed entries behind it,
-- each object of another owner is as it was.
abbrev pub LeavesOthersUnallowed : {A : Type 0} → (Frame → State → Outcome A) → Type 0
LeavesOthersUnallowed does = (run : Run) → AreBuiltIn run.natives → run.natives.needs native.Len 0 1 ≡ Some LEN
    → (n number : ℕ) (scope : Oid) (s : State)
    → IsOrdered n (heap_of s) → IsOwn (own n (heap_of s)) (slice_get (heap_of s) scope.0)
    → allowed_in (does (frame_in (monitored run) (calls (monitored run)) (record { 0 = suc n }) number scope)
    s).state.log
    ≤ allowed_in s.log
    → OthersStay n (heap_of s)
    (heap_of (does (frame_in (monitored run) (calls (monitored run)) (record { 0 = suc n }) number scope) s).state)

-- a call of a function of the script, with whatever arguments
abbrev pub FunctionsLeaveOthersUnallowed : Type 0
FunctionsLeaveOthersUnallowed = (run : Run) → AreBuiltIn run.natives → run.natives.needs native.Len 0 1 ≡ Some LEN
    → (n : ℕ) (at : Oid) (a : Arguments) (s : State)
    → IsOrdered n (heap_of s) → IsOwn (own n (heap_of s)) (slice_get (heap_of s) at.0)
    → allowed_in (calls (monitored run) at a s).state.log ≤ allowed_in s.log
    → OthersStay n (heap_of s) (heap_of (calls (monitored run) at a s).state)
