-- All code keeps objects such as code of their owners makes them: code of any side, with whatever operations allowed,
-- and the functions of whichever owner that it calls (zope.security, proxies).
use Rattle.std.specs.Prelude.{◌≡◌, ◌≤◌, ℕ, suc, Some}
use Rattle.rp_base.specs.declared.native.NativeId.TheVariants as native
use Rattle.rp_base.specs.declared.value.Oid.{Oid}
use Rattle.rp_base.specs.declared.value.Side.{Side}
use Rattle.rp_base.specs.declared.word.TheConstants.{LEN}
use Rattle.rp_tree.specs.Expressions as tree
use Rattle.rp_tree.specs.Statements as stmt_tree
use Rattle.rp_meaning.specs.Binding.{Arguments}
use Rattle.rp_meaning.specs.Frame.{Frame, Run}
use Rattle.rp_meaning.specs.Meaning.{block, eval, exec}
use Rattle.rp_meaning.specs.Running.{calls, frame_in}
use Rattle.rp_meaning.specs.State.{Outcome, State, heap_of}
use Rattle.rp_meaning.specs.Unmonitored.{monitored}
use Rattle.rp_fixed_laws.specs.Fixed.{AreBuiltIn, IsQuietRun}
use Rattle.rp_owner_laws.specs.Cut.{allowed_in}
use Rattle.rp_owner_laws.specs.Owners.{OthersStay}
use Rattle.rp_order_laws.specs.Ordered.{AreOrdered, ClassesAreTrusted, IsOf}

-- a moment in which all objects are such
pub record IsOrderly (s : State) : Type 0 where
  pub objects : AreOrdered (heap_of s)
  pub classes : ClassesAreTrusted s.declarations.classes (heap_of s)

-- what is done in a frame of any side, with a scope of that side
abbrev pub KeepsOrder : {A : Type 0} → (Frame → State → Outcome A) → Type 0
KeepsOrder does = (run : Run) → IsQuietRun run → (side : Side) (number : ℕ) (scope : Oid) (s : State) → IsOrderly s
    → IsOf (heap_of s) side scope → IsOrderly (does (frame_in run (calls run) side number scope) s).state

abbrev pub ExpressionsKeepOrder : Type 0
ExpressionsKeepOrder = (x : tree.Expr) → KeepsOrder (eval x)

abbrev pub StatementsKeepOrder : Type 0
StatementsKeepOrder = (x : stmt_tree.Stmt) → KeepsOrder (exec x)

abbrev pub BlocksKeepOrder : Type 0
BlocksKeepOrder = (b : stmt_tree.Stmts) → KeepsOrder (block b)

-- a call of a function of whichever owner, with whatever arguments
abbrev pub FunctionsKeepOrder : Type 0
FunctionsKeepOrder = (run : Run) → IsQuietRun run → (at : Oid) (a : Arguments) (s : State) → IsOrderly s
    → IsOrderly (calls run at a s).state

-- So a call of a function of a script, by whichever code, behind which the trail has no more allowed entries, leaves each
-- object of another owner than that script as it was.
abbrev pub CallsLeaveOthersUnallowed : Type 0
CallsLeaveOthersUnallowed = (run : Run) → AreBuiltIn run.natives → run.natives.needs native.Len 0 1 ≡ Some LEN
    → (n : ℕ) (at : Oid) (a : Arguments) (s : State) → AreOrdered (heap_of s)
    → IsOf (heap_of s) (record { 0 = suc n }) at
    → allowed_in (calls (monitored run) at a s).state.log ≤ allowed_in s.log
    → OthersStay n (heap_of s) (heap_of (calls (monitored run) at a s).state)
