-- Calls of functions come to the same cut off and as it is, and so does a statement of a program.
use Rattle.std.proofs.Common.{refl, subst, ℕ, zero, suc, List, Option, Some, None}
use Rattle.rp_base.specs.declared.value.Oid.{Oid}
use Rattle.rp_base.specs.declared.value.Side.{Side}
use Rattle.rp_base.specs.declared.value.Value.{Value}
use Rattle.rp_ops.specs.Outcome as plain
use Rattle.rp_store.specs.Heap.{content_at}
use Rattle.rp_store.specs.Object as object
use Rattle.rp_store.specs.Object.{Content}
use Rattle.rp_tree.specs.Expressions as tree
use Rattle.rp_tree.specs.Statements as stmt_tree
use Rattle.rp_meaning.specs.Binding.{bind}
use Rattle.rp_meaning.specs.Blocks.{Code, def, lambda}
use Rattle.rp_meaning.specs.Frame.{Calls, Frame, Run}
use Rattle.rp_meaning.specs.Meaning as meaning
use Rattle.rp_meaning.specs.Meaning.{eval, exec}
use Rattle.rp_meaning.specs.Running.{calls, calls_within, code_called, frame_in, function_called, params_of, slots_for}
use Rattle.rp_meaning.specs.Running.{slots_taken, taken_all, value_of_code}
use Rattle.rp_meaning.specs.State.{Outcome, State, heap_of}
use Rattle.rp_meaning.specs.Unmonitored.{monitored}
use Rattle.rp_owner_laws.specs.Cut.{CallsFollow, Follows, FunctionsLeaveOthersUnallowed, LeavesOthersUnallowed, Unseen}
use Rattle.rp_owner_laws.specs.Owners.{LeavesOthers, OthersStay, cut}
use Rattle.rp_owner_laws.proofs.CutGoing as going
use Rattle.rp_owner_laws.proofs.CutGoing.{op, same}
use Rattle.rp_owner_laws.proofs.CutTrees.{block, expression, statement}
use Rattle.rp_owner_laws.proofs.Owners.{blocks_leave_others, cut_runs_are_such, expressions_leave_others}
use Rattle.rp_owner_laws.proofs.Owners.{functions_leave_others, statements_leave_others}

code_follows : (code : Code) → Unseen (value_of_code code)
code_follows (def ps b) f d c s = going.bind _ (block b f d c s) (λ flow s. same refl refl)
code_follows (lambda ps x) f d c s = expression x f d c s

module _ (run : Run) where
  called : (calls others : Calls) → CallsFollow calls others
      → (side : Side) (number : ℕ) (within : Oid) (defaults : List Value) (code : Option Code)
      → CallsFollow (λ at a s. code_called (monitored run) calls side number within defaults code a s)
      (λ at a s. code_called (cut run) others side number within defaults code a s)
  called calls others c side number within defaults None at a s = same refl refl
  called calls others c side number within defaults (Some code) at a s =
      going.bind _ (op (bind side s.names (params_of code) defaults (taken_all (heap_of s) side a) s.plain) s)
      (λ bound s.
      going.bind _ (op (plain.makes side (object.scope (Some number) (Some within)
      (slots_for ((run.programs side).layouts.locals number) (slots_taken (heap_of s) side bound))) s.plain) s)
      (λ scope s. code_follows code (frame_in run calls side number scope) others c s))

  function_follows : (calls others : Calls) → CallsFollow calls others → (content : Option Content)
      → CallsFollow (λ at a s. function_called (monitored run) calls content a s)
      (λ at a s. function_called (cut run) others content a s)
  function_follows calls others c (Some (object.function name side number within defaults)) at a s =
      called calls others c side number within defaults ((run.programs side).code number) at a s
  function_follows calls others c _ at a s = same refl refl

  within_follow : (n : ℕ) → CallsFollow (calls_within (monitored run) n) (calls_within (cut run) n)
  within_follow zero at a s = same refl refl
  within_follow (suc n) at a s =
      function_follows (λ at a s. calls_within (monitored run) n at a s) (λ at a s. calls_within (cut run) n at a s)
      (λ at a s. within_follow n at a s) (content_at (heap_of s) at) at a s

pub calls_follow : (run : Run) → CallsFollow (calls (monitored run)) (calls (cut run))
calls_follow run at a s = within_follow run 1000 at a s

-- what is done in a frame of a program, with the monitor and cut off
pub frame_follows : {A : Type 0} (does : Frame → State → Outcome A) → Unseen does → (run : Run) (side : Side)
    (number : ℕ) (scope : Oid) (s : State)
    → Follows s.log (does (frame_in (monitored run) (calls (monitored run)) side number scope) s)
    (does (frame_in (cut run) (calls (cut run)) side number scope) s)
frame_follows does i run side number scope s =
    i (frame_in run (calls (monitored run)) side number scope) (calls (cut run)) (λ at a s. calls_follow run at a s) s

-- ---- the objects of others, where nothing more is allowed

unallowed : {A : Type 0} (does : Frame → State → Outcome A) → LeavesOthers does → Unseen does
    → LeavesOthersUnallowed does
unallowed {A} does leaves i run natives lengths n number scope s ordered mine none =
    let such = cut_runs_are_such run natives lengths in
    subst (λ (o : Outcome A). OthersStay n (heap_of s) (heap_of o.state))
    ((frame_follows does i run (record { 0 = suc n }) number scope s).same none)
    (leaves (cut run) such.0 such.1 n number scope s ordered mine)

pub expressions_leave_unallowed : (x : tree.Expr) → LeavesOthersUnallowed (eval x)
expressions_leave_unallowed x = unallowed (eval x) (expressions_leave_others x) (expression x)

pub statements_leave_unallowed : (x : stmt_tree.Stmt) → LeavesOthersUnallowed (exec x)
statements_leave_unallowed x = unallowed (exec x) (statements_leave_others x) (statement x)

pub blocks_leave_unallowed : (b : stmt_tree.Stmts) → LeavesOthersUnallowed (meaning.block b)
blocks_leave_unallowed b = unallowed (meaning.block b) (blocks_leave_others b) (block b)

pub functions_leave_unallowed : FunctionsLeaveOthersUnallowed
functions_leave_unallowed run natives lengths n at a s ordered mine none =
    let such = cut_runs_are_such run natives lengths in
    subst (λ (o : Outcome Value). OthersStay n (heap_of s) (heap_of o.state)) ((calls_follow run at a s).same none)
    (functions_leave_others (cut run) such.0 such.1 n at a s ordered mine)
