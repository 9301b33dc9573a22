-- Calls of functions come to the same with the monitor and without it, and so does a statement of a program.
use Rattle.std.proofs.Common.{refl, ℕ, zero, suc, List, Option, Some, None}
use Rattle.rp_base.specs.declared.value.Oid.{Oid}
use Rattle.rp_base.specs.declared.value.Side.{Side}
use Rattle.rp_base.specs.declared.value.Value.{Value}
use Rattle.rp_ops.specs.Outcome as plain
use Rattle.rp_store.specs.Heap.{content_at}
use Rattle.rp_store.specs.Object as object
use Rattle.rp_store.specs.Object.{Content}
use Rattle.rp_trail.specs.Entry.{Entry}
use Rattle.rp_tree.specs.Statements as stmt_tree
use Rattle.rp_meaning.specs.Binding.{bind}
use Rattle.rp_meaning.specs.Blocks.{Code, def, lambda}
use Rattle.rp_meaning.specs.Frame.{Calls, Run}
use Rattle.rp_meaning.specs.Meaning as meaning
use Rattle.rp_meaning.specs.Meaning.{exec}
use Rattle.rp_meaning.specs.Running as running
use Rattle.rp_meaning.specs.Running.{calls_within, code_called, frame_in, function_called, params_of, program_frame, slots_for, slots_taken}
use Rattle.rp_meaning.specs.Running.{taken_all, value_of_code}
use Rattle.rp_meaning.specs.State.{State, heap_of}
use Rattle.rp_meaning.specs.Unmonitored.{monitored, unmonitored}
use Rattle.rp_monitor_laws.specs.Unseen.{CallsFollow, Follows, FunctionsAreUnseen, Unseen, with_log}
use Rattle.rp_monitor_laws.proofs.Going as going
use Rattle.rp_monitor_laws.proofs.Going.{op, same}
use Rattle.rp_monitor_laws.proofs.Trees.{block, expression, statement}

code_follows : (code : Code) → Unseen (value_of_code code)
code_follows (def ps b) k f d c s = going.bind _ (block b k f d c s) (λ flow s. same refl refl)
code_follows (lambda ps x) k f d c s = expression x k f d c s

module _ (run : Run) (k : List Entry) where
  called : (calls others : Calls) → CallsFollow k calls others
      → (side : Side) (number : ℕ) (within : Oid) (defaults : List Value) (code : Option Code)
      → CallsFollow k (λ at a s. code_called (monitored run) calls side number within defaults code a s)
      (λ at a s. code_called (unmonitored run) others side number within defaults code a s)
  called calls others c side number within defaults None at a s = same refl refl
  called calls others c side number within defaults (Some code) at a s =
      going.bind _ (op (bind side s.names (params_of code) defaults (taken_all (heap_of s) side a) s.plain) s) (λ bound s.
      going.bind _ (op (plain.makes side (object.scope (Some number) (Some within)
      (slots_for ((run.programs side).layouts.locals number) (slots_taken (heap_of s) side bound))) s.plain) s)
      (λ scope s. code_follows code k (frame_in run calls side number scope) others c s))

  function_follows : (calls others : Calls) → CallsFollow k calls others → (content : Option Content)
      → CallsFollow k (λ at a s. function_called (monitored run) calls content a s) (λ at a s. function_called (unmonitored run) others content a s)
  function_follows calls others c (Some (object.function name side number within defaults)) at a s =
      called calls others c side number within defaults ((run.programs side).code number) at a s
  function_follows calls others c _ at a s = same refl refl

  within_follow : (n : ℕ) → CallsFollow k (calls_within (monitored run) n) (calls_within (unmonitored run) n)
  within_follow zero at a s = same refl refl
  within_follow (suc n) at a s =
      function_follows (λ at a s. calls_within (monitored run) n at a s) (λ at a s. calls_within (unmonitored run) n at a s)
      (λ at a s. within_follow n at a s) (content_at (heap_of s) at) at a s

pub functions-unseen : FunctionsAreUnseen
functions-unseen run k at a s = within_follow run k 1000 at a s

-- a statement of a program's own, where its calls do so
at-calls : (run : Run) (k : List Entry) (c d : Calls) → CallsFollow k c d → (side : Side) (globals : Oid) (x : stmt_tree.Stmt) (s : State)
    → Follows k s.log (exec x (frame_in (monitored run) c side 0 globals) s) (exec x (frame_in (unmonitored run) d side 0 globals) (with_log k s))
at-calls run k c d follow side globals x s = statement x k (frame_in run c side 0 globals) d follow s

pub statement-follows : (run : Run) (k : List Entry) (side : Side) (globals : Oid) (x : stmt_tree.Stmt) (s : State)
    → Follows k s.log (exec x (program_frame (monitored run) side globals) s) (exec x (program_frame (unmonitored run) side globals) (with_log k s))
statement-follows run k side globals x s =
    at-calls run k (running.calls (monitored run)) (running.calls (unmonitored run)) (λ at a u. functions-unseen run k at a u) side globals x s

-- and a block
block-at_calls : (run : Run) (k : List Entry) (c d : Calls) → CallsFollow k c d → (side : Side) (globals : Oid) (b : stmt_tree.Stmts) (s : State)
    → Follows k s.log (meaning.block b (frame_in (monitored run) c side 0 globals) s)
    (meaning.block b (frame_in (unmonitored run) d side 0 globals) (with_log k s))
block-at_calls run k c d follow side globals b s = block b k (frame_in run c side 0 globals) d follow s

pub block-follows : (run : Run) (k : List Entry) (side : Side) (globals : Oid) (b : stmt_tree.Stmts) (s : State)
    → Follows k s.log (meaning.block b (program_frame (monitored run) side globals) s)
    (meaning.block b (program_frame (unmonitored run) side globals) (with_log k s))
block-follows run k side globals b s =
    block-at_calls run k (running.calls (monitored run)) (running.calls (unmonitored run)) (λ at a u. functions-unseen run k at a u) side globals b s
