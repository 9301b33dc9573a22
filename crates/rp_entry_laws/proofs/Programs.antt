-- Calls of functions add such entries alone, and so does a statement of a program.
use Rattle.std.proofs.Common.{ℕ, zero, suc, List, Option, Some, None}
use Rattle.rp_base.specs.declared.value.Oid.{Oid}
use Rattle.rp_base.specs.declared.value.Side.{Side}
use Rattle.rp_base.specs.declared.value.Value.{Value}
use Rattle.rp_ops.specs.Outcome as plain
use Rattle.rp_store.specs.Heap.{content_at}
use Rattle.rp_store.specs.Object as object
use Rattle.rp_store.specs.Object.{Content}
use Rattle.rp_meaning.specs.Binding.{bind}
use Rattle.rp_meaning.specs.Blocks.{Code, def, lambda}
use Rattle.rp_meaning.specs.Frame.{Calls, Run}
use Rattle.rp_meaning.specs.Running.{calls_within, code_called, frame_in, function_called, params_of, program_frame, slots_for, slots_taken, taken_all, value_of_code}
use Rattle.rp_meaning.specs.State.{heap_of}
use Rattle.rp_entry_laws.specs.Entries.{Trail, CallsAdd, FunctionsAdd, IsMonitored, Adding, ProgramsAdd, trail_of}
use Rattle.rp_entry_laws.proofs.Going as going
use Rattle.rp_entry_laws.proofs.Going.{begins, op, same}
use Rattle.rp_entry_laws.proofs.Trees.{block, expression, statement}

code_adds : (code : Code) → Adding (value_of_code code)
code_adds (def ps b) k f c s h = going.bind (block b k f c s h) (λ flow s h. same h)
code_adds (lambda ps x) k f c s h = expression x k f c s h

module _ (run : Run) (m : IsMonitored run) (k : Trail) where
  called : (calls : Calls) → CallsAdd k calls → (side : Side) (number : ℕ) (within : Oid) (defaults : List Value) (code : Option Code)
      → CallsAdd k (λ at a s. code_called run calls side number within defaults code a s)
  called calls c side number within defaults None at a s h = same h
  called calls c side number within defaults (Some code) at a s h =
      going.bind (op (bind side s.names (params_of code) defaults (taken_all (heap_of s) side a) s.plain) s h) (λ bound s h.
      going.bind (op (plain.makes side (object.scope (Some number) (Some within) (slots_for ((run.programs side).layouts.locals number) (slots_taken (heap_of s) side bound))) s.plain) s h)
      (λ scope s h. code_adds code k (frame_in run calls side number scope) (m, c) s h))

  function_adds : (calls : Calls) → CallsAdd k calls → (content : Option Content)
      → CallsAdd k (λ at a s. function_called run calls content a s)
  function_adds calls c (Some (object.function name side number within defaults)) at a s h =
      called calls c side number within defaults ((run.programs side).code number) at a s h
  function_adds calls c _ at a s h = same h

  within_add : (n : ℕ) → CallsAdd k (calls_within run n)
  within_add zero at a s h = same h
  within_add (suc n) at a s h =
      function_adds (λ at a s. calls_within run n at a s) (λ at a s h. within_add n at a s h) (content_at (heap_of s) at) at a s h

pub functions-add : FunctionsAdd
functions-add run m k at a s h = within_add run m k 1000 at a s h

pub programs-add : ProgramsAdd
programs-add run m side globals x s =
    statement x (trail_of s) (program_frame run side globals) (m, λ at a u h. functions-add run m (trail_of s) at a u h) s (begins s)
