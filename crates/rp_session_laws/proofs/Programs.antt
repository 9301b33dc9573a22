-- Calls of functions keep the setting, and so does a statement of a program.
use Rattle.std.proofs.Common.{ℕ, zero, suc, List, Option, Some, None}
use Rattle.rp_base.specs.declared.value.Oid.{Oid}
use Rattle.rp_base.specs.declared.value.Side.{Side}
use Rattle.rp_base.specs.declared.value.Value.{Value}
use Rattle.rp_ops.specs.Outcome as plain
use Rattle.rp_store.specs.Heap.{content_at}
use Rattle.rp_store.specs.Object as object
use Rattle.rp_store.specs.Object.{Content}
use Rattle.rp_meaning.specs.Binding.{bind}
use Rattle.rp_meaning.specs.Blocks.{Code, def, lambda}
use Rattle.rp_meaning.specs.Frame.{Calls, Run}
use Rattle.rp_meaning.specs.Running.{calls_within, code_called, frame_in, function_called, params_of, program_frame, slots_for, slots_taken, taken_all, value_of_code}
use Rattle.rp_meaning.specs.State.{heap_of}
use Rattle.rp_session_laws.specs.Setting.{Setting, CallsKeep, FunctionsKeep, Keeping, ProgramsKeep, setting_of}
use Rattle.rp_session_laws.proofs.Going as going
use Rattle.rp_session_laws.proofs.Going.{begins, op, same}
use Rattle.rp_session_laws.proofs.Trees.{block, expression, statement}

code_keeps : (code : Code) → Keeping (value_of_code code)
code_keeps (def ps b) k f c s h = going.bind (block b k f c s h) (λ flow s h. same h)
code_keeps (lambda ps x) k f c s h = expression x k f c s h

called : (run : Run) (calls : Calls) (k : Setting) → CallsKeep k calls → (side : Side) (number : ℕ) (within : Oid) (defaults : List Value) (code : Option Code)
    → CallsKeep k (λ at a s. code_called run calls side number within defaults code a s)
called run calls k c side number within defaults None at a s h = same h
called run calls k c side number within defaults (Some code) at a s h =
    going.bind (op (bind side s.names (params_of code) defaults (taken_all (heap_of s) side a) s.plain) s h) (λ bound s h.
    going.bind (op (plain.makes side (object.scope (Some number) (Some within) (slots_for ((run.programs side).layouts.locals number) (slots_taken (heap_of s) side bound))) s.plain) s h)
    (λ scope s h. code_keeps code k (frame_in run calls side number scope) c s h))

function_keeps : (run : Run) (calls : Calls) (k : Setting) → CallsKeep k calls → (content : Option Content)
    → CallsKeep k (λ at a s. function_called run calls content a s)
function_keeps run calls k c (Some (object.function name side number within defaults)) at a s h =
    called run calls k c side number within defaults ((run.programs side).code number) at a s h
function_keeps run calls k c _ at a s h = same h

within_keep : (run : Run) (k : Setting) (n : ℕ) → CallsKeep k (calls_within run n)
within_keep run k zero at a s h = same h
within_keep run k (suc n) at a s h =
    function_keeps run (λ at a s. calls_within run n at a s) k (λ at a s h. within_keep run k n at a s h) (content_at (heap_of s) at) at a s h

pub functions-keep : FunctionsKeep
functions-keep run k at a s h = within_keep run k 1000 at a s h

pub programs-keep : ProgramsKeep
programs-keep run side globals x s =
    statement x (setting_of s) (program_frame run side globals) (λ at a u h. functions-keep run (setting_of s) at a u h) s (begins s)
