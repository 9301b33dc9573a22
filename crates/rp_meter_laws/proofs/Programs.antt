-- Calls of functions add no step; and so do all the laws follow.
use Rattle.std.proofs.Common.{ℕ, zero, suc, List, Option, Some, None}
use Rattle.std.proofs.Math.Nat.{le_refl, le_trans}
use Rattle.rp_base.specs.declared.value.Oid.{Oid}
use Rattle.rp_base.specs.declared.value.Side.{Side}
use Rattle.rp_base.specs.declared.value.Value.{Value}
use Rattle.rp_store.specs.Heap.{content_at}
use Rattle.rp_store.specs.Object as object
use Rattle.rp_store.specs.Object.{Content}
use Rattle.rp_meaning.specs.Blocks.{Code, def, lambda}
use Rattle.rp_meaning.specs.Frame.{Calls, Frame, Run}
use Rattle.rp_meaning.specs.Running.{calls_within, code_called, frame_in, function_called, params_of, program_frame}
use Rattle.rp_meaning.specs.Running.{slots_for, slots_taken, taken_all, value_of_code}
use Rattle.rp_meaning.specs.State.{Outcome, State, heap_of}
use Rattle.rp_meter_laws.specs.Metered.{AddNone, AddingNone, BlocksAddNone, BuiltInsAddNone, ExpressionsAddNone}
use Rattle.rp_meter_laws.specs.Metered.{FunctionsAddNone, IsMetered, ProgramsAddNone, StatementsAddNone}
use Rattle.rp_meter_laws.proofs.AtMost.{CallsKeep, Keeping, Steady}
use Rattle.rp_meter_laws.proofs.Going as going
use Rattle.rp_meter_laws.proofs.Going.{op, same}
use Rattle.rp_meter_laws.proofs.Methods.{method_leaves}
use Rattle.rp_meter_laws.proofs.Natives.{function_leaves, print_line_leaves}
use Rattle.rp_meter_laws.proofs.Objects.{binds}
use Rattle.rp_meter_laws.proofs.Plainly.{makes}
use Rattle.rp_meter_laws.proofs.Trees.{block, expression, statement}

-- the built-in functions and methods

pub built_ins-add_none : BuiltInsAddNone
built_ins-add_none n = record {
  functions = λ names side id vs s. record { steps = (function_leaves names side id vs s (le_refl s.steps)).steps };
  methods = λ names side v id vs s. record { steps = (method_leaves side v id vs s (le_refl s.steps)).steps };
  lines = λ names vs s. record { steps = (print_line_leaves names vs s (le_refl s.steps)).steps };
}

-- calls

code_keeps : (code : Code) → Keeping (value_of_code code)
code_keeps (def ps b) k f c s h = going.bind (block b k f c s h) (λ flow s h. same h)
code_keeps (lambda ps x) k f c s h = expression x k f c s h

called : (run : Run) (calls : Calls) (k : ℕ) → Steady k calls run → (side : Side) (number : ℕ) (within : Oid)
    (defaults : List Value) (code : Option Code)
    → CallsKeep k (λ at a s. code_called run calls side number within defaults code a s)
called run calls k c side number within defaults None at a s h = same h
called run calls k c side number within defaults (Some code) at a s h =
    going.bind (op s (binds side s.names (params_of code) defaults (taken_all (heap_of s) side a) s.plain h))
    (λ bound s h.
    going.bind (op s (makes side (object.scope (Some number) (Some within)
    (slots_for ((run.programs side).layouts.locals number) (slots_taken (heap_of s) side bound))) s.plain h))
    (λ scope s h. code_keeps code k (frame_in run calls side number scope) c s h))

function_keeps : (run : Run) (calls : Calls) (k : ℕ) → Steady k calls run → (content : Option Content)
    → CallsKeep k (λ at a s. function_called run calls content a s)
function_keeps run calls k c (Some (object.function name side number within defaults)) at a s h =
    called run calls k c side number within defaults ((run.programs side).code number) at a s h
function_keeps run calls k c _ at a s h = same h

within_keep : (run : Run) (k : ℕ) → AddNone run.natives → (n : ℕ) → CallsKeep k (calls_within run n)
within_keep run k natives zero at a s h = same h
within_keep run k natives (suc n) at a s h =
    function_keeps run (λ at a s. calls_within run n at a s) k
    (record { calls = λ at a s h. within_keep run k natives n at a s h; natives = natives })
    (content_at (heap_of s) at) at a s h

pub functions-add_none : FunctionsAddNone
functions-add_none run natives at a s =
    record { steps = (within_keep run s.plain.steps natives 1000 at a s (le_refl s.plain.steps)).steps }

-- trees: where at most so many steps are left before as there are, no more are left behind

pub steady : (k : ℕ) (frame : Frame) → IsMetered frame → Steady k frame.calls frame.run
steady k frame m = record {
  calls = λ at a s h. same (le_trans (m.calls at a s).steps h);
  natives = m.natives;
}

adding : {A : Type 0} {does : Frame → State → Outcome A} → Keeping does → AddingNone does
adding keeps frame m s =
    record { steps = (keeps s.plain.steps frame (steady s.plain.steps frame m) s (le_refl s.plain.steps)).steps }

pub expressions-add_none : ExpressionsAddNone
expressions-add_none x frame m s = adding (expression x) frame m s

pub statements-add_none : StatementsAddNone
statements-add_none x frame m s = adding (statement x) frame m s

pub blocks-add_none : BlocksAddNone
blocks-add_none b frame m s = adding (block b) frame m s

pub programs-add_none : ProgramsAddNone
programs-add_none run natives side globals x s =
    statements-add_none x (program_frame run side globals)
    (record { calls = functions-add_none run natives; natives = natives }) s
