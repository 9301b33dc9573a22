-- Calls of functions leave an object that is fixed, and so does code of any frame; and so do the monitors.
use Rattle.std.proofs.Common.{ℕ, zero, suc, List, Option, Some, None}
use Rattle.rp_base.specs.declared.value.Oid.{Oid}
use Rattle.rp_base.specs.declared.value.Side.{Side}
use Rattle.rp_base.specs.declared.value.Value.{Value}
use Rattle.rp_store.specs.Heap.{content_at}
use Rattle.rp_store.specs.Object as object
use Rattle.rp_store.specs.Object.{Content}
use Rattle.rp_meaning.specs.Blocks.{Code, def, lambda}
use Rattle.rp_meaning.specs.Frame.{Calls, Run}
use Rattle.rp_meaning.specs.Running.{calls, calls_within, code_called, frame_in, function_called, params_of, slots_for}
use Rattle.rp_meaning.specs.Running.{slots_taken, taken_all, value_of_code}
use Rattle.rp_meaning.specs.State.{heap_of}
use Rattle.rp_fixed_laws.specs.Fixed.{CallsStay, EachFrameIsSteady, Fixed, FunctionsStay, IsQuietRun, Staying, Steady}
use Rattle.rp_fixed_laws.proofs.Going as going
use Rattle.rp_fixed_laws.proofs.Going.{op, same}
use Rattle.rp_fixed_laws.proofs.Objects.{binds}
use Rattle.rp_fixed_laws.proofs.Plainly.{makes}
use Rattle.rp_fixed_laws.proofs.Trees.{block, expression}

code_stays : (code : Code) → Staying (value_of_code code)
code_stays (def ps b) k f c s h = going.bind (block b k f c s h) (λ flow s h. same h)
code_stays (lambda ps x) k f c s h = expression x k f c s h

called : (run : Run) (calls : Calls) (k : Fixed) → Steady k calls run → (side : Side) (number : ℕ) (within : Oid)
    (defaults : List Value) (code : Option Code)
    → CallsStay k (λ at a s. code_called run calls side number within defaults code a s)
called run calls k c side number within defaults None at a s h = same h
called run calls k c side number within defaults (Some code) at a s h =
    going.bind (op s (binds side s.names (params_of code) defaults (taken_all (heap_of s) side a) s.plain h))
    (λ bound s h.
    going.bind (op s (makes side (object.scope (Some number) (Some within)
    (slots_for ((run.programs side).layouts.locals number) (slots_taken (heap_of s) side bound))) s.plain h))
    (λ scope s h. code_stays code k (frame_in run calls side number scope) c s h))

function_stays : (run : Run) (calls : Calls) (k : Fixed) → Steady k calls run → (content : Option Content)
    → CallsStay k (λ at a s. function_called run calls content a s)
function_stays run calls k c (Some (object.function name side number within defaults)) at a s h =
    called run calls k c side number within defaults ((run.programs side).code number) at a s h
function_stays run calls k c _ at a s h = same h

within_stay : (run : Run) (k : Fixed) → IsQuietRun run → (n : ℕ) → CallsStay k (calls_within run n)
within_stay run k quiet zero at a s h = same h
within_stay run k quiet (suc n) at a s h =
    function_stays run (λ at a s. calls_within run n at a s) k
    (record { calls = λ at a s h. within_stay run k quiet n at a s h; quiet = quiet })
    (content_at (heap_of s) at) at a s h

pub functions_stay : FunctionsStay
functions_stay run k quiet at a s h = within_stay run k quiet 1000 at a s h

pub each_frame_is_steady : EachFrameIsSteady
each_frame_is_steady run side number scope quiet k =
    record { calls = λ at a s h. functions_stay run k quiet at a s h; quiet = quiet }
