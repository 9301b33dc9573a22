-- What a call of a function does: it runs the function's code in a scope of its own, with the side of the function's owner (Python Language
-- Reference, Calls). How many calls may stand within one another is a rule of our own.
use Rattle.std.specs.Prelude.{ℕ, zero, suc, ◌-◌, List, ◌++◌, map, length, codes, option_map, Option, Some, None}
use Rattle.rp_base.specs.declared.kind.Kind.TheVariants.{RecursionError}
use Rattle.rp_base.specs.declared.value.Name.{Name}
use Rattle.rp_base.specs.declared.value.Oid.{Oid}
use Rattle.rp_base.specs.declared.value.Side.{Side}
use Rattle.rp_base.specs.declared.value.Value.{Value}
use Rattle.rp_ops.specs.Outcome.{gives, raises, on_value}
use Rattle.rp_proxy.specs.Taken.{taken}
use Rattle.rp_store.specs.Heap.{Owned, content_at}
use Rattle.rp_store.specs.Object as object
use Rattle.rp_store.specs.Object.{Content}
use Rattle.rp_tree.specs.Expressions as tree
use Rattle.rp_meaning.specs.Blocks.{Code, def, lambda}
use Rattle.rp_meaning.specs.BuiltIn.{not_called}
use Rattle.rp_meaning.specs.State.{State, Outcome, Flow, returned, plainly, makes, heap_of}
use Rattle.rp_meaning.specs.Binding.{Arguments, bind}
use Rattle.rp_meaning.specs.Frame.{Frame, Run, Calls, Meaning}
use Rattle.rp_meaning.specs.Expressions.{nil, empty_slots}
use Rattle.rp_meaning.specs.Meaning.{eval, block}

abbrev pub params_of : Code → tree.Params
params_of (def ps b) = ps
params_of (lambda ps x) = ps

-- `return` gives a value; a body that is left otherwise gives None
abbrev pub value_of : Flow → Value
value_of (returned v) = v
value_of _ = nil

abbrev pub value_of_code : Code → Meaning
value_of_code (def ps b) frame s = on_value (block b frame s) (λ flow s. gives (value_of flow) s)
value_of_code (lambda ps x) frame s = eval x frame s

-- the arguments as code of a side takes them
abbrev pub taken_all : List Owned → Side → Arguments → Arguments
taken_all heap side a = record { plain = map (taken heap side) a.plain; named = map (λ n. (n.0, taken heap side n.1)) a.named }

-- what parameters are bound to, as code of a side takes it: so it gets its defaults, too, as it gets arguments
abbrev pub slots_taken : List Owned → Side → List (Option Value) → List (Option Value)
slots_taken heap side bound = map (option_map (taken heap side)) bound

-- the slots of a new scope: those of the parameters, and an empty one for each other local name
abbrev pub slots_for : List Name → List (Option Value) → List (Option Value)
slots_for locals bound = bound ++ empty_slots (length locals - length bound)

-- code of a side, in a scope
abbrev pub frame_in : Run → Calls → Side → ℕ → Oid → Frame
frame_in run calls side block scope = record { run = run; calls = calls; side = side; block = block; scope = scope; handling = None }

-- binds the arguments, makes the scope, and runs the code of a block
abbrev pub code_called : Run → Calls → Side → ℕ → Oid → List Value → Option Code → Arguments → State → Outcome Value
code_called run calls side number within defaults None a s = not_called s
code_called run calls side number within defaults (Some code) a s =
    on_value (plainly (bind side s.names (params_of code) defaults (taken_all (heap_of s) side a)) s) (λ bound s.
    on_value (makes side (object.scope (Some number) (Some within) (slots_for ((run.programs side).layouts.locals number) (slots_taken (heap_of s) side bound))) s) (λ scope s.
    value_of_code code (frame_in run calls side number scope) s))

abbrev pub function_called : Run → Calls → Option Content → Arguments → State → Outcome Value
function_called run calls (Some (object.function name side number within defaults)) a s =
    code_called run calls side number within defaults ((run.programs side).code number) a s
function_called run calls _ a s = not_called s

-- a call of the function at a place, where so many calls may still be made within one another
abbrev pub calls_within : Run → ℕ → Calls
calls_within run zero at a s = raises RecursionError (codes "calls") s
calls_within run (suc n) at a s = function_called run (λ at a s. calls_within run n at a s) (content_at (heap_of s) at) a s

-- 1,000 calls may be active at once
abbrev pub calls : Run → Calls
calls run at a s = calls_within run 1000 at a s

-- the frame of a program's own statements
abbrev pub program_frame : Run → Side → Oid → Frame
program_frame run side globals = frame_in run (calls run) side 0 globals
