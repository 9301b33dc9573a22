-- Calls of functions leave an object to which nothing refers.
use Rattle.std.proofs.Common.{ℕ, zero, suc, ◌-◌, length, List}
use Rattle.std.proofs.Common.{Option, Some, None, option_map}
use Rattle.rp_base.specs.declared.value.Oid.{Oid}
use Rattle.rp_base.specs.declared.value.Name.{Name}
use Rattle.rp_base.specs.declared.value.Side.{Side}
use Rattle.rp_base.specs.declared.value.Value.{Value}
use Rattle.rp_proxy.specs.Taken.{taken}
use Rattle.rp_store.specs.Heap.{Owned, content_at}
use Rattle.rp_store.specs.Object as object
use Rattle.rp_store.specs.Object.{Content}
use Rattle.rp_meaning.specs.Binding.{Arguments}
use Rattle.rp_meaning.specs.Blocks.{Code, def, lambda}
use Rattle.rp_meaning.specs.Expressions.{empty_slots}
use Rattle.rp_meaning.specs.Frame.{Calls, Run}
use Rattle.rp_meaning.specs.Running.{calls, calls_within, code_called, frame_in, function_called, params_of, slots_for}
use Rattle.rp_meaning.specs.Running.{slots_taken, taken_all, value_of, value_of_code}
use Rattle.rp_meaning.specs.State.{Flow, broke, continued, heap_of, next, returned}
use Rattle.rp_fixed_laws.specs.Fixed.{IsQuietRun, Placed}
use Rattle.rp_apart_laws.specs.Apart.{ArgumentsAvoid, Avoids, CallsStay, ContentAvoids, EachFrameLeavesAlone, FlowAvoids}
use Rattle.rp_apart_laws.specs.Apart.{FunctionsStay, IsOther, OnSome}
use Rattle.rp_apart_laws.proofs.Going as going
use Rattle.rp_apart_laws.proofs.Going.{op, same}
use Rattle.rp_apart_laws.proofs.Lists.{each_append, each_map, each_replicate}
use Rattle.rp_apart_laws.proofs.Objects.{SlotsAvoid, binds}
use Rattle.rp_apart_laws.proofs.Operations.{Values, taken_avoids}
use Rattle.rp_apart_laws.proofs.Parts.{Means}
use Rattle.rp_apart_laws.proofs.Plainly.{makes, read_avoids}
use Rattle.rp_apart_laws.proofs.Trees.{block, expression}

given_back : (a : Oid) (flow : Flow) → FlowAvoids a flow → Avoids a (value_of flow)
given_back a next p = tt
given_back a broke p = tt
given_back a continued p = tt
given_back a (returned v) p = p

code_stays : (code : Code) → Means (value_of_code code)
code_stays (def ps b) k f c s h = going.bind (block b k f c s h) (λ flow p s h. same h (given_back k.at flow p))
code_stays (lambda ps x) k f c s h = expression x k f c s h

all_taken : (a : Oid) (heap : List Owned) (side : Side) (given : Arguments) → ArgumentsAvoid a given
    → ArgumentsAvoid a (taken_all heap side given)
all_taken a heap side given p = record {
  plain = each_map (Avoids a) (Avoids a) (taken heap side) (taken_avoids a heap side) given.plain p.plain;
  named = each_map (λ (n : List ℕ × Value). Avoids a n.1) (λ (n : List ℕ × Value). Avoids a n.1)
      (λ (n : List ℕ × Value). (n.0, taken heap side n.1)) (λ n q. taken_avoids a heap side n.1 q) given.named p.named;
}

slot_taken : (a : Oid) (heap : List Owned) (side : Side) (v : Option Value) → OnSome (Avoids a) v
    → OnSome (Avoids a) (option_map (taken heap side) v)
slot_taken a heap side None p = tt
slot_taken a heap side (Some v) p = taken_avoids a heap side v p

-- what parameters are bound to, as code takes it
bound_taken : (k : Placed) (heap : List Owned) (side : Side) (bound : List (Option Value)) → SlotsAvoid k bound
    → SlotsAvoid k (slots_taken heap side bound)
bound_taken k heap side bound p =
    each_map (OnSome (Avoids k.at)) (OnSome (Avoids k.at)) (option_map (taken heap side)) (slot_taken k.at heap side)
    bound p

slots_avoid : (k : Placed) (locals : List Name) (bound : List (Option Value)) → SlotsAvoid k bound
    → SlotsAvoid k (slots_for locals bound)
slots_avoid k locals bound p =
    each_append (OnSome (Avoids k.at)) bound (empty_slots (length locals - length bound)) p
    (each_replicate (OnSome (Avoids k.at)) (length locals - length bound) None tt)

called : (run : Run) (calls : Calls) (k : Placed) → CallsStay k calls → IsQuietRun run → (side : Side) (number : ℕ) (within : Oid)
    (defaults : List Value) (code : Option Code) → IsOther k.at within → Values k defaults
    → CallsStay k (λ at a s. code_called run calls side number within defaults code a s)
called run calls k c quiet side number within defaults None other p at a s q h = same h tt
called run calls k c quiet side number within defaults (Some code) other p at a s q h =
    going.bind (op s h (binds side s.names (params_of code) defaults (taken_all (heap_of s) side a) p
    (all_taken k.at (heap_of s) side a q) s.plain h.heap))
    (λ bound r s h.
    going.bind (op s h (makes side (object.scope (Some number) (Some within)
    (slots_for ((run.programs side).layouts.locals number) (slots_taken (heap_of s) side bound))) (
      other,
      slots_avoid k ((run.programs side).layouts.locals number) (slots_taken (heap_of s) side bound)
          (bound_taken k (heap_of s) side bound r),
    ) s.plain h.heap))
    (λ scope inner s h. code_stays code k (frame_in run calls side number scope)
    (record { calls = c; quiet = quiet; scope = inner }) s h))

function_stays : (run : Run) (calls : Calls) (k : Placed) → CallsStay k calls → IsQuietRun run → (content : Option Content)
    → OnSome (ContentAvoids k.at) content → CallsStay k (λ at a s. function_called run calls content a s)
function_stays run calls k c quiet (Some (object.function name side number within defaults)) p at a s q h =
    called run calls k c quiet side number within defaults ((run.programs side).code number) p.0 p.1 at a s q h
function_stays run calls k c quiet _ p at a s q h = same h tt

within_stay : (run : Run) (k : Placed) → IsQuietRun run → (n : ℕ) → CallsStay k (calls_within run n)
within_stay run k quiet zero at a s q h = same h tt
within_stay run k quiet (suc n) at a s q h =
    function_stays run (λ at a s. calls_within run n at a s) k
    (λ at a s q h. within_stay run k quiet n at a s q h) quiet
    (content_at (heap_of s) at) (read_avoids k.at (heap_of s) at h.heap.others) at a s q h

pub functions_stay : FunctionsStay
functions_stay run k quiet at a s q h = within_stay run k quiet 1000 at a s q h

pub each_frame_leaves_alone : EachFrameLeavesAlone
each_frame_leaves_alone run side number scope quiet =
    record { calls = λ k at a s q h. functions_stay run k quiet at a s q h; quiet = quiet }
