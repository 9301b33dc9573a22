-- Calls of functions keep what is kept, and so do programs.
use Rattle.std.proofs.Common.{◌≡◌, refl, subst, sym, ℕ, zero, suc, ◌-◌, length, List}
use Rattle.std.proofs.Common.{Option, Some, None, option_map}
use Rattle.rp_base.specs.declared.value.Oid.{Oid}
use Rattle.rp_base.specs.declared.value.Name.{Name}
use Rattle.rp_base.specs.declared.value.Side.{Side}
use Rattle.rp_base.specs.declared.value.Value.{Value}
use Rattle.rp_decl.specs.Records.{Class}
use Rattle.rp_proxy.specs.Taken.{taken}
use Rattle.rp_store.specs.Heap.{Owned, content_at}
use Rattle.rp_store.specs.Object as object
use Rattle.rp_store.specs.Object.{Content}
use Rattle.rp_meaning.specs.Binding.{Arguments}
use Rattle.rp_meaning.specs.Blocks.{Code, def, lambda}
use Rattle.rp_meaning.specs.Expressions.{empty_slots}
use Rattle.rp_meaning.specs.Frame.{Calls, Run}
use Rattle.rp_meaning.specs.Running.{calls, calls_within, code_called, frame_in, function_called, params_of, slots_for}
use Rattle.rp_meaning.specs.Running.{slots_taken, taken_all, value_of_code}
use Rattle.rp_meaning.specs.State.{State, heap_of}
use Rattle.rp_apart_laws.proofs.Lists.{each_append, each_made, each_replicate}
use Rattle.rp_apart_laws.specs.Apart.{Each, OnSome}
use Rattle.rp_keeper_laws.specs.Blocks.{CodeHas}
use Rattle.rp_keeper_laws.specs.Keepers.{Keeper, next_place}
use Rattle.rp_keeper_laws.proofs.Going as going
use Rattle.rp_keeper_laws.proofs.Going.{Any, CallsKeep, FitIn, IsKept, KeepsAt, Leads, Spot, bind_led, leads, made_led}
use Rattle.rp_keeper_laws.proofs.Going.{nothing, plain_leads, same, start}
use Rattle.rp_keeper_laws.proofs.Objects.{binds}
use Rattle.rp_keeper_laws.proofs.Trees.{block, expression}

-- the block of a side
abbrev pub spot : Side → ℕ → Spot
spot side number = record { side = side; block = number }

code_keeps : (k : Keeper) (side : Side) (number : ℕ) (code : Code)
    → CodeHas (k.Function side) (k.Block side) number code → KeepsAt k (spot side number) Any (value_of_code code)
code_keeps k side number (def ps b) has f c s h =
    going.bind (block k (spot side number) b has f c s h) (λ flow s p g h. same h tt)
code_keeps k side number (lambda ps x) has f c s h = going.forget (expression k (spot side number) x has f c s h)

slot_taken : (k : Keeper) (classes : List Class) (heap : List Owned) (side : Side) → k.Acts side → k.Kept classes heap
    → (v : Option Value) → OnSome (k.Held heap side) (option_map (taken heap side) v)
slot_taken k classes heap side acts h None = tt
slot_taken k classes heap side acts h (Some v) = k.held_taken classes heap side v acts h

-- what parameters are bound to, as code takes it, and the slots behind them
slots_held : (k : Keeper) (classes : List Class) (heap : List Owned) (side : Side) (locals : List Name)
    (bound : List (Option Value)) → k.Acts side → k.Kept classes heap
    → Each (OnSome (k.Held heap side)) (slots_for locals (slots_taken heap side bound))
slots_held k classes heap side locals bound acts h =
    let these : List (Option Value) = slots_taken heap side bound in
    each_append (OnSome (k.Held heap side)) these (empty_slots (length locals - length these))
    (each_made (OnSome (k.Held heap side)) (option_map (taken heap side)) (slot_taken k classes heap side acts h) bound)
    (each_replicate (OnSome (k.Held heap side)) (length locals - length these) None tt)

-- a call of code
record Entered (k : Keeper) (run : Run) (calls : Calls) : Type 0 where
  calls_keep : CallsKeep k calls
  runs : k.Runs run

called : {k : Keeper} {run : Run} {calls : Calls} → Entered k run calls → (side : Side) (number : ℕ) (within : Oid)
    (defaults : List Value) (code : Option Code) → (run.programs side).code number ≡ code → (a : Arguments) (s : State)
    → k.Acts side → k.Enters (heap_of s) side number within → IsKept k s
    → Leads k (heap_of s) (code_called run calls side number within defaults code a s)
called c side number within defaults None e a s acts enters h = nothing h
called {k} {run} {calls} c side number within defaults (Some code) e a s acts enters h =
    bind_led (plain_leads s h
    (binds side s.names (params_of code) defaults (taken_all (heap_of s) side a) s.plain (start k s h)))
    (λ bound u given g h.
    let heap : List Owned = heap_of u in
    let slots : List (Option Value) =
    slots_for ((run.programs side).layouts.locals number) (slots_taken heap side bound) in
    let these = k.entered run c.runs u.declarations.classes heap side number within code s.names defaults
    (taken_all (heap_of s) side a) s.plain bound slots h acts
    (k.enters_later (heap_of s) heap g side number within enters) e given refl
    (slots_held k u.declarations.classes heap side ((run.programs side).layouts.locals number) bound acts h) in
    made_led side (object.scope (Some number) (Some within) slots) u _ (these.0, these.1) h
    (λ v same_heap h. leads (code_keeps k side number code (k.code run c.runs side acts number code e)
    (frame_in run calls side number (record { 0 = length heap }))
    (record { calls = c.calls_keep; runs = c.runs; acts = acts; side = refl; block = refl }) v
    (h, subst (λ (heap : List Owned). k.Scope heap side number (next_place (heap_of u))) (sym same_heap) these.2))))

function_keeps : {k : Keeper} {run : Run} {calls : Calls} → Entered k run calls → (at : Oid) (content : Option Content)
    (a : Arguments) (s : State) → k.Usable at → content_at (heap_of s) at ≡ content → IsKept k s
    → Leads k (heap_of s) (function_called run calls content a s)
function_keeps {k} {run} c at (Some (object.function name side number within defaults)) a s usable e h =
    let these = k.enters s.declarations.classes (heap_of s) at name side number within defaults h usable e in
    called c side number within defaults ((run.programs side).code number) refl a s these.0 these.1 h
function_keeps c at _ a s usable e h = nothing h

within_keep : (k : Keeper) (run : Run) → k.Runs run → (n : ℕ) → CallsKeep k (calls_within run n)
within_keep k run runs zero at a s usable h = nothing h
within_keep k run runs (suc n) at a s usable h =
    function_keeps
    (record { calls_keep = λ at a s usable h. within_keep k run runs n at a s usable h; runs = runs }) at
    (content_at (heap_of s) at) a s usable refl h

pub calls_keep : (k : Keeper) (run : Run) → k.Runs run → CallsKeep k (calls run)
calls_keep k run runs at a s usable h = within_keep k run runs 1000 at a s usable h

-- a frame of a program, a function or a comprehension
pub frame_fits : (k : Keeper) (run : Run) → k.Runs run → (side : Side) (number : ℕ) (scope : Oid) → k.Acts side
    → FitIn k (spot side number) (frame_in run (calls run) side number scope)
frame_fits k run runs side number scope acts = record {
  calls = λ at a s usable h. calls_keep k run runs at a s usable h;
  runs = runs;
  acts = acts;
  side = refl;
  block = refl;
}
