-- Walks over values, loops, and tests of truth (Python Language Reference, Data model, iterables; The while statement, The for statement; Boolean
-- operations). Of the code's loops stands here a recursion that does one turn after another.
use Rattle.std.specs.Prelude.{ℕ, zero, suc, ◌+◌, option_map, Option, Some, None}
use Rattle.rp_base.specs.declared.word.TheConstants.{ITER, BOOL}
use Rattle.rp_base.specs.declared.value.Value.{Value}
use Rattle.rp_ops.specs.Operand.{truth_of}
use Rattle.rp_ops.specs.Outcome.{no_step, gives, ends, on_value, on_found}
use Rattle.rp_ops.specs.Walk.{Cursor, walk_of, next_of}
use Rattle.rp_proxy.specs.Taken.{taken}
use Rattle.rp_meaning.specs.State.{State, Outcome, Flow, next, broke, continued, returned, plainly, done, heap_of, choose}
use Rattle.rp_meaning.specs.Frame.{Frame, Doing, asked_for}

-- begins a walk, once that is decided
abbrev pub walk : Value → Frame → State → Outcome Cursor
walk v frame s = asked_for frame ITER v s (λ s. on_found (walk_of (heap_of s) v) s gives)

-- the next element as the code that walks takes it, and where the walk then stands; there may be none
abbrev pub next_element : Frame → Cursor → State → Outcome (Option (Value × Cursor))
next_element frame c s = on_value (plainly (next_of c) s) (λ e s. gives (option_map (λ e. (taken (heap_of s) frame.side e.0, e.1)) e) s)

-- loops

-- goes on with the next turn after the block of a turn, unless that leaves the loop
abbrev pub on_turn : Outcome Flow → (State → Outcome Flow) → Outcome Flow
on_turn o go = on_value o by where
  by : Flow → State → Outcome Flow
  by next s = go s
  by continued s = go s
  by broke s = done s
  by (returned v) s = gives (returned v) s

-- goes on with a turn, where there is one more
abbrev pub on_more : {W : Type 0} → Option (Value × W) → State → (Value → W → State → Outcome Flow) → Outcome Flow
on_more None s go = done s
on_more (Some e) s go = go e.0 e.1 s

-- whether there is one more turn of a loop that stands there, with what, and where the loop then stands
abbrev pub More : Type 0 → Type 0
More W = W → State → Outcome (Option (Value × W))

-- At most so many turns of a loop: `more` tells whether there is another turn, and with what; `body` does it. Each turn takes a step, so a number
-- that is greater than that of the steps left is never reached.
abbrev pub turns : {W : Type 0} → ℕ → More W → (Value → State → Outcome Flow) → W → State → Outcome Flow
turns zero more body w s = ends no_step s
turns (suc n) more body w s = on_value (more w s) (λ e s. on_more e s (λ v w s. on_turn (body v s) (λ s. turns n more body w s)))

abbrev pub loop : {W : Type 0} → More W → (Value → State → Outcome Flow) → W → State → Outcome Flow
loop more body w s = turns (s.plain.steps + 1) more body w s

-- a turn for each element that is left of a walk
abbrev pub each : (Value → Doing) → Cursor → Doing
each body c frame s = loop (next_element frame) (λ v s. body v frame s) c s

-- goes on by the truth of a value, which is decided
abbrev pub on_truth : {A : Type 0} → Value → Frame → State → (State → Outcome A) → (State → Outcome A) → Outcome A
on_truth v frame s this other = asked_for frame BOOL v s (λ s. choose (truth_of (heap_of s) v) this other s)
