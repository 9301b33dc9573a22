-- What code sees while it runs: what stays the same in a run, and its own frame; and how it goes on by decisions and takes values
-- (zope.security, checkers and proxies).
use Rattle.std.specs.Prelude.{ℕ, suc, List, [], ◌∷◌, Bool, Option, Some, None, Ok, Err}
use Rattle.rp_base.specs.declared.native.NativeId.{NativeId}
use Rattle.rp_base.specs.declared.value.Name.{Name}
use Rattle.rp_base.specs.declared.value.Oid.{Oid}
use Rattle.rp_base.specs.declared.value.Raised.{Raised}
use Rattle.rp_base.specs.declared.value.Side.{Side}
use Rattle.rp_base.specs.declared.value.Value.{Value}
use Rattle.rp_base.specs.declared.value.Value.TheVariants as value
use Rattle.rp_checker.specs.RowOf.{Operation, reading, setting}
use Rattle.rp_ops.specs.Operand.{lent}
use Rattle.rp_ops.specs.Outcome as plain
use Rattle.rp_ops.specs.Outcome.{gives, ends, raises}
use Rattle.rp_base.specs.Names.{word_of}
use Rattle.rp_proxy.specs.Decide.{Monitor, Decision}
use Rattle.rp_proxy.specs.Taken.{taken}
use Rattle.rp_store.specs.Heap.{Owned}
use Rattle.rp_tree.specs.Statements as stmt_tree
use Rattle.rp_meaning.specs.Binding.{Arguments}
use Rattle.rp_meaning.specs.Blocks.{Code, code_in, of_stmts}
use Rattle.rp_meaning.specs.State.{State, Outcome, Flow, monitor_of, with_monitor, heap_of, done}
use Rattle.rp_meaning.specs.Scopes.{Layouts, Place, Slot, slot_at, held, with_slot_set, value_at, unbound_kind}

-- What built-in functions and methods do (Python Standard Library, Built-in functions, Built-in types), but for `getattr` and `setattr`, and for
-- `len` of instances.
pub record Natives : Type 0 where
  -- it is a function; a receiver's kind has such a method
  pub is_function : NativeId → Bool
  pub is_method : List Owned → Value → NativeId → Bool
  -- the name whose reading is decided on the i-th of so many arguments; none where the count is wrong
  pub needs : NativeId → ℕ → ℕ → Option Name
  -- what code of a side gets of a function, and of the method of a receiver that is bound for a side, where the names are these
  pub function : List (List ℕ) → Side → NativeId → List Value → plain.State → plain.Outcome Value
  pub method : List (List ℕ) → Side → Value → NativeId → List Value → plain.State → plain.Outcome Value
  -- the line that `print` makes of its arguments
  pub print_line : List (List ℕ) → List Value → plain.State → plain.Outcome (List ℕ)

-- a module or a script: its statements, what stands under the number of each of its functions, and the layouts of its code blocks
pub record Program : Type 0 where
  pub body : stmt_tree.Stmts
  pub code : ℕ → Option Code
  pub layouts : Layouts

-- its functions are found by the numbers of their nodes
abbrev pub program_of : stmt_tree.Stmts → Layouts → Program
program_of body layouts = record { body = body; code = code_in (of_stmts body); layouts = layouts }

-- what stays the same in a run
pub record Run : Type 0 where
  -- the program of each side
  pub programs : Side → Program
  pub natives : Natives
  -- `getattr` and `setattr` take the word as a name, which is the test `is_identifier_word` of rp_base; they refuse it (RestrictedPython)
  pub is_identifier : List ℕ → Bool
  pub is_forbidden : List ℕ → Bool
  -- how an operation on a value is decided
  pub decide : Value → Operation → Monitor → Decision × Monitor

-- what a call of the function at a place does
abbrev pub Calls : Type 0
Calls = Oid → Arguments → State → Outcome Value

-- where code runs
pub record Frame : Type 0 where
  pub run : Run
  -- what the calls do that this code makes
  pub calls : Calls
  -- whose code runs, the number of its block, and the place of its scope
  pub side : Side
  pub block : ℕ
  pub scope : Oid
  -- the exception that the handler took in whose block this code stands
  pub handling : Option Raised

-- what an expression does, and what a statement does
abbrev pub Meaning : Type 0
Meaning = Frame → State → Outcome Value

abbrev pub Doing : Type 0
Doing = Frame → State → Outcome Flow

-- names

abbrev pub layouts_of : Frame → Layouts
layouts_of frame = (frame.run.programs frame.side).layouts

abbrev pub place_of : Frame → Name → Place
place_of frame name = (layouts_of frame).place frame.block name

abbrev pub slot_of : Frame → Name → State → Option Slot
slot_of frame name s = slot_at (layouts_of frame) (heap_of s) frame.scope (place_of frame name) name

abbrev pub read_name : Name → Meaning
read_name name frame s = value_at frame.side (place_of frame name) (held (heap_of s) (slot_of frame name s)) (word_of s.names name) s

abbrev pub bind_name : Name → Value → Doing
bind_name name v frame s = done (with_slot_set (slot_of frame name s) (Some v) s)

-- the state with a name unbound
abbrev pub without_name : Name → Frame → State → State
without_name name frame s = with_slot_set (slot_of frame name s) None s

-- `del NAME`
abbrev pub unbind_name : Name → Doing
unbind_name name frame s = of (held (heap_of s) (slot_of frame name s)) where
  of : Option Value → Outcome Flow
  of (Some v) = done (without_name name frame s)
  of None = raises (unbound_kind (place_of frame name)) (word_of s.names name) s

-- decisions

abbrev pub on_decision : {A : Type 0} → Decision → State → (State → Outcome A) → Outcome A
on_decision (Ok nothing) s go = go s
on_decision (Err e) s go = ends e s

abbrev pub decided : {A : Type 0} → Decision × Monitor → State → (State → Outcome A) → Outcome A
decided d s go = on_decision d.0 (with_monitor d.1 s) go

-- goes on where the operation on the value may be done
abbrev pub asked : {A : Type 0} → Frame → Operation → Value → State → (State → Outcome A) → Outcome A
asked frame op v s go = decided (frame.run.decide v op (monitor_of s)) s go

-- goes on where the name may be read on the value, or set on it
abbrev pub asked_for : {A : Type 0} → Frame → Name → Value → State → (State → Outcome A) → Outcome A
asked_for frame name v s go = asked frame (reading (word_of s.names name)) v s go

abbrev pub asked_to_set : {A : Type 0} → Frame → Name → Value → State → (State → Outcome A) → Outcome A
asked_to_set frame name v s go = asked frame (setting (word_of s.names name)) v s go

-- goes on where what each of some arguments needs may be read on it, from left to right; these are the places of the arguments from i on
abbrev pub asked_if : {A : Type 0} → Frame → Option Name → Value → State → (State → Outcome A) → Outcome A
asked_if frame None v s go = go s
asked_if frame (Some name) v s go = asked_for frame name v s go

abbrev pub asked_each : {A : Type 0} → Frame → (ℕ → Option Name) → ℕ → List Value → State → (State → Outcome A) → Outcome A
asked_each frame needs i [] s go = go s
asked_each frame needs i (v ∷ vs) s go = asked_if frame (needs i) v s (λ s. asked_each frame needs (suc i) vs s go)

-- values that code gets

abbrev pub takes : Value → Frame → State → Outcome Value
takes v frame s = gives (taken (heap_of s) frame.side v) s

-- what was got through a proxy is lent
abbrev pub through : Value → Value → Value
through (value.Prox at) v = lent v
through _ v = v

-- what was got through a value
abbrev pub got : Value → Value → Frame → State → Outcome Value
got from v frame s = takes (through from v) frame s
