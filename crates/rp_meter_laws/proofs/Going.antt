-- How going on adds no step.
use Rattle.std.proofs.Common.{◌≡◌, refl, ℕ, zero, suc, Bool, true, false, List, [], ◌∷◌, Option, Some, None}
use Rattle.std.proofs.Common.{Result, Ok, Err}
use Rattle.rp_base.specs.Names.{word_of}
use Rattle.rp_base.specs.declared.value.Name.{Name}
use Rattle.rp_base.specs.declared.value.Raised.{Raised}
use Rattle.rp_base.specs.declared.value.Value.{Value}
use Rattle.rp_checker.specs.RowOf.{Operation, reading, setting}
use Rattle.rp_ops.specs.Outcome as plain
use Rattle.rp_ops.specs.Outcome.{End, gives, on_answer, on_value, on_found}
use Rattle.rp_proxy.specs.Decide.{Decision, Monitor}
use Rattle.rp_meaning.specs.Frame.{Frame, asked, asked_for, asked_to_set, asked_if, asked_each, on_decision}
use Rattle.rp_meaning.specs.Scopes.{Slot, with_slot_set}
use Rattle.rp_meaning.specs.Special.{Special, on_special}
use Rattle.rp_meaning.specs.State.{State, Outcome, Flow, next, broke, continued, returned, choose, on_flow, on_next}
use Rattle.rp_meaning.specs.State.{stepped, charged, lifted, monitor_of, with_monitor}
use Rattle.rp_meaning.specs.Walks.{More, on_turn, on_more, turns}
use Rattle.rp_meter_laws.proofs.AtMost.{IsIn, Keeps}
use Rattle.rp_meter_laws.proofs.Plainly as plainly
use Rattle.rp_meter_laws.proofs.Plainly.{Leaves}

-- each of a list is such
abbrev pub Each : {A : Type 0} → (A → Type 0) → List A → Type 0
Each P [] = Unit {0}
Each P (x ∷ xs) = P x × Each P xs

-- something is done in a state, with at most so many steps left before and behind
abbrev pub Does : {A : Type 0} → ℕ → (State → Outcome A) → Type 0
Does k does = (s : State) → IsIn k s → Keeps (does s) k

-- in the state that is left
pub same : {A : Type 0} {k : ℕ} {o : Outcome A} → IsIn k o.state → Keeps o k
same h = record { steps = h }

pub bind : {A B : Type 0} {k : ℕ} {o : Outcome A} {go : A → State → Outcome B}
    → Keeps o k → ((a : A) → Does k (go a)) → Keeps (on_value o go) k
bind {A} {B} {k} {o} {go} h more = by o.answer where
  by : (answer : Result A End) → Keeps (on_answer answer o.state go) k
  by (Ok a) = more a o.state h.steps
  by (Err e) = same h.steps

-- a plain operation
pub op : {A : Type 0} {k : ℕ} {o : plain.Outcome A} (s : State) → Leaves k o → Keeps (lifted o s) k
op s h = same h.steps

pub found : {A B : Type 0} {k : ℕ} (r : Result A Raised) (s : State) {go : A → State → Outcome B}
    → IsIn k s → ((a : A) → Does k (go a)) → Keeps (on_found r s go) k
found {A} {B} {k} r s {go} h more = by r where
  by : (r : Result A Raised) → Keeps (on_found r s go) k
  by (Ok a) = more a s h
  by (Err e) = same h

pub chosen : {A : Type 0} {k : ℕ} (b : Bool) (this other : State → Outcome A) {s : State}
    → Keeps (this s) k → Keeps (other s) k → Keeps (choose b this other s) k
chosen {A} {k} b this other {s} h i = by b where
  by : (b : Bool) → Keeps (choose b this other s) k
  by true = h
  by false = i

pub step : {A : Type 0} {k : ℕ} (s : State) {go : State → Outcome A} → IsIn k s → Does k go → Keeps (stepped s go) k
step s h more = bind (op s (plainly.step {go = gives (tt {0})} s.plain h (λ s h. plainly.kept h))) (λ _ s h. more s h)

pub charge : {A : Type 0} {k : ℕ} (cells : ℕ) (s : State) {go : State → Outcome A} → IsIn k s → Does k go
    → Keeps (charged cells s go) k
charge cells s h more = bind (op s (plainly.charge {go = gives (tt {0})} cells s.plain h (λ s h. plainly.kept h)))
    (λ _ s h. more s h)

-- flows

pub flow : {k : ℕ} (f : Flow) (s : State) {go : State → Outcome Flow} → IsIn k s → Does k go → Keeps
    (on_flow f s go) k
flow {k} f s {go} h more = by f where
  by : (f : Flow) → Keeps (on_flow f s go) k
  by next = more s h
  by broke = same h
  by continued = same h
  by (returned v) = same h

pub andthen : {k : ℕ} {o : Outcome Flow} {go : State → Outcome Flow} → Keeps o k → Does k go → Keeps
    (on_next o go) k
andthen h more = bind h (λ f s h. flow f s h more)

pub turn : {k : ℕ} {o : Outcome Flow} {go : State → Outcome Flow} → Keeps o k → Does k go → Keeps (on_turn o go) k
turn {k} {o} {go} h more = by o.answer where
  by : (answer : Result Flow End) → Keeps (on_turn (record { answer = answer; state = o.state }) go) k
  by (Ok next) = more o.state h.steps
  by (Ok continued) = more o.state h.steps
  by (Ok broke) = same h.steps
  by (Ok (returned v)) = same h.steps
  by (Err e) = same h.steps

pub more_keeps : {W : Type 0} {k : ℕ} (e : Option (Value × W)) (s : State) {go : Value → W → State → Outcome Flow}
    → IsIn k s → ((v : Value) (w : W) → Does k (go v w)) → Keeps (on_more e s go) k
more_keeps {W} {k} e s {go} h more = by e where
  by : (e : Option (Value × W)) → Keeps (on_more e s go) k
  by None = same h
  by (Some e) = more e.0 e.1 s h

pub turns_keep : {W : Type 0} {k : ℕ} {more : More W} {body : Value → State → Outcome Flow} (n : ℕ)
    → ((w : W) → Does k (more w)) → ((v : Value) → Does k (body v)) → (w : W) → Does k (turns n more body w)
turns_keep zero m b w s h = same h
turns_keep (suc n) m b w s h =
    bind (m w s h) (λ e s h. more_keeps e s h (λ v w s h. turn (b v s h) (λ s h. turns_keep n m b w s h)))

-- decisions, which see no steps

pub decision : {A : Type 0} {k : ℕ} (d : Decision) (s : State) {go : State → Outcome A} → IsIn k s → Does k go
    → Keeps (on_decision d s go) k
decision {A} {k} d s {go} h more = by d where
  by : (d : Decision) → Keeps (on_decision d s go) k
  by (Ok nothing) = more s h
  by (Err e) = same h

pub ask : {A : Type 0} {k : ℕ} (frame : Frame) (op : Operation) (v : Value) (s : State) {go : State → Outcome A}
    → IsIn k s → Does k go → Keeps (asked frame op v s go) k
ask frame op v s h more =
    let d : Decision × Monitor = frame.run.decide v op (monitor_of s) in decision d.0 (with_monitor d.1 s) h more

pub ask_for : {A : Type 0} {k : ℕ} (frame : Frame) (n : Name) (v : Value) (s : State) {go : State → Outcome A}
    → IsIn k s → Does k go → Keeps (asked_for frame n v s go) k
ask_for frame n v s h more = ask frame (reading (word_of s.names n)) v s h more

pub ask_to_set : {A : Type 0} {k : ℕ} (frame : Frame) (n : Name) (v : Value) (s : State) {go : State → Outcome A}
    → IsIn k s → Does k go → Keeps (asked_to_set frame n v s go) k
ask_to_set frame n v s h more = ask frame (setting (word_of s.names n)) v s h more

ask_if : {A : Type 0} {k : ℕ} (frame : Frame) (n : Option Name) (v : Value) (s : State) {go : State → Outcome A}
    → IsIn k s → Does k go → Keeps (asked_if frame n v s go) k
ask_if frame None v s h more = more s h
ask_if frame (Some n) v s h more = ask_for frame n v s h more

pub ask_each : {A : Type 0} {k : ℕ} (frame : Frame) (needs : ℕ → Option Name) (i : ℕ) (vs : List Value) (s : State)
    {go : State → Outcome A} → IsIn k s → Does k go → Keeps (asked_each frame needs i vs s go) k
ask_each frame needs i [] s h more = more s h
ask_each frame needs i (v ∷ vs) s h more =
    ask_if frame (needs i) v s h (λ s h. ask_each frame needs (suc i) vs s h more)

-- special methods

pub on_method : {A : Type 0} {k : ℕ} (m : Option Special) (call : Special → State → Outcome A)
    (otherwise : State → Outcome A) (s : State)
    → ((m : Special) → Keeps (call m s) k) → Keeps (otherwise s) k → Keeps (on_special m call otherwise s) k
on_method {A} {k} m call otherwise s h i = by m where
  by : (m : Option Special) → Keeps (on_special m call otherwise s) k
  by (Some m) = h m
  by None = i

-- states

pub slot_set : {k : ℕ} (slot : Option Slot) (v : Option Value) (s : State) → IsIn k s
    → IsIn k (with_slot_set slot v s)
slot_set None v s h = h
slot_set (Some slot) v s h = h

-- cases by equations, for what is done by a choice that has no name of its own

pub by_option : {X P : Type 0} (x : Option X) → (x ≡ None → P) → ((y : X) → x ≡ Some y → P) → P
by_option None none some = none refl
by_option (Some y) none some = some y refl
