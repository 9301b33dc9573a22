-- How going on leaves an object that is fixed.
use Rattle.std.proofs.Common.{◌≡◌, refl, ap, ◌∙◌, ℕ, zero, suc, Bool, true, false, List, [], ◌∷◌, Option, Some, None}
use Rattle.std.proofs.Common.{Result, Ok, Err}
use Rattle.rp_base.specs.Names.{word_of}
use Rattle.rp_base.specs.declared.value.Name.{Name}
use Rattle.rp_base.specs.declared.value.Oid.{Oid}
use Rattle.rp_base.specs.declared.value.Raised.{Raised}
use Rattle.rp_base.specs.declared.value.Value.{Value}
use Rattle.rp_checker.specs.RowOf.{Operation, reading, setting}
use Rattle.rp_ops.specs.Outcome as plain
use Rattle.rp_ops.specs.Outcome.{End, gives, on_answer, on_value, on_found}
use Rattle.rp_proxy.specs.Decide.{Decision, Monitor}
use Rattle.rp_store.specs.Heap.{Owned, content_at}
use Rattle.rp_store.specs.Object.{Content}
use Rattle.rp_store.specs.Writers.{with_slot}
use Rattle.rp_meaning.specs.Frame.{Frame, asked, asked_for, asked_to_set, asked_if, asked_each, on_decision}
use Rattle.rp_meaning.specs.Scopes.{Slot, with_slot_set}
use Rattle.rp_meaning.specs.Special.{Special, on_special}
use Rattle.rp_meaning.specs.State.{State, Outcome, Flow, next, broke, continued, returned, choose, on_flow, on_next}
use Rattle.rp_meaning.specs.State.{stepped, charged, lifted, monitor_of, with_monitor, heap_of, with_change}
use Rattle.rp_meaning.specs.Walks.{More, on_turn, on_more, turns}
use Rattle.rp_fixed_laws.specs.Fixed.{Fixed, IsIn, Stays, Steady}
use Rattle.rp_fixed_laws.proofs.Plainly as plainly
use Rattle.rp_fixed_laws.proofs.Plainly.{Leaves, Spares, changed, slot_spares}

-- each of a list is such
abbrev pub Each : {A : Type 0} → (A → Type 0) → List A → Type 0
Each P [] = Unit {0}
Each P (x ∷ xs) = P x × Each P xs

-- something is done in a state, as far as the object shows
abbrev pub Does : {A : Type 0} → Fixed → (State → Outcome A) → Type 0
Does k does = (s : State) → IsIn k s → Stays (does s) k

-- the state that is left shows the same
pub same : {A : Type 0} {k : Fixed} {o : Outcome A} → IsIn k o.state → Stays o k
same h = record { there = h }

pub bind : {A B : Type 0} {k : Fixed} {o : Outcome A} {go : A → State → Outcome B}
    → Stays o k → ((a : A) → Does k (go a)) → Stays (on_value o go) k
bind {A} {B} {k} {o} {go} h more = by o.answer where
  by : (answer : Result A End) → Stays (on_answer answer o.state go) k
  by (Ok a) = more a o.state h.there
  by (Err e) = same h.there

-- a plain operation
pub op : {A : Type 0} {k : Fixed} {o : plain.Outcome A} (s : State) → Leaves k.object o → Stays (lifted o s) k
op s h = same h.there

pub found : {A B : Type 0} {k : Fixed} (r : Result A Raised) (s : State) {go : A → State → Outcome B}
    → IsIn k s → ((a : A) → Does k (go a)) → Stays (on_found r s go) k
found {A} {B} {k} r s {go} h more = by r where
  by : (r : Result A Raised) → Stays (on_found r s go) k
  by (Ok a) = more a s h
  by (Err e) = same h

pub chosen : {A : Type 0} {k : Fixed} (b : Bool) (this other : State → Outcome A) {s : State}
    → Stays (this s) k → Stays (other s) k → Stays (choose b this other s) k
chosen {A} {k} b this other {s} h i = by b where
  by : (b : Bool) → Stays (choose b this other s) k
  by true = h
  by false = i

pub step : {A : Type 0} {k : Fixed} (s : State) {go : State → Outcome A} → IsIn k s → Does k go → Stays (stepped s go) k
step s h more = bind (op s (plainly.step {go = gives (tt {0})} s.plain h (λ s h. plainly.kept h))) (λ _ s h. more s h)

pub charge : {A : Type 0} {k : Fixed} (cells : ℕ) (s : State) {go : State → Outcome A} → IsIn k s → Does k go
    → Stays (charged cells s go) k
charge cells s h more = bind (op s (plainly.charge {go = gives (tt {0})} cells s.plain h (λ s h. plainly.kept h)))
    (λ _ s h. more s h)

-- flows

pub flow : {k : Fixed} (f : Flow) (s : State) {go : State → Outcome Flow} → IsIn k s → Does k go → Stays
    (on_flow f s go) k
flow {k} f s {go} h more = by f where
  by : (f : Flow) → Stays (on_flow f s go) k
  by next = more s h
  by broke = same h
  by continued = same h
  by (returned v) = same h

pub andthen : {k : Fixed} {o : Outcome Flow} {go : State → Outcome Flow} → Stays o k → Does k go → Stays
    (on_next o go) k
andthen h more = bind h (λ f s h. flow f s h more)

pub turn : {k : Fixed} {o : Outcome Flow} {go : State → Outcome Flow} → Stays o k → Does k go → Stays (on_turn o go) k
turn {k} {o} {go} h more = by o.answer where
  by : (answer : Result Flow End) → Stays (on_turn (record { answer = answer; state = o.state }) go) k
  by (Ok next) = more o.state h.there
  by (Ok continued) = more o.state h.there
  by (Ok broke) = same h.there
  by (Ok (returned v)) = same h.there
  by (Err e) = same h.there

pub more_keeps : {W : Type 0} {k : Fixed} (e : Option (Value × W)) (s : State) {go : Value → W → State → Outcome Flow}
    → IsIn k s → ((v : Value) (w : W) → Does k (go v w)) → Stays (on_more e s go) k
more_keeps {W} {k} e s {go} h more = by e where
  by : (e : Option (Value × W)) → Stays (on_more e s go) k
  by None = same h
  by (Some e) = more e.0 e.1 s h

pub turns_keep : {W : Type 0} {k : Fixed} {more : More W} {body : Value → State → Outcome Flow} (n : ℕ)
    → ((w : W) → Does k (more w)) → ((v : Value) → Does k (body v)) → (w : W) → Does k (turns n more body w)
turns_keep zero m b w s h = same h
turns_keep (suc n) m b w s h =
    bind (m w s h) (λ e s h. more_keeps e s h (λ v w s h. turn (b v s h) (λ s h. turns_keep n m b w s h)))

-- decisions

pub decision : {A : Type 0} {k : Fixed} (d : Decision) (s : State) {go : State → Outcome A} → IsIn k s → Does k go
    → Stays (on_decision d s go) k
decision {A} {k} d s {go} h more = by d where
  by : (d : Decision) → Stays (on_decision d s go) k
  by (Ok nothing) = more s h
  by (Err e) = same h

pub ask : {A : Type 0} {k : Fixed} (frame : Frame) → Steady k frame.calls frame.run → (op : Operation) (v : Value)
    (s : State) {go : State → Outcome A} → IsIn k s → Does k go → Stays (asked frame op v s go) k
ask {A} {k} frame c op v s h more =
    let d : Decision × Monitor = frame.run.decide v op (monitor_of s) in
    decision d.0 (with_monitor d.1 s)
    (ap (λ (heap : List Owned). content_at heap k.object.at) (c.quiet.decides v op (monitor_of s)) ∙ h) more

pub ask_for : {A : Type 0} {k : Fixed} (frame : Frame) → Steady k frame.calls frame.run → (n : Name) (v : Value)
    (s : State) {go : State → Outcome A} → IsIn k s → Does k go → Stays (asked_for frame n v s go) k
ask_for frame c n v s h more = ask frame c (reading (word_of s.names n)) v s h more

pub ask_to_set : {A : Type 0} {k : Fixed} (frame : Frame) → Steady k frame.calls frame.run → (n : Name) (v : Value)
    (s : State) {go : State → Outcome A} → IsIn k s → Does k go → Stays (asked_to_set frame n v s go) k
ask_to_set frame c n v s h more = ask frame c (setting (word_of s.names n)) v s h more

ask_if : {A : Type 0} {k : Fixed} (frame : Frame) → Steady k frame.calls frame.run → (n : Option Name) (v : Value)
    (s : State) {go : State → Outcome A} → IsIn k s → Does k go → Stays (asked_if frame n v s go) k
ask_if frame c None v s h more = more s h
ask_if frame c (Some n) v s h more = ask_for frame c n v s h more

pub ask_each : {A : Type 0} {k : Fixed} (frame : Frame) → Steady k frame.calls frame.run → (needs : ℕ → Option Name)
    (i : ℕ) (vs : List Value) (s : State) {go : State → Outcome A} → IsIn k s → Does k go
    → Stays (asked_each frame needs i vs s go) k
ask_each frame c needs i [] s h more = more s h
ask_each frame c needs i (v ∷ vs) s h more =
    ask_if frame c (needs i) v s h (λ s h. ask_each frame c needs (suc i) vs s h more)

-- special methods

pub on_method : {A : Type 0} {k : Fixed} (m : Option Special) (call : Special → State → Outcome A)
    (otherwise : State → Outcome A) (s : State)
    → ((m : Special) → Stays (call m s) k) → Stays (otherwise s) k → Stays (on_special m call otherwise s) k
on_method {A} {k} m call otherwise s h i = by m where
  by : (m : Option Special) → Stays (on_special m call otherwise s) k
  by (Some m) = h m
  by None = i

-- states

pub there_behind : (k : Fixed) (at : Oid) (change : Content → Content) → Spares change → (s : State) → IsIn k s
    → IsIn k (with_change at change s)
there_behind k at change spares s h = changed k.object k.fixed (heap_of s) at.0 change spares h

pub slot_set : (k : Fixed) (slot : Option Slot) (v : Option Value) (s : State) → IsIn k s
    → IsIn k (with_slot_set slot v s)
slot_set k None v s h = h
slot_set k (Some slot) v s h = there_behind k slot.scope (with_slot slot.index v) (slot_spares slot.index v) s h

-- cases by equations, for what is done by a choice that has no name of its own

pub by_option : {X P : Type 0} (x : Option X) → (x ≡ None → P) → ((y : X) → x ≡ Some y → P) → P
by_option None none some = none refl
by_option (Some y) none some = some y refl
