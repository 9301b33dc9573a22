-- How going on adds entries.
use Rattle.std.proofs.Common.{◌≡◌, ◌∙◌, refl, sym, subst, ap, ℕ, zero, suc, ◌+◌, nat_lt, if◌then◌else◌, Bool, true, false, List, [], ◌∷◌, ◌++◌, Option, Some, None, Result, Ok, Err}
use Rattle.std.proofs.lemmas.List.{append_assoc, append-nil}
use Rattle.std.proofs.lemmas.List.Elements.{All-nil, All-push}
use Rattle.rp_base.specs.Names.{word_of}
use Rattle.rp_base.specs.declared.value.ClassTag.{ClassTag}
use Rattle.rp_base.specs.declared.value.ClassTag.TheVariants as tag
use Rattle.rp_base.specs.declared.value.Name.{Name}
use Rattle.rp_base.specs.declared.value.Raised.{Raised}
use Rattle.rp_base.specs.declared.value.Value.{Value}
use Rattle.rp_base.specs.declared.value.Value.TheVariants as value
use Rattle.rp_checker.specs.Answers.{tag_view}
use Rattle.rp_checker.specs.RowOf.{Operation, reading, setting}
use Rattle.rp_ops.specs.Outcome as plain
use Rattle.rp_ops.specs.Outcome.{End, gives, no_cell, on_answer, on_value, on_found}
use Rattle.rp_proxy.specs.Decide.{Decision, Monitor, class_at, decide, entry_of, logged, outcome, verdict_of}
use Rattle.rp_trail.specs.Entry.{Entry}
use Rattle.rp_trail.specs.View.{class_text}
use Rattle.rp_meaning.specs.BuiltIn.{with_name}
use Rattle.rp_meaning.specs.Frame.{Frame, asked, asked_for, asked_to_set, asked_if, asked_each, on_decision}
use Rattle.rp_meaning.specs.Scopes.{Slot, with_slot_set}
use Rattle.rp_meaning.specs.Special.{Special, on_special}
use Rattle.rp_meaning.specs.State.{State, Outcome, Flow, next, broke, continued, returned, choose, on_flow, on_next, stepped, charged, lifted, monitor_of, with_monitor}
use Rattle.rp_meaning.specs.Walks.{More, on_turn, on_more, turns}
use Rattle.rp_entry_laws.specs.Decided.{class_word}
use Rattle.rp_entry_laws.specs.Entries.{Trail, IsOwn, IsIn, IsMonitored, Adds, trail_of}

-- each of a list is such
abbrev pub Each : {A : Type 0} → (A → Type 0) → List A → Type 0
Each P [] = Unit {0}
Each P (x ∷ xs) = P x × Each P xs

pub begins : (s : State) → IsIn (trail_of s) s
begins s = record {
  session = refl;
  who = refl;
  declarations = refl;
  added = [];
  log = sym (append-nil s.log);
  own = All-nil (IsOwn (trail_of s));
}

-- something is done in a state, as far as the trail shows
abbrev pub Does : {A : Type 0} → Trail → (State → Outcome A) → Type 0
Does k does = (s : State) → IsIn k s → Adds (does s) k

-- the state that is left shows the same
pub same : {A : Type 0} {k : Trail} {o : Outcome A} → IsIn k o.state → Adds o k
same h = record { trail = h }

pub bind : {A B : Type 0} {k : Trail} {o : Outcome A} {go : A → State → Outcome B}
    → Adds o k → ((a : A) → Does k (go a)) → Adds (on_value o go) k
bind {A} {B} {k} {o} {go} h more = by o.answer where
  by : (answer : Result A End) → Adds (on_answer answer o.state go) k
  by (Ok a) = more a o.state h.trail
  by (Err e) = same h.trail

-- a plain operation
pub op : {A : Type 0} {k : Trail} (o : plain.Outcome A) (s : State) → IsIn k s → Adds (lifted o s) k
op o s h = same h

pub found : {A B : Type 0} {k : Trail} (r : Result A Raised) (s : State) {go : A → State → Outcome B}
    → IsIn k s → ((a : A) → Does k (go a)) → Adds (on_found r s go) k
found {A} {B} {k} r s {go} h more = by r where
  by : (r : Result A Raised) → Adds (on_found r s go) k
  by (Ok a) = more a s h
  by (Err e) = same h

pub chosen : {A : Type 0} {k : Trail} (b : Bool) (this other : State → Outcome A) {s : State}
    → Adds (this s) k → Adds (other s) k → Adds (choose b this other s) k
chosen {A} {k} b this other {s} h i = by b where
  by : (b : Bool) → Adds (choose b this other s) k
  by true = h
  by false = i

pub step : {A : Type 0} {k : Trail} (s : State) {go : State → Outcome A} → IsIn k s → Does k go → Adds (stepped s go) k
step s h more = bind (op (plain.stepped s.plain (gives (tt {0}))) s h) (λ _ s h. more s h)

pub charge : {A : Type 0} {k : Trail} (cells : ℕ) (s : State) {go : State → Outcome A} → IsIn k s → Does k go → Adds (charged cells s go) k
charge cells s h more = bind (op (plain.charged cells s.plain (gives (tt {0}))) s h) (λ _ s h. more s h)

-- flows

pub flow : {k : Trail} (f : Flow) (s : State) {go : State → Outcome Flow} → IsIn k s → Does k go → Adds (on_flow f s go) k
flow {k} f s {go} h more = by f where
  by : (f : Flow) → Adds (on_flow f s go) k
  by next = more s h
  by broke = same h
  by continued = same h
  by (returned v) = same h

pub andthen : {k : Trail} {o : Outcome Flow} {go : State → Outcome Flow} → Adds o k → Does k go → Adds (on_next o go) k
andthen h more = bind h (λ f s h. flow f s h more)

pub turn : {k : Trail} {o : Outcome Flow} {go : State → Outcome Flow} → Adds o k → Does k go → Adds (on_turn o go) k
turn {k} {o} {go} h more = by o.answer where
  by : (answer : Result Flow End) → Adds (on_turn (record { answer = answer; state = o.state }) go) k
  by (Ok next) = more o.state h.trail
  by (Ok continued) = more o.state h.trail
  by (Ok broke) = same h.trail
  by (Ok (returned v)) = same h.trail
  by (Err e) = same h.trail

pub more_adds : {W : Type 0} {k : Trail} (e : Option (Value × W)) (s : State) {go : Value → W → State → Outcome Flow}
    → IsIn k s → ((v : Value) (w : W) → Does k (go v w)) → Adds (on_more e s go) k
more_adds {W} {k} e s {go} h more = by e where
  by : (e : Option (Value × W)) → Adds (on_more e s go) k
  by None = same h
  by (Some e) = more e.0 e.1 s h

pub turns_add : {W : Type 0} {k : Trail} {more : More W} {body : Value → State → Outcome Flow} (n : ℕ)
    → ((w : W) → Does k (more w)) → ((v : Value) → Does k (body v)) → (w : W) → Does k (turns n more body w)
turns_add zero m b w s h = same h
turns_add (suc n) m b w s h =
    bind (m w s h) (λ e s h. more_adds e s h (λ v w s h. turn (b v s h) (λ s h. turns_add n m b w s h)))

-- decisions

class_same : (names : List (List ℕ)) (class : ClassTag) → class_text names class ≡ class_word (tag_view names class)
class_same names tag.List = refl
class_same names tag.Tuple = refl
class_same names tag.Dict = refl
class_same names tag.Function = refl
class_same names tag.Method = refl
class_same names tag.Class = refl
class_same names (tag.Declared name) = refl
class_same names tag.Other = refl

-- the entry of a decision is one of the session that runs
own : {k : Trail} (s : State) (op : Operation) (class : ClassTag) → IsIn k s → IsOwn k (entry_of (monitor_of s) op class)
own {k} s op class h = record {
  session = h.session;
  decided = record {
    tag = tag_view s.names class;
    operation = op;
    class = class_same s.names class;
    word = refl;
    name = refl;
    verdict = λ i. verdict_of (h.declarations i) (h.who i) (tag_view s.names class) op;
  };
}

-- an entry more
more_own : {k : Trail} (s : State) (entry : Entry) → IsIn k s → IsOwn k entry → IsIn k (record s { log = s.log ++ entry ∷ [] })
more_own {k} s entry h is = record {
  session = h.session;
  who = h.who;
  declarations = h.declarations;
  added = h.added ++ entry ∷ [];
  log = ap (λ log. log ++ entry ∷ []) h.log ∙ append_assoc k.log h.added (entry ∷ []);
  own = All-push (IsOwn k) h.added entry h.own is;
}

-- the decision that an entry tells, where cells are used up or not
abbrev taken : Monitor → Entry → Bool → Decision × Monitor
taken m entry full = if full then (Err no_cell, m) else (outcome entry.name entry.verdict, logged m entry)

-- the state behind a decision
decides : {k : Trail} (v : Value) (o : Operation) (s : State) → IsIn k s → IsIn k (with_monitor (decide v o (monitor_of s)).1 s)
decides (value.Rock r) o s h = h
decides (value.Ref at) o s h = h
decides {k} (value.Prox at) o s h =
    let class = class_at s.plain.store.heap at in
    by (entry_of (monitor_of s) o class) (own s o class h) (nat_lt s.plain.store.limit (s.plain.store.used + 1))
  where
    by : (entry : Entry) → IsOwn k entry → (full : Bool) → IsIn k (with_monitor (taken (monitor_of s) entry full).1 s)
    by entry is true = h
    by entry is false = more_own s entry h is

pub decision : {A : Type 0} {k : Trail} (d : Decision) (s : State) {go : State → Outcome A} → IsIn k s → Does k go → Adds (on_decision d s go) k
decision {A} {k} d s {go} h more = by d where
  by : (d : Decision) → Adds (on_decision d s go) k
  by (Ok nothing) = more s h
  by (Err e) = same h

pub ask : {A : Type 0} {k : Trail} (frame : Frame) → IsMonitored frame.run → (op : Operation) (v : Value) (s : State) {go : State → Outcome A}
    → IsIn k s → Does k go → Adds (asked frame op v s go) k
ask {A} {k} frame m op v s h more =
    let after : IsIn k (with_monitor (frame.run.decide v op (monitor_of s)).1 s) =
    subst (λ (d : Decision × Monitor). IsIn k (with_monitor d.1 s)) (sym (m v op (monitor_of s))) (decides v op s h) in
    decision (frame.run.decide v op (monitor_of s)).0 (with_monitor (frame.run.decide v op (monitor_of s)).1 s) after more

pub ask_for : {A : Type 0} {k : Trail} (frame : Frame) → IsMonitored frame.run → (n : Name) (v : Value) (s : State) {go : State → Outcome A}
    → IsIn k s → Does k go → Adds (asked_for frame n v s go) k
ask_for frame m n v s h more = ask frame m (reading (word_of s.names n)) v s h more

pub ask_to_set : {A : Type 0} {k : Trail} (frame : Frame) → IsMonitored frame.run → (n : Name) (v : Value) (s : State) {go : State → Outcome A}
    → IsIn k s → Does k go → Adds (asked_to_set frame n v s go) k
ask_to_set frame m n v s h more = ask frame m (setting (word_of s.names n)) v s h more

pub ask_if : {A : Type 0} {k : Trail} (frame : Frame) → IsMonitored frame.run → (n : Option Name) (v : Value) (s : State) {go : State → Outcome A}
    → IsIn k s → Does k go → Adds (asked_if frame n v s go) k
ask_if frame m None v s h more = more s h
ask_if frame m (Some n) v s h more = ask_for frame m n v s h more

pub ask_each : {A : Type 0} {k : Trail} (frame : Frame) → IsMonitored frame.run → (needs : ℕ → Option Name) (i : ℕ) (vs : List Value) (s : State)
    {go : State → Outcome A} → IsIn k s → Does k go → Adds (asked_each frame needs i vs s go) k
ask_each frame m needs i [] s h more = more s h
ask_each frame m needs i (v ∷ vs) s h more = ask_if frame m (needs i) v s h (λ s h. ask_each frame m needs (suc i) vs s h more)

-- special methods

pub on_method : {A : Type 0} {k : Trail} (m : Option Special) (call : Special → State → Outcome A) (otherwise : State → Outcome A) (s : State)
    → ((m : Special) → Adds (call m s) k) → Adds (otherwise s) k → Adds (on_special m call otherwise s) k
on_method {A} {k} m call otherwise s h i = by m where
  by : (m : Option Special) → Adds (on_special m call otherwise s) k
  by (Some m) = h m
  by None = i

-- states

pub slot_set : {k : Trail} (slot : Option Slot) (v : Option Value) (s : State) → IsIn k s → IsIn k (with_slot_set slot v s)
slot_set None v s h = h
slot_set (Some slot) v s h = h

pub named : {k : Trail} (word : List ℕ) (s : State) → IsIn k s → IsIn k (with_name word s)
named word s h = h

-- cases by equations, for what is done by a choice that has no name of its own

pub by_option : {X P : Type 0} (x : Option X) → (x ≡ None → P) → ((y : X) → x ≡ Some y → P) → P
by_option None none some = none refl
by_option (Some y) none some = some y refl
