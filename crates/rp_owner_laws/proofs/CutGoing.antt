-- How going on comes to the same cut off and as it is.
use Rattle.std.proofs.Common.{◌≡◌, refl, sym, ap, subst, ℕ, zero, suc, ◌+◌, ◌≤◌, arith, Bool, true, false}
use Rattle.std.proofs.Common.{List, [], ◌∷◌, ◌++◌, Option, Some, None, Result, Ok, Err}
use Rattle.std.specs.Prelude.{nat_lt}
use Rattle.rp_base.specs.Names.{word_of}
use Rattle.rp_base.specs.declared.value.Name.{Name}
use Rattle.rp_base.specs.declared.value.Raised.{Raised}
use Rattle.rp_base.specs.declared.value.Value.{Value}
use Rattle.rp_base.specs.declared.value.Value.TheVariants as value
use Rattle.rp_checker.specs.RowOf.{Operation, reading, setting}
use Rattle.rp_ops.specs.Outcome as plain
use Rattle.rp_ops.specs.Outcome.{End, gives, on_answer, on_value, on_found}
use Rattle.rp_proxy.specs.Decide.{Decision, Monitor, entry_of, class_at, logged}
use Rattle.rp_trail.specs.Entry.{Entry, Verdict, allowed, denied, forbidden}
use Rattle.rp_meaning.specs.Frame.{Frame, Calls, asked, asked_for, asked_to_set, asked_if, asked_each, decided}
use Rattle.rp_meaning.specs.Special.{Special, on_special}
use Rattle.rp_meaning.specs.State.{State, Outcome, Flow, next, broke, continued, returned, choose, on_flow, on_next}
use Rattle.rp_meaning.specs.State.{stepped, charged, lifted, monitor_of, with_monitor}
use Rattle.rp_meaning.specs.Walks.{More, on_turn, on_more, turns}
use Rattle.rp_meaning.specs.Unmonitored.{IsAllowed}
use Rattle.rp_apart_laws.specs.Apart.{Each}
use Rattle.rp_owner_laws.specs.Cut.{Follows, IsUnallowed, UnallowedDoNotCount, allowed_in, allows, cut_frame}
use Rattle.rp_owner_laws.specs.Cut.{decided_frame}
use Rattle.rp_owner_laws.specs.Owners.{stopping}
use Rattle.rp_owner_laws.proofs.Owners.{decided_as}

-- logs

-- one more, where it is allowed
more_allowed : (log : List Entry) (e : Entry) → allows e.verdict 0 ≡ 1
    → allowed_in (log ++ e ∷ []) ≡ suc (allowed_in log)
more_allowed [] e one = one
more_allowed (x ∷ xs) e one = by x.verdict (more_allowed xs e one) where
  by : (v : Verdict) → allowed_in (xs ++ e ∷ []) ≡ suc (allowed_in xs)
      → allows v (allowed_in (xs ++ e ∷ [])) ≡ suc (allows v (allowed_in xs))
  by (allowed p) rest = ap suc rest
  by (denied p) rest = rest
  by forbidden rest = rest

-- none more, where it is not
none_allowed : (log : List Entry) (e : Entry) → allows e.verdict 0 ≡ 0 → allowed_in (log ++ e ∷ []) ≡ allowed_in log
none_allowed [] e none = none
none_allowed (x ∷ xs) e none = ap (allows x.verdict) (none_allowed xs e none)

none_in : (added : List Entry) → Each IsUnallowed added → allowed_in added ≡ 0
none_in [] h = refl
none_in (e ∷ es) h = by e.verdict h.0 (none_in es h.1) where
  by : (v : Verdict) → (IsAllowed v → ⊥) → allowed_in es ≡ 0 → allows v (allowed_in es) ≡ 0
  by (allowed p) u i = absurd (u tt)
  by (denied p) u i = i
  by forbidden u i = i

pub unallowed_do_not_count : UnallowedDoNotCount
unallowed_do_not_count [] added h = none_in added h
unallowed_do_not_count (e ∷ es) added h = ap (allows e.verdict) (unallowed_do_not_count es added h)

-- what is done in a state, with the monitor and cut off
abbrev pub Does : {A : Type 0} → (State → Outcome A) → (State → Outcome A) → Type 0
Does does other = (s : State) → Follows s.log (does s) (other s)

-- nothing is logged
pub same : {A : Type 0} {old : List Entry} {o p : Outcome A} → o.state.log ≡ old → p ≡ o → Follows old o p
same {old = old} {o = o} e i = let f : allowed_in o.state.log ≡ allowed_in old = ap allowed_in e in
    record { grows = omega arith; same = λ a. i }

-- what is made of what something comes to
pub via : {A B : Type 0} {old : List Entry} (make other : Outcome A → Outcome B) (o p : Outcome A)
    → Follows old o p → Follows o.state.log (make o) (other o) → Follows old (make o) (other p)
via {A} {B} {old} make other o p h i =
    let first : allowed_in old ≤ allowed_in o.state.log = h.grows in
    let second : allowed_in o.state.log ≤ allowed_in (make o).state.log = i.grows in
    record {
      grows = omega arith;
      same = λ (a : allowed_in (make o).state.log ≤ allowed_in old).
          let before : allowed_in o.state.log ≤ allowed_in old = omega arith in
          let behind : allowed_in (make o).state.log ≤ allowed_in o.state.log = omega arith in
          subst (λ (q : Outcome A). other q ≡ make o) (sym (h.same before)) (i.same behind);
    }

pub bind : {A B : Type 0} {old : List Entry} {o p : Outcome A} {go : A → State → Outcome B}
    (other : A → State → Outcome B)
    → Follows old o p → ((a : A) → Does (go a) (other a)) → Follows old (on_value o go) (on_value p other)
bind {A} {B} {old} {o} {p} {go} other h more = via (λ o. on_value o go) (λ p. on_value p other) o p h (by o.answer)
  where
    by : (answer : Result A End) → Follows o.state.log (on_answer answer o.state go) (on_answer answer o.state other)
    by (Ok a) = more a o.state
    by (Err e) = same refl refl

-- a plain operation
pub op : {A : Type 0} (o : plain.Outcome A) (s : State) → Follows s.log (lifted o s) (lifted o s)
op o s = same refl refl

pub found : {A B : Type 0} {go : A → State → Outcome B} (other : A → State → Outcome B) (r : Result A Raised)
    (s : State)
    → ((a : A) → Does (go a) (other a)) → Follows s.log (on_found r s go) (on_found r s other)
found {A} {B} {go} other r s more = by r where
  by : (r : Result A Raised) → Follows s.log (on_found r s go) (on_found r s other)
  by (Ok a) = more a s
  by (Err e) = same refl refl

pub chosen : {A : Type 0} {old : List Entry} (b : Bool) (this other this' other' : State → Outcome A) (s t : State)
    → Follows old (this s) (this' t) → Follows old (other s) (other' t)
    → Follows old (choose b this other s) (choose b this' other' t)
chosen {A} {old} b this other this' other' s t h i = by b where
  by : (b : Bool) → Follows old (choose b this other s) (choose b this' other' t)
  by true = h
  by false = i

pub step : {A : Type 0} {go : State → Outcome A} (other : State → Outcome A) (s : State) → Does go other
    → Follows s.log (stepped s go) (stepped s other)
step other s more = bind (λ _ s. other s) (op (plain.stepped s.plain (gives (tt {0}))) s) (λ _ s. more s)

pub charge : {A : Type 0} {go : State → Outcome A} (other : State → Outcome A) (cells : ℕ) (s : State)
    → Does go other → Follows s.log (charged cells s go) (charged cells s other)
charge other cells s more = bind (λ _ s. other s) (op (plain.charged cells s.plain (gives (tt {0}))) s) (λ _ s. more s)

-- flows

flow : {go : State → Outcome Flow} (other : State → Outcome Flow) (f : Flow) (s : State)
    → Does go other → Follows s.log (on_flow f s go) (on_flow f s other)
flow {go} other f s more = by f where
  by : (f : Flow) → Follows s.log (on_flow f s go) (on_flow f s other)
  by next = more s
  by broke = same refl refl
  by continued = same refl refl
  by (returned v) = same refl refl

pub andthen : {old : List Entry} {o p : Outcome Flow} {go : State → Outcome Flow} (other : State → Outcome Flow)
    → Follows old o p → Does go other → Follows old (on_next o go) (on_next p other)
andthen other h more = bind (λ flow s. on_flow flow s other) h (λ f s. flow other f s more)

turn : {old : List Entry} {o p : Outcome Flow} {go : State → Outcome Flow} (other : State → Outcome Flow)
    → Follows old o p → Does go other → Follows old (on_turn o go) (on_turn p other)
turn {old} {o} {p} {go} other h more = via (λ o. on_turn o go) (λ p. on_turn p other) o p h (by o.answer) where
  by : (answer : Result Flow End) → Follows o.state.log (on_turn (record { answer = answer; state = o.state }) go)
      (on_turn (record { answer = answer; state = o.state }) other)
  by (Ok next) = more o.state
  by (Ok continued) = more o.state
  by (Ok broke) = same refl refl
  by (Ok (returned v)) = same refl refl
  by (Err e) = same refl refl

more_follows : {W : Type 0} {go : Value → W → State → Outcome Flow} (other : Value → W → State → Outcome Flow)
    (e : Option (Value × W)) (s : State)
    → ((v : Value) (w : W) → Does (go v w) (other v w)) → Follows s.log (on_more e s go) (on_more e s other)
more_follows {W} {go} other e s more = by e where
  by : (e : Option (Value × W)) → Follows s.log (on_more e s go) (on_more e s other)
  by None = same refl refl
  by (Some e) = more e.0 e.1 s

pub turns_follow : {W : Type 0} {more : More W} {body : Value → State → Outcome Flow} (more' : More W)
    (body' : Value → State → Outcome Flow)
    (n : ℕ) → ((w : W) → Does (more w) (more' w)) → ((v : Value) → Does (body v) (body' v)) → (w : W)
    → Does (turns n more body w) (turns n more' body' w)
turns_follow more' body' zero m b w s = same refl refl
turns_follow {W} {more} {body} more' body' (suc n) m b w s =
    bind (λ e s. on_more e s (λ v w s. on_turn (body' v s) (λ s. turns n more' body' w s))) (m w s) (λ e s.
    more_follows (λ v w s. on_turn (body' v s) (λ s. turns n more' body' w s)) e s (λ v w s.
    turn (λ s. turns n more' body' w s) (b v s) (λ s. turns_follow more' body' n m b w s)))

-- decisions

abbrev pub entry_as : ℕ → List ℕ → List ℕ → List ℕ → Verdict → Entry
entry_as session word class name verdict =
    record { session = session; op = word; class = class; name = name; verdict = verdict }

abbrev until_as : Bool → Monitor → Entry → Decision × Monitor
until_as full m e = (stopping (decided_as full m e).0, (decided_as full m e).1)

-- an entry that is logged where it may be charged
entered : {A : Type 0} {go : State → Outcome A} (other : State → Outcome A) (s : State) (full : Bool)
    (session : ℕ) (word class name : List ℕ) (verdict : Verdict) → Does go other → Follows s.log
    (decided (decided_as full (monitor_of s) (entry_as session word class name verdict)) s go)
    (decided (until_as full (monitor_of s) (entry_as session word class name verdict)) s other)
entered other s true session word class name verdict more = same refl refl
entered {A} {go} other s false session word class name (allowed permission) more =
    let e : Entry = entry_as session word class name (allowed permission) in
    let t : State = with_monitor (logged (monitor_of s) e) s in
    let one : allowed_in (s.log ++ e ∷ []) ≡ suc (allowed_in s.log) = more_allowed s.log e refl in
    let behind : allowed_in (s.log ++ e ∷ []) ≤ allowed_in (go t).state.log = (more t).grows in
    let grown : allowed_in s.log ≤ allowed_in (go t).state.log = omega arith in
    record {
      grows = grown;
      same = λ (a : allowed_in (go t).state.log ≤ allowed_in s.log). absurd (omega arith);
    }
entered other s false session word class name (denied permission) more =
    let e : Entry = entry_as session word class name (denied permission) in
    let none : allowed_in (s.log ++ e ∷ []) ≡ allowed_in s.log = none_allowed s.log e refl in
    let grown : allowed_in s.log ≤ allowed_in (s.log ++ e ∷ []) = omega arith in
    record { grows = grown; same = λ a. refl }
entered other s false session word class name forbidden more =
    let e : Entry = entry_as session word class name forbidden in
    let none : allowed_in (s.log ++ e ∷ []) ≡ allowed_in s.log = none_allowed s.log e refl in
    let grown : allowed_in s.log ≤ allowed_in (s.log ++ e ∷ []) = omega arith in
    record { grows = grown; same = λ a. refl }

pub ask : {A : Type 0} {go : State → Outcome A} (other : State → Outcome A) (f : Frame) (d : Calls) (op : Operation)
    (v : Value) (s : State) → Does go other
    → Follows s.log (asked (decided_frame f) op v s go) (asked (cut_frame d f) op v s other)
ask other f d word (value.Rock r) s more = more s
ask other f d word (value.Ref at) s more = more s
ask other f d word (value.Prox at) s more =
    let e = entry_of (monitor_of s) word (class_at s.plain.store.heap at) in
    entered other s (nat_lt s.plain.store.limit (s.plain.store.used + 1)) e.session e.op e.class e.name e.verdict more

pub ask_for : {A : Type 0} {go : State → Outcome A} (other : State → Outcome A) (f : Frame) (d : Calls) (n : Name)
    (v : Value) (s : State)
    → Does go other → Follows s.log (asked_for (decided_frame f) n v s go) (asked_for (cut_frame d f) n v s other)
ask_for other f d n v s more = ask other f d (reading (word_of s.names n)) v s more

pub ask_to_set : {A : Type 0} {go : State → Outcome A} (other : State → Outcome A) (f : Frame) (d : Calls) (n : Name)
    (v : Value) (s : State)
    → Does go other → Follows s.log (asked_to_set (decided_frame f) n v s go) (asked_to_set (cut_frame d f) n v s other)
ask_to_set other f d n v s more = ask other f d (setting (word_of s.names n)) v s more

pub ask_if : {A : Type 0} {go : State → Outcome A} (other : State → Outcome A) (f : Frame) (d : Calls)
    (n : Option Name) (v : Value) (s : State)
    → Does go other → Follows s.log (asked_if (decided_frame f) n v s go) (asked_if (cut_frame d f) n v s other)
ask_if other f d None v s more = more s
ask_if other f d (Some n) v s more = ask_for other f d n v s more

pub ask_each : {A : Type 0} {go : State → Outcome A} (other : State → Outcome A)
    (f : Frame) (d : Calls) (needs : ℕ → Option Name) (i : ℕ) (vs : List Value) (s : State)
    → Does go other → Follows s.log (asked_each (decided_frame f) needs i vs s go)
    (asked_each (cut_frame d f) needs i vs s other)
ask_each other f d needs i [] s more = more s
ask_each other f d needs i (v ∷ vs) s more = ask_if (λ s. asked_each (cut_frame d f) needs (suc i) vs s other) f d
    (needs i) v s (λ s. ask_each other f d needs (suc i) vs s more)

-- special methods

pub on_method : {A : Type 0} {old : List Entry} (m : Option Special) (call call' : Special → State → Outcome A)
    (otherwise otherwise' : State → Outcome A) (s t : State)
    → ((m : Special) → Follows old (call m s) (call' m t)) → Follows old (otherwise s) (otherwise' t)
    → Follows old (on_special m call otherwise s) (on_special m call' otherwise' t)
on_method {A} {old} m call call' otherwise otherwise' s t h i = by m where
  by : (m : Option Special) → Follows old (on_special m call otherwise s) (on_special m call' otherwise' t)
  by (Some m) = h m
  by None = i

-- cases by equations, for what is done by a choice that has no name of its own

pub by_option : {X P : Type 0} (x : Option X) → (x ≡ None → P) → ((y : X) → x ≡ Some y → P) → P
by_option None none some = none refl
by_option (Some y) none some = some y refl
