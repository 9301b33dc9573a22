-- How going on comes to the same with the monitor and without it.
use Rattle.std.proofs.Common.{◌≡◌, refl, sym, subst, ℕ, zero, suc, ◌+◌, nat_lt, Bool, true, false, cond, List, [], ◌∷◌, ◌++◌, Option, Some, None, Result, Ok, Err}
use Rattle.std.specs.List.{AllByRecursion}
use Rattle.std.proofs.lemmas.List.Elements.{All-from_recursion, recursion_from_All}
use Rattle.rp_base.specs.Names.{word_of}
use Rattle.rp_base.specs.declared.value.Name.{Name}
use Rattle.rp_base.specs.declared.value.Raised.{Raised}
use Rattle.rp_base.specs.declared.value.Value.{Value}
use Rattle.rp_base.specs.declared.value.Value.TheVariants as value
use Rattle.rp_checker.specs.RowOf.{Operation, reading, setting}
use Rattle.rp_ops.specs.Outcome as plain
use Rattle.rp_ops.specs.Outcome.{End, gives, no_cell, on_answer, on_value, on_found}
use Rattle.rp_proxy.specs.Decide as decide
use Rattle.rp_proxy.specs.Decide.{entry_of, class_at, logged, outcome}
use Rattle.rp_trail.specs.Entry.{Entry, Verdict, allowed, denied, forbidden}
use Rattle.rp_meaning.specs.Frame.{Frame, Calls, asked, asked_for, asked_to_set, asked_if, asked_each, decided}
use Rattle.rp_meaning.specs.Special.{Special, on_special}
use Rattle.rp_meaning.specs.State.{State, Outcome, Flow, next, broke, continued, returned, choose, on_flow, on_next, stepped, charged, lifted, monitor_of, with_monitor}
use Rattle.rp_meaning.specs.Unmonitored.{AllAllowed, IsAllowed}
use Rattle.rp_meaning.specs.Walks.{More, on_turn, on_more, turns}
use Rattle.rp_monitor_laws.specs.Unseen.{Follows, logged_as, watched, unwatched, with_log}

-- each of a list is such
abbrev pub Each : {A : Type 0} → (A → Type 0) → List A → Type 0
Each P [] = Unit {0}
Each P (x ∷ xs) = P x × Each P xs

-- logs

fronts : {X : Type 0} (P : X → Type 0) (xs ys : List X) → AllByRecursion P (xs ++ ys) → AllByRecursion P xs
fronts P [] ys h = tt
fronts P (x ∷ xs) ys h = (h.0, fronts P xs ys h.1)

lasts : {X : Type 0} (P : X → Type 0) (xs : List X) (x : X) → AllByRecursion P (xs ++ x ∷ []) → P x
lasts P [] x h = h.0
lasts P (y ∷ ys) x h = lasts P ys x h.1

abbrev IsAllowedEntry : Entry → Type 0
IsAllowedEntry e = IsAllowed e.verdict

-- what was logged before, and what was logged last
before : (log : List Entry) (e : Entry) → AllAllowed (log ++ e ∷ []) → AllAllowed log
before log e h = All-from_recursion IsAllowedEntry log (fronts IsAllowedEntry log (e ∷ []) (recursion_from_All IsAllowedEntry (log ++ e ∷ []) h))

last : (log : List Entry) (e : Entry) → AllAllowed (log ++ e ∷ []) → IsAllowedEntry e
last log e h = lasts IsAllowedEntry log e (recursion_from_All IsAllowedEntry (log ++ e ∷ []) h)

-- what is done in a state, with the monitor and without it
abbrev pub Does : {A : Type 0} → List Entry → (State → Outcome A) → (State → Outcome A) → Type 0
Does k does other = (s : State) → Follows k s.log (does s) (other (with_log k s))

-- nothing is logged
pub same : {A : Type 0} {k old : List Entry} {o p : Outcome A} → o.state.log ≡ old → p ≡ logged_as k o → Follows k old o p
same e i = record { kept = λ a. subst (λ l. AllAllowed l) e a; same = λ a. i }

-- what is made of what something comes to
pub via : {A B : Type 0} {k old : List Entry} (make other : Outcome A → Outcome B) (o p : Outcome A)
    → Follows k old o p → Follows k o.state.log (make o) (other (logged_as k o)) → Follows k old (make o) (other p)
via {A} {B} {k} {old} make other o p h i = record {
  kept = λ a. h.kept (i.kept a);
  same = λ a. subst (λ (q : Outcome A). other q ≡ logged_as k (make o)) (sym (h.same (i.kept a))) (i.same a);
}

pub bind : {A B : Type 0} {k old : List Entry} {o p : Outcome A} {go : A → State → Outcome B} (other : A → State → Outcome B)
    → Follows k old o p → ((a : A) → Does k (go a) (other a)) → Follows k old (on_value o go) (on_value p other)
bind {A} {B} {k} {old} {o} {p} {go} other h more = via (λ o. on_value o go) (λ p. on_value p other) o p h (by o.answer) where
  by : (answer : Result A End) → Follows k o.state.log (on_answer answer o.state go) (on_answer answer (with_log k o.state) other)
  by (Ok a) = more a o.state
  by (Err e) = same refl refl

-- a plain operation
pub op : {A : Type 0} {k : List Entry} (o : plain.Outcome A) (s : State) → Follows k s.log (lifted o s) (lifted o (with_log k s))
op o s = same refl refl

pub found : {A B : Type 0} {k : List Entry} {go : A → State → Outcome B} (other : A → State → Outcome B) (r : Result A Raised) (s : State)
    → ((a : A) → Does k (go a) (other a)) → Follows k s.log (on_found r s go) (on_found r (with_log k s) other)
found {A} {B} {k} {go} other r s more = by r where
  by : (r : Result A Raised) → Follows k s.log (on_found r s go) (on_found r (with_log k s) other)
  by (Ok a) = more a s
  by (Err e) = same refl refl

pub chosen : {A : Type 0} {k old : List Entry} (b : Bool) (this other this' other' : State → Outcome A) (s t : State)
    → Follows k old (this s) (this' t) → Follows k old (other s) (other' t) → Follows k old (choose b this other s) (choose b this' other' t)
chosen {A} {k} {old} b this other this' other' s t h i = by b where
  by : (b : Bool) → Follows k old (choose b this other s) (choose b this' other' t)
  by true = h
  by false = i

pub step : {A : Type 0} {k : List Entry} {go : State → Outcome A} (other : State → Outcome A) (s : State) → Does k go other → Follows k s.log (stepped s go) (stepped (with_log k s) other)
step other s more = bind (λ _ s. other s) (op (plain.stepped s.plain (gives (tt {0}))) s) (λ _ s. more s)

pub charge : {A : Type 0} {k : List Entry} {go : State → Outcome A} (other : State → Outcome A) (cells : ℕ) (s : State)
    → Does k go other → Follows k s.log (charged cells s go) (charged cells (with_log k s) other)
charge other cells s more = bind (λ _ s. other s) (op (plain.charged cells s.plain (gives (tt {0}))) s) (λ _ s. more s)

-- flows

flow : {k : List Entry} {go : State → Outcome Flow} (other : State → Outcome Flow) (f : Flow) (s : State)
    → Does k go other → Follows k s.log (on_flow f s go) (on_flow f (with_log k s) other)
flow {k} {go} other f s more = by f where
  by : (f : Flow) → Follows k s.log (on_flow f s go) (on_flow f (with_log k s) other)
  by next = more s
  by broke = same refl refl
  by continued = same refl refl
  by (returned v) = same refl refl

pub andthen : {k old : List Entry} {o p : Outcome Flow} {go : State → Outcome Flow} (other : State → Outcome Flow)
    → Follows k old o p → Does k go other → Follows k old (on_next o go) (on_next p other)
andthen other h more = bind (λ flow s. on_flow flow s other) h (λ f s. flow other f s more)

turn : {k old : List Entry} {o p : Outcome Flow} {go : State → Outcome Flow} (other : State → Outcome Flow)
    → Follows k old o p → Does k go other → Follows k old (on_turn o go) (on_turn p other)
turn {k} {old} {o} {p} {go} other h more = via (λ o. on_turn o go) (λ p. on_turn p other) o p h (by o.answer) where
  by : (answer : Result Flow End) → Follows k o.state.log (on_turn (record { answer = answer; state = o.state }) go)
      (on_turn (record { answer = answer; state = with_log k o.state }) other)
  by (Ok next) = more o.state
  by (Ok continued) = more o.state
  by (Ok broke) = same refl refl
  by (Ok (returned v)) = same refl refl
  by (Err e) = same refl refl

more_follows : {W : Type 0} {k : List Entry} {go : Value → W → State → Outcome Flow} (other : Value → W → State → Outcome Flow)
    (e : Option (Value × W)) (s : State)
    → ((v : Value) (w : W) → Does k (go v w) (other v w)) → Follows k s.log (on_more e s go) (on_more e (with_log k s) other)
more_follows {W} {k} {go} other e s more = by e where
  by : (e : Option (Value × W)) → Follows k s.log (on_more e s go) (on_more e (with_log k s) other)
  by None = same refl refl
  by (Some e) = more e.0 e.1 s

pub turns_follow : {W : Type 0} {k : List Entry} {more : More W} {body : Value → State → Outcome Flow} (more' : More W) (body' : Value → State → Outcome Flow)
    (n : ℕ) → ((w : W) → Does k (more w) (more' w)) → ((v : Value) → Does k (body v) (body' v)) → (w : W) → Does k (turns n more body w) (turns n more' body' w)
turns_follow more' body' zero m b w s = same refl refl
turns_follow {W} {k} {more} {body} more' body' (suc n) m b w s =
    bind (λ e s. on_more e s (λ v w s. on_turn (body' v s) (λ s. turns n more' body' w s))) (m w s) (λ e s.
    more_follows (λ v w s. on_turn (body' v s) (λ s. turns n more' body' w s)) e s (λ v w s.
    turn (λ s. turns n more' body' w s) (b v s) (λ s. turns_follow more' body' n m b w s)))

-- decisions

-- an entry that is logged where it may be charged
entered : {A : Type 0} {k : List Entry} {go : State → Outcome A} (other : State → Outcome A)
    (s : State) (full : Bool) (session : ℕ) (word class name : List ℕ) (verdict : Verdict) → Does k go other
    → Follows k s.log
    (decided (cond full (Err no_cell, monitor_of s) (
      outcome name verdict,
      logged (monitor_of s) (record { session = session; op = word; class = class; name = name; verdict = verdict }),
    )) s go)
    (decided (cond full (Err no_cell, monitor_of (with_log k s)) (
      decide.go,
      record (monitor_of s) { store = record s.plain.store { used = s.plain.store.used + 1 }; log = k },
    )) (with_log k s) other)
entered other s true session word class name verdict more = same refl refl
entered other s false session word class name (allowed permission) more =
    let e : Entry = record { session = session; op = word; class = class; name = name; verdict = allowed permission } in
    let h = more (with_monitor (logged (monitor_of s) e) s) in
    record { kept = λ a. before s.log e (h.kept a); same = h.same }
entered other s false session word class name (denied permission) more =
    let e : Entry = record { session = session; op = word; class = class; name = name; verdict = denied permission } in
    record { kept = λ a. absurd (last s.log e a); same = λ a. absurd (last s.log e a) }
entered other s false session word class name forbidden more =
    let e : Entry = record { session = session; op = word; class = class; name = name; verdict = forbidden } in
    record { kept = λ a. absurd (last s.log e a); same = λ a. absurd (last s.log e a) }

pub ask : {A : Type 0} {k : List Entry} {go : State → Outcome A} (other : State → Outcome A) (f : Frame) (d : Calls) (op : Operation) (v : Value) (s : State)
    → Does k go other → Follows k s.log (asked (watched f) op v s go) (asked (unwatched d f) op v (with_log k s) other)
ask other f d word (value.Rock r) s more = more s
ask other f d word (value.Ref at) s more = more s
ask other f d word (value.Prox at) s more =
    let e = entry_of (monitor_of s) word (class_at s.plain.store.heap at) in
    entered other s (nat_lt s.plain.store.limit (s.plain.store.used + 1)) e.session e.op e.class e.name e.verdict more

pub ask_for : {A : Type 0} {k : List Entry} {go : State → Outcome A} (other : State → Outcome A) (f : Frame) (d : Calls) (n : Name) (v : Value) (s : State)
    → Does k go other → Follows k s.log (asked_for (watched f) n v s go) (asked_for (unwatched d f) n v (with_log k s) other)
ask_for other f d n v s more = ask other f d (reading (word_of s.names n)) v s more

pub ask_to_set : {A : Type 0} {k : List Entry} {go : State → Outcome A} (other : State → Outcome A) (f : Frame) (d : Calls) (n : Name) (v : Value) (s : State)
    → Does k go other → Follows k s.log (asked_to_set (watched f) n v s go) (asked_to_set (unwatched d f) n v (with_log k s) other)
ask_to_set other f d n v s more = ask other f d (setting (word_of s.names n)) v s more

pub ask_if : {A : Type 0} {k : List Entry} {go : State → Outcome A} (other : State → Outcome A) (f : Frame) (d : Calls) (n : Option Name) (v : Value) (s : State)
    → Does k go other → Follows k s.log (asked_if (watched f) n v s go) (asked_if (unwatched d f) n v (with_log k s) other)
ask_if other f d None v s more = more s
ask_if other f d (Some n) v s more = ask_for other f d n v s more

pub ask_each : {A : Type 0} {k : List Entry} {go : State → Outcome A} (other : State → Outcome A)
    (f : Frame) (d : Calls) (needs : ℕ → Option Name) (i : ℕ) (vs : List Value) (s : State)
    → Does k go other → Follows k s.log (asked_each (watched f) needs i vs s go) (asked_each (unwatched d f) needs i vs (with_log k s) other)
ask_each other f d needs i [] s more = more s
ask_each other f d needs i (v ∷ vs) s more = ask_if (λ s. asked_each (unwatched d f) needs (suc i) vs s other) f d (needs i) v s (λ s. ask_each other f d needs (suc i) vs s more)

-- special methods

pub on_method : {A : Type 0} {k old : List Entry} (m : Option Special) (call call' : Special → State → Outcome A)
    (otherwise otherwise' : State → Outcome A) (s t : State)
    → ((m : Special) → Follows k old (call m s) (call' m t)) → Follows k old (otherwise s) (otherwise' t)
    → Follows k old (on_special m call otherwise s) (on_special m call' otherwise' t)
on_method {A} {k} {old} m call call' otherwise otherwise' s t h i = by m where
  by : (m : Option Special) → Follows k old (on_special m call otherwise s) (on_special m call' otherwise' t)
  by (Some m) = h m
  by None = i

-- cases by equations, for what is done by a choice that has no name of its own

pub by_option : {X P : Type 0} (x : Option X) → (x ≡ None → P) → ((y : X) → x ≡ Some y → P) → P
by_option None none some = none refl
by_option (Some y) none some = some y refl
