-- Sessions of a run add such entries alone as the policy says of their principals.
use Rattle.std.proofs.Common.{◌≡◌, ◌∙◌, refl, sym, subst, ap, ℕ, zero, suc, nat_eq, cond, if◌then◌else◌, Bool, true, false, true≢false, List, [], ◌∷◌, ◌++◌, find, Option, Some, None, option_map}
use Rattle.std.specs.Prelude.{All}
use Rattle.std.proofs.lemmas.Bool.{eqb-true, eq-eqb}
use Rattle.std.proofs.lemmas.List.{append_assoc, append-nil}
use Rattle.std.proofs.lemmas.List.Elements.{All-append, All-nil, All-weaker}
use Rattle.rp_tree.specs.Statements as stmt_tree
use Rattle.rp_trail.specs.Entry.{Entry}
use Rattle.rp_meaning.specs.Frame.{Run}
use Rattle.rp_meaning.specs.Meaning.{exec}
use Rattle.rp_meaning.specs.Running.{program_frame}
use Rattle.rp_meaning.specs.Sessions.{Session, SessionEnd, World, count, finished, played, run_all, session_after, state_of, statement_at}
use Rattle.rp_meaning.specs.Sessions.{turn, turn_of, turns, turns_of, unless_ended, with_session, world_after}
use Rattle.rp_meaning.specs.State.{Flow, Outcome}
use Rattle.rp_entry_laws.specs.Decided.{IsDecided}
use Rattle.rp_entry_laws.specs.Entries.{Adds, IsMonitored, IsOwn, trail_of}
use Rattle.rp_entry_laws.specs.Worlds.{EachEntryIsLogged, IsLogged, Later, RunsAdd, TurnsAdd}
use Rattle.rp_entry_laws.proofs.Programs.{programs-add}

-- the principals of the first session of a number
abbrev among : List Session → ℕ → Option (List (List ℕ))
among ks n = option_map (λ (k : Session). k.who) (find (λ (k : Session). nat_eq k.side.0 n) ks)

-- a session in place of another of its number changes them for no other number

among-other : (j : Session) (n : ℕ) → nat_eq j.side.0 n ≡ false → (ks : List Session) → among (with_session j ks) n ≡ among ks n
among-other j n not [] = refl
among-other j n not (k ∷ ks) = by (among-other j n not ks) (nat_eq k.side.0 j.side.0) refl where
  skip : (x : Session) (b : Bool) → b ≡ false
      → option_map (λ (k : Session). k.who) (cond b (Some x) (find (λ (k : Session). nat_eq k.side.0 n) ks)) ≡ among ks n
  skip x true e = absurd (true≢false e)
  skip x false e = refl

  both : (b : Bool) → among (with_session j ks) n ≡ among ks n
      → option_map (λ (k : Session). k.who) (cond b (Some k) (find (λ (k : Session). nat_eq k.side.0 n) (with_session j ks)))
      ≡ option_map (λ (k : Session). k.who) (cond b (Some k) (find (λ (k : Session). nat_eq k.side.0 n) ks))
  both true rest = refl
  both false rest = rest

  by : among (with_session j ks) n ≡ among ks n → (b : Bool) → nat_eq k.side.0 j.side.0 ≡ b → among ((if b then j else k) ∷ with_session j ks) n ≡ among (k ∷ ks) n
  by rest true e =
      let same : k.side.0 ≡ j.side.0 = eqb-true k.side.0 j.side.0 e in
      let its : nat_eq k.side.0 n ≡ false = subst (λ m. nat_eq m n ≡ false) (sym same) not in
      (rw not rest) ∙ sym (skip k (nat_eq k.side.0 n) its)
  by rest false e = both (nat_eq k.side.0 n) rest

-- nor for its own, if it has the principals of the first of its number
among-own : (j : Session) (ks : List Session) → among ks j.side.0 ≡ Some j.who → among (with_session j ks) j.side.0 ≡ Some j.who
among-own j [] is = is
among-own j (k ∷ ks) is = by (among-own j ks) (nat_eq k.side.0 j.side.0) refl where
  itself : nat_eq j.side.0 j.side.0 ≡ true
  itself = eq-eqb j.side.0 j.side.0 refl

  by : (among ks j.side.0 ≡ Some j.who → among (with_session j ks) j.side.0 ≡ Some j.who) → (b : Bool) → nat_eq k.side.0 j.side.0 ≡ b → among ((if b then j else k) ∷ with_session j ks) j.side.0 ≡ Some j.who
  by rest true e = rw itself refl
  by rest false e = rw e (rest (rw e at is))

among-same : (j : Session) (ks : List Session) → among ks j.side.0 ≡ Some j.who → (n : ℕ) → among (with_session j ks) n ≡ among ks n
among-same j ks is n = by (nat_eq j.side.0 n) refl where
  by : (b : Bool) → nat_eq j.side.0 n ≡ b → among (with_session j ks) n ≡ among ks n
  by true e =
      subst (λ m. among (with_session j ks) m ≡ among ks m) (eqb-true j.side.0 n e) (among-own j ks is ∙ sym is)
  by false e = among-other j n e ks

-- worlds, one behind another

same : (w : World) → Later w w
same w = record {
  declarations = refl;
  principals = λ n. refl;
  added = [];
  log = sym (append-nil w.log);
  logged = All-nil (IsLogged w);
}

-- an entry of a session of a world is one of the world before
earlier : (v w : World) → Later v w → (e : Entry) → IsLogged w e → IsLogged v e
earlier v w h e is = record {
  who = is.who;
  runs = sym (h.principals e.session) ∙ is.runs;
  decided = subst (λ d. IsDecided d is.who e) h.declarations is.decided;
}

-- and one of the world behind
later : (v w : World) → Later v w → (e : Entry) → IsLogged v e → IsLogged w e
later v w h e is = record {
  who = is.who;
  runs = h.principals e.session ∙ is.runs;
  decided = subst (λ d. IsDecided d is.who e) (sym h.declarations) is.decided;
}

then_later : (u v w : World) → Later u v → Later v w → Later u w
then_later u v w h i = record {
  declarations = i.declarations ∙ h.declarations;
  principals = λ n. i.principals n ∙ h.principals n;
  added = h.added ++ i.added;
  log = i.log ∙ (ap (λ log. log ++ i.added) h.log ∙ append_assoc u.log h.added i.added);
  logged = All-append (IsLogged u) h.added i.added h.logged (All-weaker (IsLogged v) (IsLogged u) (earlier u v h) i.added i.logged);
}

module _ (run : Run) (m : IsMonitored run) where
  world-later : (w : World) (k : Session) → among w.sessions k.side.0 ≡ Some k.who → (n : ℕ) (o : Outcome Flow) → Adds o (trail_of (state_of w k))
      → Later w (world_after w n k o)
  world-later w k is n o h = record {
    declarations = refl;
    principals = among-same (session_after n k o) w.sessions is;
    added = h.trail.added;
    log = h.trail.log;
    logged = All-weaker (IsOwn (trail_of (state_of w k))) (IsLogged w) own h.trail.added h.trail.own;
  } where
    own : (e : Entry) → IsOwn (trail_of (state_of w k)) e → IsLogged w e
    own e of = record { who = k.who; runs = ap (among w.sessions) of.session ∙ is; decided = of.decided }

  played-later : (w : World) (k : Session) → among w.sessions k.side.0 ≡ Some k.who → (o : Option stmt_tree.Stmt) → Later w (played run w k o)
  played-later w k is None = same w
  played-later w k is (Some x) =
      world-later w k is (count (run.programs k.side).body) (exec x (program_frame run k.side k.globals) (state_of w k))
      (programs-add run m k.side k.globals x (state_of w k))

  unless-later : (w : World) (k : Session) → among w.sessions k.side.0 ≡ Some k.who → (end : Option SessionEnd) → Later w (unless_ended run w k end)
  unless-later w k is (Some e) = same w
  unless-later w k is None = played-later w k is (statement_at k.next (run.programs k.side).body)

  -- the session that is found by a number has it
  found-number : (n : ℕ) (ks : List Session) (k : Session) → find (λ (k : Session). nat_eq k.side.0 n) ks ≡ Some k → k.side.0 ≡ n
  found-number n [] k is = cc
  found-number n (x ∷ ks) k is = by (found-number n ks k) (nat_eq x.side.0 n) refl where
    by : (find (λ (k : Session). nat_eq k.side.0 n) ks ≡ Some k → k.side.0 ≡ n) → (b : Bool) → nat_eq x.side.0 n ≡ b → k.side.0 ≡ n
    by rest true e = let it : Some x ≡ Some k = rw e at is in let its : x ≡ k = cc in subst (λ (y : Session). y.side.0 ≡ n) its (eqb-true x.side.0 n e)
    by rest false e = rest (rw e at is)

  turn-later : (n : ℕ) (w : World) → Later w (turn run n w)
  turn-later n w = by (find (λ (k : Session). nat_eq k.side.0 n) w.sessions) refl where
    by : (o : Option Session) → find (λ (k : Session). nat_eq k.side.0 n) w.sessions ≡ o → Later w (turn_of run w o)
    by None e = same w
    by (Some k) e =
        let its : among w.sessions n ≡ Some k.who = ap (option_map (λ (k : Session). k.who)) e in
        unless-later w k (subst (λ n. among w.sessions n ≡ Some k.who) (sym (found-number n w.sessions k e)) its) k.end

  turns-later : (ns : List ℕ) (w : World) → Later w (turns run ns w)
  turns-later [] w = same w
  turns-later (n ∷ ns) w = then_later w (turn run n w) (turns run ns (turn run n w)) (turn-later n w) (turns-later ns (turn run n w))

  turns_of-later : (i n : ℕ) (w : World) → Later w (turns_of run i n w)
  turns_of-later zero n w = same w
  turns_of-later (suc i) n w =
      then_later w (turn run n w) (turns_of run i n (turn run n w)) (turn-later n w) (turns_of-later i n (turn run n w))

  finished-later : (ks : List Session) (w : World) → Later w (finished run ks w)
  finished-later [] w = same w
  finished-later (k ∷ ks) w =
      let v : World = turns_of run (count (run.programs k.side).body) k.side.0 w in
      then_later w v (finished run ks v) (turns_of-later (count (run.programs k.side).body) k.side.0 w) (finished-later ks v)

pub turns-add : TurnsAdd
turns-add run m n w = turn-later run m n w

pub runs-add : RunsAdd
runs-add run m listed w =
    let v : World = turns run listed w in
    then_later w v (finished run w.sessions v) (turns-later run m listed w) (finished-later run m w.sessions v)

pub each_entry-logged : EachEntryIsLogged
each_entry-logged run m listed w before =
    let last : World = run_all run listed w in
    let h : Later w last = runs-add run m listed w in
    subst (All (IsLogged last)) (sym h.log) (All-weaker (IsLogged w) (IsLogged last) (later w last h) (w.log ++ h.added)
    (All-append (IsLogged w) w.log h.added before h.logged))
