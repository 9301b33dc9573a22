-- No turn of a session adds to the steps that are left to sessions.
use Rattle.std.proofs.Common.{◌≡◌, ◌≤◌, ◌∙◌, refl, sym, subst, ap, ℕ, zero, suc, nat_eq, cond, if◌then◌else◌}
use Rattle.std.proofs.Common.{Bool, true, false}
use Rattle.std.proofs.Common.{true≢false, List, [], ◌∷◌, find, Option, Some, None}
use Rattle.std.specs.Option.{option_map_or}
use Rattle.std.proofs.Math.Nat.{le_refl, le_trans}
use Rattle.std.proofs.lemmas.Bool.{eqb-true, eq-eqb}
use Rattle.rp_tree.specs.Statements as stmt_tree
use Rattle.rp_meaning.specs.Frame.{Run}
use Rattle.rp_meaning.specs.Meaning.{exec}
use Rattle.rp_meaning.specs.Running.{program_frame}
use Rattle.rp_meaning.specs.Sessions.{Session, SessionEnd, World, count, finished, played, session_after, state_of}
use Rattle.rp_meaning.specs.Sessions.{statement_at, turn, turn_of, turns, turns_of, unless_ended}
use Rattle.rp_meaning.specs.Sessions.{with_session, world_after}
use Rattle.rp_meaning.specs.State.{Flow, Outcome}
use Rattle.rp_meter_laws.specs.Metered.{AddNone, AddsNone}
use Rattle.rp_meter_laws.specs.Worlds.{NoneGains, RunsAddNone, TurnsAddNone}
use Rattle.rp_meter_laws.proofs.Programs.{programs-add_none}

abbrev steps_of : Option Session → ℕ
steps_of o = option_map_or (λ (k : Session). k.steps) o 0

-- the steps of the first session of a number
abbrev among : List Session → ℕ → ℕ
among ks n = steps_of (find (λ (k : Session). nat_eq k.side.0 n) ks)

-- a session in place of another of its number changes them for no other number

among-other : (j : Session) (n : ℕ) → nat_eq j.side.0 n ≡ false → (ks : List Session)
    → among (with_session j ks) n ≡ among ks n
among-other j n not [] = refl
among-other j n not (k ∷ ks) = by (among-other j n not ks) (nat_eq k.side.0 j.side.0) refl where
  skip : (x : Session) (b : Bool) → b ≡ false
      → steps_of (cond b (Some x) (find (λ (k : Session). nat_eq k.side.0 n) ks)) ≡ among ks n
  skip x true e = absurd (true≢false e)
  skip x false e = refl

  both : (b : Bool) → among (with_session j ks) n ≡ among ks n
      → steps_of (cond b (Some k) (find (λ (k : Session). nat_eq k.side.0 n) (with_session j ks)))
      ≡ steps_of (cond b (Some k) (find (λ (k : Session). nat_eq k.side.0 n) ks))
  both true rest = refl
  both false rest = rest

  by : among (with_session j ks) n ≡ among ks n → (b : Bool) → nat_eq k.side.0 j.side.0 ≡ b
      → among ((if b then j else k) ∷ with_session j ks) n ≡ among (k ∷ ks) n
  by rest true e =
      let same : k.side.0 ≡ j.side.0 = eqb-true k.side.0 j.side.0 e in
      let its : nat_eq k.side.0 n ≡ false = subst (λ m. nat_eq m n ≡ false) (sym same) not in
      (rw not rest) ∙ sym (skip k (nat_eq k.side.0 n) its)
  by rest false e = both (nat_eq k.side.0 n) rest

-- nor adds any for its own, if it has no more than the first of its number
among-own : (j : Session) (ks : List Session) → j.steps ≤ among ks j.side.0
    → among (with_session j ks) j.side.0 ≤ among ks j.side.0
among-own j [] is = le_refl 0
among-own j (k ∷ ks) is = by (among-own j ks) (nat_eq k.side.0 j.side.0) refl where
  itself : nat_eq j.side.0 j.side.0 ≡ true
  itself = eq-eqb j.side.0 j.side.0 refl

  by : (j.steps ≤ among ks j.side.0 → among (with_session j ks) j.side.0 ≤ among ks j.side.0) → (b : Bool)
      → nat_eq k.side.0 j.side.0 ≡ b
      → among ((if b then j else k) ∷ with_session j ks) j.side.0 ≤ among (k ∷ ks) j.side.0
  by rest true e = rw itself is
  by rest false e = rw e (rest (rw e at is))

among-same : (j : Session) (ks : List Session) → j.steps ≤ among ks j.side.0 → (n : ℕ)
    → among (with_session j ks) n ≤ among ks n
among-same j ks is n = by (nat_eq j.side.0 n) refl where
  by : (b : Bool) → nat_eq j.side.0 n ≡ b → among (with_session j ks) n ≤ among ks n
  by true e = subst (λ m. among (with_session j ks) m ≤ among ks m) (eqb-true j.side.0 n e) (among-own j ks is)
  by false e = subst (λ m. m ≤ among ks n) (sym (among-other j n e ks)) (le_refl (among ks n))

-- worlds, one behind another

same : (w : World) → NoneGains w w
same w n = le_refl (among w.sessions n)

then_none : (u v w : World) → NoneGains u v → NoneGains v w → NoneGains u w
then_none u v w h i n = le_trans (i n) (h n)

module _ (run : Run) (natives : AddNone run.natives) where
  world-none : (w : World) (k : Session) → among w.sessions k.side.0 ≡ k.steps → (n : ℕ) (o : Outcome Flow)
      → AddsNone (state_of w k) o → NoneGains w (world_after w n k o)
  world-none w k is n o h =
      among-same (session_after n k o) w.sessions (subst (λ m. o.state.plain.steps ≤ m) (sym is) h.steps)

  played-none : (w : World) (k : Session) → among w.sessions k.side.0 ≡ k.steps → (o : Option stmt_tree.Stmt)
      → NoneGains w (played run w k o)
  played-none w k is None = same w
  played-none w k is (Some x) =
      world-none w k is (count (run.programs k.side).body) (exec x (program_frame run k.side k.globals) (state_of w k))
      (programs-add_none run natives k.side k.globals x (state_of w k))

  unless-none : (w : World) (k : Session) → among w.sessions k.side.0 ≡ k.steps → (end : Option SessionEnd)
      → NoneGains w (unless_ended run w k end)
  unless-none w k is (Some e) = same w
  unless-none w k is None = played-none w k is (statement_at k.next (run.programs k.side).body)

  -- the session that is found by a number has it
  found-number : (n : ℕ) (ks : List Session) (k : Session) → find (λ (k : Session). nat_eq k.side.0 n) ks ≡ Some k
      → k.side.0 ≡ n
  found-number n [] k is = cc
  found-number n (x ∷ ks) k is = by (found-number n ks k) (nat_eq x.side.0 n) refl where
    by : (find (λ (k : Session). nat_eq k.side.0 n) ks ≡ Some k → k.side.0 ≡ n) → (b : Bool) → nat_eq x.side.0 n ≡ b
        → k.side.0 ≡ n
    by rest true e =
        let it : Some x ≡ Some k = rw e at is in
        let its : x ≡ k = cc in subst (λ (y : Session). y.side.0 ≡ n) its (eqb-true x.side.0 n e)
    by rest false e = rest (rw e at is)

  turn-none : (n : ℕ) (w : World) → NoneGains w (turn run n w)
  turn-none n w = by (find (λ (k : Session). nat_eq k.side.0 n) w.sessions) refl where
    by : (o : Option Session) → find (λ (k : Session). nat_eq k.side.0 n) w.sessions ≡ o → NoneGains w (turn_of run w o)
    by None e = same w
    by (Some k) e =
        let its : among w.sessions n ≡ k.steps = ap steps_of e in
        unless-none w k (subst (λ n. among w.sessions n ≡ k.steps) (sym (found-number n w.sessions k e)) its) k.end

  turns-none : (ns : List ℕ) (w : World) → NoneGains w (turns run ns w)
  turns-none [] w = same w
  turns-none (n ∷ ns) w =
      then_none w (turn run n w) (turns run ns (turn run n w)) (turn-none n w) (turns-none ns (turn run n w))

  turns_of-none : (i n : ℕ) (w : World) → NoneGains w (turns_of run i n w)
  turns_of-none zero n w = same w
  turns_of-none (suc i) n w =
      then_none w (turn run n w) (turns_of run i n (turn run n w)) (turn-none n w) (turns_of-none i n (turn run n w))

  finished-none : (ks : List Session) (w : World) → NoneGains w (finished run ks w)
  finished-none [] w = same w
  finished-none (k ∷ ks) w =
      let v : World = turns_of run (count (run.programs k.side).body) k.side.0 w in
      then_none w v (finished run ks v) (turns_of-none (count (run.programs k.side).body) k.side.0 w)
      (finished-none ks v)

pub turns-add_none : TurnsAddNone
turns-add_none run natives n w = turn-none run natives n w

pub runs-add_none : RunsAddNone
runs-add_none run natives listed w =
    let v : World = turns run listed w in
    then_none w v (finished run w.sessions v) (turns-none run natives listed w) (finished-none run natives w.sessions v)
