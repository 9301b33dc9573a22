-- What each statement of a session keeps of worlds is kept by turns, and by whole runs.
use Rattle.std.proofs.Common.{◌≡◌, refl, ℕ, zero, suc, nat_eq, cond, if◌then◌else◌, Bool, true, false, List, [], ◌∷◌}
use Rattle.std.proofs.Common.{find}
use Rattle.std.proofs.Common.{Option, Some, None}
use Rattle.std.proofs.lemmas.Bool.{eqb-true}
use Rattle.rp_tree.specs.Statements as stmt_tree
use Rattle.rp_meaning.specs.Frame.{Run}
use Rattle.rp_meaning.specs.Meaning.{exec}
use Rattle.rp_meaning.specs.Running.{program_frame}
use Rattle.rp_meaning.specs.Sessions.{Session, SessionEnd, World, count, finished, played, run_all, state_of}
use Rattle.rp_meaning.specs.Sessions.{statement_at, turn, turn_of, turns, turns_of, unless_ended, with_session}
use Rattle.rp_meaning.specs.Sessions.{world_after}
use Rattle.rp_apart_laws.specs.Apart.{Each, OnSome}

-- a session in place of another of its number
pub session_put : (P : Session → Type 0) (k : Session) → P k → (ks : List Session) → Each P ks
    → Each P (with_session k ks)
session_put P k q [] p = tt
session_put P k q (j ∷ ks) p = (by (nat_eq j.side.0 k.side.0), session_put P k q ks p.1) where
  by : (b : Bool) → P (if b then k else j)
  by true = q
  by false = p.0

-- the session that is found by a number
pub found_session : (P : Session → Type 0) (n : ℕ) (ks : List Session) → Each P ks
    → OnSome (λ (k : Session). P k × (k.side.0 ≡ n)) (find (λ (k : Session). nat_eq k.side.0 n) ks)
found_session P n [] p = tt
found_session P n (k ∷ ks) p = by (nat_eq k.side.0 n) refl (found_session P n ks p.1) where
  by : (b : Bool) → nat_eq k.side.0 n ≡ b
      → OnSome (λ (k : Session). P k × (k.side.0 ≡ n)) (find (λ (k : Session). nat_eq k.side.0 n) ks)
      → OnSome (λ (k : Session). P k × (k.side.0 ≡ n))
      (cond b (Some k) (find (λ (k : Session). nat_eq k.side.0 n) ks))
  by true e q = (p.0, eqb-true k.side.0 n e)
  by false e q = q

module _ (run : Run) (Good : World → Type 0) (Mine : World → Session → Type 0)
    (mine_of : (w : World) → Good w → Each (Mine w) w.sessions)
    (statement : (w : World) → Good w → (k : Session) → Mine w k → (x : stmt_tree.Stmt)
    → statement_at k.next (run.programs k.side).body ≡ Some x
    → Good (world_after w (count (run.programs k.side).body) k
    (exec x (program_frame run k.side k.globals) (state_of w k)))) where
  played_keeps : (w : World) → Good w → (k : Session) → Mine w k → (x : Option stmt_tree.Stmt)
      → statement_at k.next (run.programs k.side).body ≡ x → Good (played run w k x)
  played_keeps w h k mine None e = h
  played_keeps w h k mine (Some x) e = statement w h k mine x e

  unless_keeps : (w : World) → Good w → (k : Session) → Mine w k → (end : Option SessionEnd)
      → Good (unless_ended run w k end)
  unless_keeps w h k mine (Some e) = h
  unless_keeps w h k mine None = played_keeps w h k mine (statement_at k.next (run.programs k.side).body) refl

  pub turn_keeps : (n : ℕ) (w : World) → Good w → Good (turn run n w)
  turn_keeps n w h = by (find (λ (k : Session). nat_eq k.side.0 n) w.sessions)
      (found_session (Mine w) n w.sessions (mine_of w h))
    where
      by : (o : Option Session) → OnSome (λ (k : Session). Mine w k × (k.side.0 ≡ n)) o → Good (turn_of run w o)
      by None p = h
      by (Some k) p = unless_keeps w h k p.0 k.end

  pub turns_keep : (ns : List ℕ) (w : World) → Good w → Good (turns run ns w)
  turns_keep [] w h = h
  turns_keep (n ∷ ns) w h = turns_keep ns (turn run n w) (turn_keeps n w h)

  pub turns_of_keep : (i n : ℕ) (w : World) → Good w → Good (turns_of run i n w)
  turns_of_keep zero n w h = h
  turns_of_keep (suc i) n w h = turns_of_keep i n (turn run n w) (turn_keeps n w h)

  pub finished_keep : (ks : List Session) (w : World) → Good w → Good (finished run ks w)
  finished_keep [] w h = h
  finished_keep (k ∷ ks) w h =
      finished_keep ks (turns_of run (count (run.programs k.side).body) k.side.0 w)
      (turns_of_keep (count (run.programs k.side).body) k.side.0 w h)

  pub run_keeps : (listed : List ℕ) (w : World) → Good w → Good (run_all run listed w)
  run_keeps listed w h = finished_keep w.sessions (turns run listed w) (turns_keep listed w h)
