-- What a turn of a session does, beside the other sessions.
use Rattle.std.specs.Prelude.{◌≡◌, ◌+◌, Bool, List, []}
use Rattle.rp_meaning.specs.Frame.{Run}
use Rattle.rp_meaning.specs.Running.{program_frame}
use Rattle.rp_meaning.specs.Sessions as meant
use Rattle.rp_meaning.specs.Sessions.{unless_ended, with_session}
use Rattle.rp_meaning.specs.State.{State, Outcome, Flow}
use Rattle.rp_proxy.specs.declared.world.World.{World}
use Rattle.rp_engine.specs.Does as does
use Rattle.rp_tree.specs.declared.stmt.Stmt.{Stmt}
use Rattle.rp_session.specs.View.{EndsSo, session_view, shared}
use Rattle.rp_session.specs.declared.session.Session.{Session}

-- the moment in which a session runs
abbrev pub moment : World → Session → State
moment w k = meant.state_of (shared w []) (session_view k)

-- what some statements of its program come to then
abbrev pub comes_of : Run → List Stmt → World → Session → Outcome Flow
comes_of run statements w k = does.block statements (program_frame run (session_view k).side k.globals) (moment w k)

-- It ran the statements. Its number, its principals and its global scope are the same, and so are the declarations.
pub record Runs (run : Run) (statements : List Stmt) (is_last : Bool) (w : World) (k : Session) (v : World) (j : Session) : Type 0 where
  pub ends : EndsSo j.end is_last (moment v j) (comes_of run statements w k)
  pub side : (session_view j).side ≡ (session_view k).side
  pub who : (session_view j).who ≡ (session_view k).who
  pub globals : j.globals ≡ k.globals
  pub next : j.next ≡ k.next + 1
  pub declarations : (shared v []).declarations ≡ (shared w []).declarations

-- It took a turn, as one of some sessions.
abbrev pub TakesTurn : Run → World → Session → World → Session → Type 0
TakesTurn run w k v j =
    (ks : List meant.Session) → with_session (session_view k) ks ≡ ks
    → unless_ended run (shared w ks) (session_view k) (session_view k).end ≡ shared v (with_session (session_view j) ks)
