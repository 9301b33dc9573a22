-- Sessions that take turns over one store (zope.security, interactions): each turn runs the next top-level statement of one of them. Here a world
-- of lists is handed on; the code has one machine for each turn over one store.
use Rattle.std.specs.Prelude.{ℕ, zero, suc, ◌+◌, nat_eq, List, [], ◌∷◌, find, map, if◌then◌else◌, Option, Some, None, Result, Ok, Err}
use Rattle.rp_base.specs.declared.value.Oid.{Oid}
use Rattle.rp_base.specs.declared.value.Side.{Side}
use Rattle.rp_decl.specs.Records.{Declarations}
use Rattle.rp_ops.specs.Outcome as plain
use Rattle.rp_ops.specs.Outcome.{End}
use Rattle.rp_store.specs.Store.{Cells}
use Rattle.rp_trail.specs.Entry.{Entry}
use Rattle.rp_tree.specs.Statements as stmt_tree
use Rattle.rp_meaning.specs.State.{State, Outcome, Flow}
use Rattle.rp_meaning.specs.Frame.{Run}
use Rattle.rp_meaning.specs.Meaning.{exec}
use Rattle.rp_meaning.specs.Running.{program_frame}

-- how a session ended: well, after its last statement, or by an exception or a stop
pub data SessionEnd : Type 0 where
  well : SessionEnd
  cut_off : End → SessionEnd

pub record Session : Type 0 where
  -- its number, the ids of its principals, and the place of its global scope
  pub side : Side
  pub who : List (List ℕ)
  pub globals : Oid
  -- the steps that are left to it, what it has printed, and the number of its next statement
  pub steps : ℕ
  pub printed : List ℕ
  pub next : ℕ
  pub end : Option SessionEnd

-- what all sessions share, and the sessions in the order of their numbers
pub record World : Type 0 where
  pub store : Cells
  pub log : List Entry
  pub names : List (List ℕ)
  pub declarations : Declarations
  pub sessions : List Session

-- the moment in which a session runs
abbrev pub state_of : World → Session → State
state_of w k = record {
  plain = plain.state_of w.store k.steps;
  log = w.log;
  session = k.side.0;
  who = k.who;
  printed = k.printed;
  names = w.names;
  declarations = w.declarations;
}

-- the top-level statement of a number, from 0
abbrev pub statement_at : ℕ → stmt_tree.Stmts → Option stmt_tree.Stmt
statement_at i stmt_tree.no_stmts = None
statement_at zero (stmt_tree.stmt x xs) = Some x
statement_at (suc i) (stmt_tree.stmt x xs) = statement_at i xs

abbrev pub count : stmt_tree.Stmts → ℕ
count stmt_tree.no_stmts = 0
count (stmt_tree.stmt x xs) = count xs + 1

-- a session with an empty script has ended well from the beginning
abbrev pub first_end : stmt_tree.Stmts → Option SessionEnd
first_end stmt_tree.no_stmts = Some well
first_end (stmt_tree.stmt x xs) = None

-- whether a session has ended with what a statement came to, behind which is that of a number, of so many
abbrev pub end_after : ℕ → ℕ → Result Flow End → Option SessionEnd
end_after next statements (Err e) = Some (cut_off e)
end_after next statements (Ok flow) = if nat_eq next statements then Some well else None

abbrev pub session_after : ℕ → Session → Outcome Flow → Session
session_after statements k o = record k {
  steps = o.state.plain.steps;
  printed = o.state.printed;
  next = k.next + 1;
  end = end_after (k.next + 1) statements o.answer;
}

-- the sessions with one in place of that of the same number
abbrev pub with_session : Session → List Session → List Session
with_session k ks = map (λ j. if nat_eq j.side.0 k.side.0 then k else j) ks

-- the world behind a statement of a session
abbrev pub world_after : World → ℕ → Session → Outcome Flow → World
world_after w statements k o = record w {
  store = o.state.plain.store;
  log = o.state.log;
  names = o.state.names;
  sessions = with_session (session_after statements k o) w.sessions;
}

-- the next statement of a session
abbrev pub played : Run → World → Session → Option stmt_tree.Stmt → World
played run w k None = w
played run w k (Some x) = world_after w (count (run.programs k.side).body) k (exec x (program_frame run k.side k.globals) (state_of w k))

-- a session that has ended changes nothing
abbrev pub unless_ended : Run → World → Session → Option SessionEnd → World
unless_ended run w k (Some e) = w
unless_ended run w k None = played run w k (statement_at k.next (run.programs k.side).body)

abbrev pub turn_of : Run → World → Option Session → World
turn_of run w None = w
turn_of run w (Some k) = unless_ended run w k k.end

-- a turn of the session of that number
abbrev pub turn : Run → ℕ → World → World
turn run n w = turn_of run w (find (λ k. nat_eq k.side.0 n) w.sessions)

-- the listed turns
abbrev pub turns : Run → List ℕ → World → World
turns run [] w = w
turns run (n ∷ ns) w = turns run ns (turn run n w)

-- so many turns of the session of a number
abbrev pub turns_of : Run → ℕ → ℕ → World → World
turns_of run zero n w = w
turns_of run (suc i) n w = turns_of run i n (turn run n w)

-- each of some sessions to its end, in order: it takes no more turns than it has statements
abbrev pub finished : Run → List Session → World → World
finished run [] w = w
finished run (k ∷ ks) w = finished run ks (turns_of run (count (run.programs k.side).body) k.side.0 w)

-- the listed turns, and then each session to its end
abbrev pub run_all : Run → List ℕ → World → World
run_all run listed w = finished run w.sessions (turns run listed w)
