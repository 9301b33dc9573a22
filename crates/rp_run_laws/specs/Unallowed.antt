-- That a run whose trail allows nothing leaves the trusted objects as the module left them, whatever its scripts are
-- (zope.security, proxies).
use Rattle.std.specs.Prelude.{◌≡◌, ℕ, List, map, Some}
use Rattle.rp_decl.specs.Records.{Declarations}
use Rattle.rp_meaning.specs.Load.{trusted}
use Rattle.rp_meaning.specs.Sessions.{World}
use Rattle.rp_order_laws.specs.Worlds.{SideStays}
use Rattle.rp_owner_laws.specs.Cut.{allowed_in}
use Rattle.rp_run.specs.Played.{IsPlayed, Played, no_front}
use Rattle.rp_run.specs.Told.{IsReady, read_into, scripts_of}
use Rattle.rp_session.specs.Played.{Reaches}
use Rattle.rp_session.specs.declared.session.Session.{Session}
use Rattle.rp_tree.specs.Statements as stmt_tree
use Rattle.rp_tree.specs.StatementTrees.{Stmts}
use Rattle.rp_words.specs.Command.{Pair, Run, command_of, run}

-- where no entry of the trail of the last world allows anything, each trusted object of the first is in it as it was
abbrev pub LeavesUnallowed : World → World → Type 0
LeavesUnallowed first last = allowed_in last.log ≡ 0 → SideStays trusted first.store.heap last.store.heap

-- where no step refuses a run, its sessions come to such a world, behind the one that was loaded
abbrev pub EachRunLeavesTheModule : Type 0
EachRunLeavesTheModule = (r : Run) (contents : List ℕ → List ℕ) (d : Declarations) (body : stmt_tree.Stmts) (w : World)
    (trees : List (Stmts (List ℕ))) → IsReady r contents d body w trees → (last : World)
    → Reaches (read_into (scripts_of r contents) w) body trees (map (λ (p : Pair). p.ids) r.pairs) r.turns r.steps last
    → LeavesUnallowed w last

-- so the sessions that `run` hands out, with whatever status, are those of such a world
abbrev pub EachPlayedRunLeavesTheModule : Type 0
EachPlayedRunLeavesTheModule = (words : List (List ℕ)) (contents : List ℕ → List ℕ) (text : List ℕ) (status : ℕ)
    (sessions : List Session) → Played words contents text status sessions
    → (r : Run) → command_of words ≡ Some (run r) → (d : Declarations) (body : stmt_tree.Stmts) (w : World)
    (trees : List (Stmts (List ℕ))) → IsReady r contents d body w trees
    → (its : IsPlayed r body (read_into (scripts_of r contents) w) trees no_front text status sessions)
    × LeavesUnallowed w its.last
