-- That a monitor which refuses nothing is not seen (zope.security, proxies): what is told of a run whose log has no
-- refusal is, but for that log, what the same scripts come to without a monitor.
use Rattle.std.specs.Prelude.{◌≡◌, ℕ, List, map, Option, Some}
use Rattle.std.specs.List.{AllZip}
use Rattle.rp_decl.specs.Records.{Declarations}
use Rattle.rp_meaning.specs.Sessions.{SessionEnd, World}
use Rattle.rp_meaning.specs.Unmonitored.{AllAllowed, told_of, unmonitored}
use Rattle.rp_run.specs.Output.{as_told}
use Rattle.rp_run.specs.Told.{IsReady, Told, ToldPlayed, read_into, scripts_of}
use Rattle.rp_scope.specs.Numbers.{IsNumbered}
use Rattle.rp_session.specs.Played.{Plays, placed, played_from}
use Rattle.rp_session.specs.Runs.{run_of}
use Rattle.rp_trail.specs.Entry.{Entry}
use Rattle.rp_tree.specs.Statements as stmt_tree
use Rattle.rp_tree.specs.StatementTrees.{Stmts}
use Rattle.rp_words.specs.Command.{Pair, Run, command_of, run}

-- sessions of scripts by their trees come to these ends and outputs without a monitor, over a world whose module has
-- this body
pub record PlaysUnwatched (w : World) (body : stmt_tree.Stmts) (trees : List (Stmts (List ℕ)))
    (whos : List (List (List ℕ))) (listed : List ℕ) (steps : ℕ) (told : List (Option SessionEnd × List ℕ))
    : Type 0 where
  pub scripts : List stmt_tree.Stmts
  pub numbered : AllZip (λ tree script. IsNumbered (placed w.names tree) script) trees scripts
  pub comes : map told_of (played_from (unmonitored (run_of w.names w.declarations body scripts)) w whos listed
      steps).sessions ≡ told

-- scripts that come to a log without a refusal come to the same ends and outputs without a monitor
abbrev pub EachUnrefusedPlayIsUnwatched : Type 0
EachUnrefusedPlayIsUnwatched = (w : World) (body : stmt_tree.Stmts) (trees : List (Stmts (List ℕ)))
    (whos : List (List (List ℕ))) (listed : List ℕ) (steps : ℕ) (told : List (Option SessionEnd × List ℕ))
    (log : List Entry) → Plays w body trees whos listed steps told log → AllAllowed log
    → PlaysUnwatched w body trees whos listed steps told

-- what is told of a run that no step refuses has ends and outputs, and where its log has no refusal, the scripts come
-- to them without a monitor
abbrev pub EachUnrefusedRunIsUnwatched : Type 0
EachUnrefusedRunIsUnwatched = (words : List (List ℕ)) (contents : List ℕ → List ℕ) (text : List ℕ) (status : ℕ)
    → Told words contents text status
    → (r : Run) → command_of words ≡ Some (run r) → (d : Declarations) (body : stmt_tree.Stmts) (w : World)
    (trees : List (Stmts (List ℕ))) → IsReady r contents d body w trees
    → (told : ToldPlayed r body (read_into (scripts_of r contents) w) trees text status)
    × (AllAllowed told.log
    → PlaysUnwatched (read_into (scripts_of r contents) w) body trees (map (λ (p : Pair). p.ids) r.pairs)
    r.turns r.steps (map as_told told.sessions))
