-- That all objects of a run fit its programs, those of the module and of the scripts: what each function runs and what
-- each scope holds is told by the code that made it, whatever the scripts are (Python Language Reference, Naming and
-- binding).
use Rattle.std.specs.Prelude.{ℕ, List, map}
use Rattle.rp_decl.specs.Apart.{AreNamesApart}
use Rattle.rp_decl.specs.InOrder.{AreInOrder}
use Rattle.rp_decl.specs.Records.{Declarations}
use Rattle.rp_fit_laws.specs.Worlds.{IsFitWorld}
use Rattle.rp_meaning.specs.Frame.{Run as Frame}
use Rattle.rp_meaning.specs.Sessions.{World}
use Rattle.rp_run.specs.Told.{IsReady, read_into, scripts_of}
use Rattle.rp_session.specs.Played.{Reaches}
use Rattle.rp_session.specs.Runs.{run_of}
use Rattle.rp_tree.specs.Statements as stmt_tree
use Rattle.rp_tree.specs.StatementTrees.{Stmts}
use Rattle.rp_words.specs.Command.{Pair, Run}

-- the run of a world whose module has this body, and of scripts
abbrev pub its_run : World → stmt_tree.Stmts → List stmt_tree.Stmts → Frame
its_run w body scripts = run_of w.names w.declarations body scripts

-- Where no step refuses a run, its sessions come to such a world, and that is so behind each turn, as it is where the
-- world was loaded. The declarations stand in byte order, each once, and no object has the name of a class.
abbrev pub EachRunFits : Type 0
EachRunFits = (r : Run) (contents : List ℕ → List ℕ) (d : Declarations) (body : stmt_tree.Stmts) (w : World)
    (trees : List (Stmts (List ℕ))) → IsReady r contents d body w trees → AreInOrder d → AreNamesApart d
    → (last : World)
    → (its : Reaches (read_into (scripts_of r contents) w) body trees (map (λ (p : Pair). p.ids) r.pairs) r.turns
    r.steps last)
    → IsFitWorld (its_run (read_into (scripts_of r contents) w) body its.scripts).programs last
