-- That nothing is refused without a cause: where a command is given, nothing failed and nothing is refused, what is
-- written is its meaning, or memory was wanting; and what is refused is told. A rule of our own.
use Rattle.std.specs.Prelude.{◌≡◌, ◌≢◌, ◌⊎◌, ◌-◌, ◌++◌, ◌∷◌, ℕ, true, List, [], length, map, Option, Some, None}
use Rattle.rp_decl.specs.Records.{Declarations}
use Rattle.rp_decl.specs.Word.{is_among}
use Rattle.rp_interact.specs.Why.{first_unknown}
use Rattle.rp_meaning.specs.Sessions.{Session, World}
use Rattle.rp_meaning.specs.Unmonitored.{told_of}
use Rattle.rp_policy.specs.Offences.{offences}
use Rattle.rp_program.specs.Program.{IsProgram}
use Rattle.rp_run.specs.Headline.{IsAnswer, TellsWhole, Writes}
use Rattle.rp_run.specs.Output.{Finished, as_told, may_status, may_text, run_status, run_text, used_lines}
use Rattle.rp_run.specs.Told.{IsRead, IsReady, IsShort, Told, ToldRefusedRun, large_contents, large_lines, large_run}
use Rattle.rp_run.specs.Told.{ToldLarge, ToldRun, read_into, said_to, scripts_of}
use Rattle.rp_session.specs.Played.{Plays, Reaches}
use Rattle.rp_trail.specs.Entry.{Entry}
use Rattle.rp_tree.specs.Statements as stmt_tree
use Rattle.rp_tree.specs.StatementTrees.{Stmts}
use Rattle.rp_words.specs.Command.{May, Pair, Run, command_of, large, run, script, may}
use Rattle.rp_words.specs.declared.command.Question.{Question}

-- whatever is told to the same words and contents is one text, with one status
abbrev pub IsToldOnce : Type 0
IsToldOnce = (words : List (List ℕ)) (contents : List ℕ → List ℕ) (text : List ℕ) (status : ℕ) (other_text : List ℕ)
    (other : ℕ) → Told words contents text status → Told words contents other_text other
    → (text ≡ other_text) × (status ≡ other)

-- what the contract of `run` says of its status, where files and sink tell their bytes and no fault rose
pub record Answers (words : List (List ℕ)) (contents : List ℕ
    → List ℕ) (status : ℕ) (old new : Option (List ℕ)) : Type 0 where
  pub told : IsAnswer status → TellsWhole words status contents old new
  pub read : status ≢ 6
  pub written : status ≢ 7

-- memory was wanting, or this text was written and this is the status
abbrev pub Comes : ℕ → Option (List ℕ) → Option (List ℕ) → List ℕ → ℕ → Type 0
Comes status old new text wanted = (status ≡ 8) ⊎ ((status ≡ wanted) × Writes text old new)

-- whatever is told to words and contents, nothing else is left to say but want of memory
abbrev pub EachTellingComes : Type 0
EachTellingComes = (words : List (List ℕ)) (contents : List ℕ → List ℕ) (status : ℕ) (old new : Option (List ℕ))
    → Answers words contents status old new
    → (text : List ℕ) (wanted : ℕ) → Told words contents text wanted → Comes status old new text wanted

-- so where a step refuses a run, that is told
abbrev pub EachRefusalComes : Type 0
EachRefusalComes = (words : List (List ℕ)) (contents : List ℕ → List ℕ) (status : ℕ) (old new : Option (List ℕ))
    → Answers words contents status old new
    → (r : Run) → command_of words ≡ Some (run r) → (text : List ℕ) (wanted : ℕ) → ToldRefusedRun r contents text wanted
    → Comes status old new text wanted

-- the statuses of runs whose sessions have ended: 0, 1 and 5
abbrev pub IsEndStatus : ℕ → Type 0
IsEndStatus status = (status ≡ 0) ⊎ ((status ≡ 1) ⊎ (status ≡ 5))

abbrev pub EachEndHasItsStatus : Type 0
EachEndHasItsStatus = (sessions : List Finished) → IsEndStatus (run_status sessions)

-- a run that no step refuses ends with one of these, or memory was wanting
abbrev pub EachRunEnds : Type 0
EachRunEnds = (words : List (List ℕ)) (contents : List ℕ → List ℕ) (status : ℕ) (old new : Option (List ℕ))
    → Answers words contents status old new
    → (r : Run) → command_of words ≡ Some (run r) → (d : Declarations) (body : stmt_tree.Stmts) (w : World)
    (trees : List (Stmts (List ℕ))) → IsReady r contents d body w trees → (status ≡ 8) ⊎ IsEndStatus status

-- and it tells what its sessions come to
abbrev pub EachRunComes : Type 0
EachRunComes = (words : List (List ℕ)) (contents : List ℕ → List ℕ) (status : ℕ) (old new : Option (List ℕ))
    → Answers words contents status old new
    → (r : Run) → command_of words ≡ Some (run r) → (d : Declarations) (body : stmt_tree.Stmts) (w : World)
    (trees : List (Stmts (List ℕ))) → IsReady r contents d body w trees → (sessions : List Finished) (log : List Entry)
    → Plays (read_into (scripts_of r contents) w) body trees (map (λ (p : Pair). p.ids) r.pairs) r.turns r.steps
    (map as_told sessions) log
    → Comes status old new (run_text r sessions log) (run_status sessions)

-- so does the run of the large input, behind what it used
abbrev pub EachLargeComes : Type 0
EachLargeComes = (words : List (List ℕ)) (contents : List ℕ → List ℕ) (status : ℕ) (old new : Option (List ℕ))
    → Answers words contents status old new
    → (n : ℕ) → command_of words ≡ Some (large n) → (d : Declarations) (body : stmt_tree.Stmts) (w : World)
    (trees : List (Stmts (List ℕ))) → IsReady large_run (large_contents n) d body w trees
    → (last : World)
    → Reaches (read_into (scripts_of large_run (large_contents n)) w) body trees
    (map (λ (p : Pair). p.ids) large_run.pairs) large_run.turns large_run.steps last
    → (session : Session) → last.sessions ≡ session ∷ []
    → (all : List Finished) → map as_told all ≡ map told_of last.sessions
    → Comes status old new (large_lines n
    ++ used_lines (large_run.steps - session.steps) last.store.used (length last.log)
    ++ run_text large_run all last.log) (run_status all)

-- a script without offence is accepted, and shown
abbrev pub EachScriptComes : Type 0
EachScriptComes = (words : List (List ℕ)) (contents : List ℕ → List ℕ) (status : ℕ) (old new : Option (List ℕ))
    → Answers words contents status old new
    → (q : Question) (path : List ℕ) → command_of words ≡ Some (script q path) → IsShort (contents path)
    → (tree : Stmts (List ℕ)) → IsProgram (contents path) tree → offences tree ≡ []
    → Comes status old new (said_to q tree) 0

-- declared principals are told of a declared permission
abbrev pub EachQuestionComes : Type 0
EachQuestionComes = (words : List (List ℕ)) (contents : List ℕ → List ℕ) (status : ℕ) (old new : Option (List ℕ))
    → Answers words contents status old new
    → (m : May) → command_of words ≡ Some (may m) → (d : Declarations) → IsRead (contents m.declarations) d
    → first_unknown d m.ids ≡ None → is_among d.permissions m.permission ≡ true
    → Comes status old new (may_text d m.ids m.permission) (may_status d m.ids m.permission)

-- ---- there is always something to tell

-- a run that no step refuses is told, whatever its scripts are
abbrev pub EachReadyIsTold : Type 0
EachReadyIsTold = (r : Run) (contents : List ℕ → List ℕ) (d : Declarations) (body : stmt_tree.Stmts) (w : World)
    (trees : List (Stmts (List ℕ))) → IsReady r contents d body w trees
    → (text : List ℕ) × ((status : ℕ) × ToldRun r contents text status)

-- so is the run of the large input
abbrev pub EachLargeIsTold : Type 0
EachLargeIsTold = (n : ℕ) (d : Declarations) (body : stmt_tree.Stmts) (w : World) (trees : List (Stmts (List ℕ)))
    → IsReady large_run (large_contents n) d body w trees
    → (text : List ℕ) × ((status : ℕ) × ToldLarge large_run (large_contents n) n text status)
