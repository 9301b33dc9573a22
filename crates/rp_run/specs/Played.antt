-- Which sessions are handed out beside what the program says to its words: those that were played.
use Rattle.std.specs.Prelude.{◌≡◌, ◌+◌, ℕ, List, [], ◌∷◌, ◌++◌, length, map, Option, MatchOption}
use Rattle.std.specs.List.{All}
use Rattle.rp_decl.specs.Records.{Declarations}
use Rattle.rp_meaning.specs.Sessions.{World}
use Rattle.rp_meaning.specs.Unmonitored.{told_of}
use Rattle.rp_session.specs.Played.{Reaches}
use Rattle.rp_session.specs.View.{AddsUp, played_of, session_view}
use Rattle.rp_session.specs.declared.session.Session.{Session}
use Rattle.rp_tree.specs.Statements as stmt_tree
use Rattle.rp_tree.specs.StatementTrees.{Stmts}
use Rattle.rp_words.specs.Command.{Command, Pair, Run, run, script, may, large, command_of}
use Rattle.rp_run.specs.Headline.{Writes}
use Rattle.rp_run.specs.Output.{Finished, as_told, run_status, run_text, used_lines}
use Rattle.rp_run.specs.Told.{IsReady, ToldRefusedRun, large_contents, large_lines, large_run, read_into, scripts_of}

-- the steps that sessions have used together
abbrev pub used_by : List Session → ℕ
used_by [] = 0
used_by (k ∷ ks) = played_of k + used_by ks

-- Scripts without an offence, by their trees, come to these sessions over a world with its module: those of their
-- direct meaning, one for each pair, in order, each of which adds up to the steps of the command. Behind a front the
-- text is made of what they printed and how they ended, and of their log; so is the status.
pub record IsPlayed (r : Run) (body : stmt_tree.Stmts) (w : World) (trees : List (Stmts (List ℕ)))
    (front : World → List ℕ) (text : List ℕ) (status : ℕ) (sessions : List Session) : Type 0 where
  pub last : World
  pub reaches : Reaches w body trees (map (λ (p : Pair). p.ids) r.pairs) r.turns r.steps last
  pub are : map session_view sessions ≡ last.sessions
  pub as_many : length sessions ≡ length r.pairs
  pub used : All (AddsUp r.steps) sessions
  pub finished : List Finished
  pub told : map as_told finished ≡ map told_of last.sessions
  pub said : text ≡ front last ++ run_text r finished last.log
  pub ends : status ≡ run_status finished

-- a step refuses, and there are no sessions; or these are the sessions to which the scripts come
pub data PlayedRun (r : Run) (contents : List ℕ → List ℕ) (front : World → List ℕ) (text : List ℕ) (status : ℕ)
    (sessions : List Session) : Type 0 where
  refused : ToldRefusedRun r contents text status → sessions ≡ [] → PlayedRun r contents front text status sessions
  played : (d : Declarations) (body : stmt_tree.Stmts) (w : World) (trees : List (Stmts (List ℕ)))
      → IsReady r contents d body w trees
      → IsPlayed r body (read_into (scripts_of r contents) w) trees front text status sessions
      → PlayedRun r contents front text status sessions

-- before the blocks of a run nothing stands
abbrev pub no_front : World → List ℕ
no_front last = []

-- before those of the large input some lines, and what its session used
abbrev pub used_front : List ℕ → List Session → World → List ℕ
used_front lines sessions last = lines ++ used_lines (used_by sessions) last.store.used (length last.log)

abbrev pub PlayedCommand : Command → (List ℕ → List ℕ) → List ℕ → ℕ → List Session → Type 0
PlayedCommand (run r) contents text status sessions = PlayedRun r contents no_front text status sessions
PlayedCommand (script q path) contents text status sessions = sessions ≡ []
PlayedCommand (may m) contents text status sessions = sessions ≡ []
PlayedCommand (large n) contents text status sessions =
    PlayedRun large_run (large_contents n) (used_front (large_lines n) sessions) text status sessions

abbrev pub PlayedBy : Option Command → (List ℕ → List ℕ) → List ℕ → ℕ → List Session → Type 0
PlayedBy command contents text status sessions =
    MatchOption command (sessions ≡ []) (λ command. PlayedCommand command contents text status sessions)

-- the program says this text, ends with this status, and hands out these sessions
abbrev pub Played : List (List ℕ) → (List ℕ → List ℕ) → List ℕ → ℕ → List Session → Type 0
Played words contents text status sessions = PlayedBy (command_of words) contents text status sessions

-- the whole of a text was written with which these sessions are handed out
abbrev pub PlaysWhole : List (List ℕ) → ℕ → (List ℕ → List ℕ) → List Session → Option (List ℕ) → Option (List ℕ)
    → Type 0
PlaysWhole words status contents sessions old new =
    (text : List ℕ) × (Played words contents text status sessions × Writes text old new)
