-- How far a run has come.
use Rattle.std.specs.Prelude.{◌≡◌, ◌≢◌, ◌⊎◌, ◌+◌, ℕ, suc, nat_eq, Bool, false, List, [], ◌∷◌, ◌++◌, map, slice_get}
use Rattle.std.specs.Prelude.{take, Option, Some, None, IfSome}
use Rattle.std.specs.Option.{option_map_or}
use Rattle.rp_base.specs.Names.{with_words}
use Rattle.rp_compile.specs.Compiled.{Compilation, source_tree}
use Rattle.rp_meaning.specs.Sessions.{SessionEnd}
use Rattle.rp_program.specs.Leaves.{IsTreeHeld}
use Rattle.rp_program.specs.ProgramWords.{program_words}
use Rattle.rp_run.specs.Headline.{IsAnswer, IsStatus}
use Rattle.rp_run.specs.Output.{end_status}
use Rattle.rp_run.specs.Told.{IsAccepted, ToldRefused, first_too_long, script_prefix}
use Rattle.rp_session.specs.Played.{source_text}
use Rattle.rp_words.specs.Command.{Command, Pair, usage}

-- a status of a command in which nothing failed
abbrev pub IsCommandStatus : ℕ → Type 0
IsCommandStatus status = IsStatus status × IsAnswer status × (status ≢ 2)

-- the status of what is said to a command, or to words that give none
abbrev pub IsStatusOf : Option Command → List ℕ → ℕ → Type 0
IsStatusOf None text status = (text ≡ usage) × (status ≡ 2)
IsStatusOf (Some command) text status = IsCommandStatus status

-- the file at the path was the only one that was begun
abbrev pub BeginsOnly : List ℕ → ℕ → List ℕ → Type 0
BeginsOnly path begun last_path = (begun ≡ 1) × (last_path ≡ path)

-- of the files of some pairs the one behind k others was begun last, each of these before it, and `before` before them
-- all
abbrev pub BeginsScript : List Pair → ℕ → ℕ → ℕ → List ℕ → Type 0
BeginsScript pairs before k begun last_path = (begun ≡ before + suc k)
    × (slice_get (map (λ (p : Pair). p.path) pairs) k ≡ Some last_path)

-- none of them was begun, or some were
abbrev pub BeginsSome : List Pair → ℕ → List ℕ → ℕ → List ℕ → Type 0
BeginsSome pairs before old_path begun last_path =
    ((begun ≡ before) × (last_path ≡ old_path)) ⊎ ((k : ℕ) × BeginsScript pairs before k begun last_path)

-- reading failed at one of them, and none of those before it is too long
abbrev pub FailsAtScript : List Pair → Option (List ℕ → List ℕ) → ℕ → ℕ → List ℕ → Type 0
FailsAtScript pairs contents before begun last_path =
    (k : ℕ) × (BeginsScript pairs before k begun last_path
    × IfSome contents (λ of. first_too_long of (take k pairs) ≡ None))

-- What one script adds to the names, the compiled scripts and what is said of those that are refused: its words and
-- itself, or its lines.
pub data Adds (number : ℕ) (bytes : List ℕ) (old_names names : List (List ℕ)) (old_scripts scripts : List Compilation)
    (old_said said : List ℕ) : Type 0 where
  script : (t : Compilation) → IsAccepted bytes (source_text names t) → IsTreeHeld names (source_tree t)
      → names ≡ with_words old_names (program_words bytes)
      → scripts ≡ old_scripts ++ t ∷ [] → said ≡ old_said
      → Adds number bytes old_names names old_scripts scripts old_said said
  lines : (text : List ℕ) → ToldRefused (script_prefix number) bytes text → scripts ≡ old_scripts
      → said ≡ old_said ++ text
      → Adds number bytes old_names names old_scripts scripts old_said said

-- a session of which this is told ended with this status
abbrev pub ends_so : ℕ → Option SessionEnd × List ℕ → Bool
ends_so status told = option_map_or (λ end. nat_eq (end_status end) status) told.0 false
