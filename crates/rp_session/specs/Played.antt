-- What scripts come to that take turns over a world: their direct meaning.
use Rattle.std.specs.Prelude.{◌≡◌, ℕ, List, [], ◌∷◌, map, Option}
use Rattle.std.specs.List.{AllZip}
use Rattle.rp_base.specs.Names.{word_of}
use Rattle.rp_compile.specs.Compiled.{Compilation, source_tree}
use Rattle.rp_meaning.specs.BuiltIn.{name_of}
use Rattle.rp_meaning.specs.Frame.{Run}
use Rattle.rp_meaning.specs.Load.{with_new_session}
use Rattle.rp_meaning.specs.Sessions.{SessionEnd, World, run_all}
use Rattle.rp_meaning.specs.Unmonitored.{told_of}
use Rattle.rp_scope.specs.Numbers.{IsNumbered}
use Rattle.rp_session.specs.Runs.{run_of}
use Rattle.rp_trail.specs.Entry.{Entry}
use Rattle.rp_tree.specs.Maps.{named, without_blocks}
use Rattle.rp_tree.specs.Statements.{Stmts}
use Rattle.rp_tree.specs.StatementTrees.{Stmts as TextStmts}

-- the world with a session more for each of these, one after another
abbrev pub with_new_sessions : Run → List (List (List ℕ)) → ℕ → World → World
with_new_sessions run [] steps w = w
with_new_sessions run (who ∷ whos) steps w = with_new_sessions run whos steps (with_new_session run who steps w)

-- a tree with each name in the place of its word among the words
abbrev pub placed : List (List ℕ) → TextStmts (List ℕ) → Stmts
placed words tree = named (name_of words) tree

-- the tree of a script by the words of names, without the numbers of its code blocks
abbrev pub source_text : List (List ℕ) → Compilation → TextStmts (List ℕ)
source_text names c = without_blocks (named (word_of names) (source_tree c))

-- sessions of these principals, each of so many steps, that take the listed turns in a world and then run to their ends
abbrev pub played_from : Run → World → List (List (List ℕ)) → List ℕ → ℕ → World
played_from run w whos listed steps = run_all run listed (with_new_sessions run whos steps w)

-- Sessions of scripts by their trees come to this world, from a world whose module has this body: each name in its
-- place among the names of the world, and the code blocks numbered.
pub record Reaches (w : World) (body : Stmts) (trees : List (TextStmts (List ℕ))) (whos : List (List (List ℕ)))
    (listed : List ℕ) (steps : ℕ) (last : World) : Type 0 where
  pub scripts : List Stmts
  pub numbered : AllZip (λ tree script. IsNumbered (placed w.names tree) script) trees scripts
  pub comes : played_from (run_of w.names w.declarations body scripts) w whos listed steps ≡ last

-- The same by what is told of it: how each of the sessions ended and what it printed, and beside that the log.
pub record Plays (w : World) (body : Stmts) (trees : List (TextStmts (List ℕ))) (whos : List (List (List ℕ)))
    (listed : List ℕ) (steps : ℕ) (told : List (Option SessionEnd × List ℕ)) (log : List Entry) : Type 0 where
  pub last : World
  pub reaches : Reaches w body trees whos listed steps last
  pub sessions : map told_of last.sessions ≡ told
  pub entries : last.log ≡ log
