-- What a run has before its sessions.
use Rattle.std.specs.Prelude.{◌≡◌, ℕ, List, length, map}
use Rattle.std.specs.List.{All}
use Rattle.rp_compile.specs.Compiled.{Compilation, source_tree}
use Rattle.rp_decl.specs.Records.{Declarations}
use Rattle.rp_decl.specs.View.{declarations_view}
use Rattle.rp_interact.specs.Interacting.{Interacting}
use Rattle.rp_meaning.specs.Sessions as sessions
use Rattle.rp_program.specs.Leaves.{IsTreeHeld}
use Rattle.rp_proxy.specs.Faithful.{IsFaithful}
use Rattle.rp_proxy.specs.declared.world.World.{World}
use Rattle.rp_run.specs.Played.{IsPlayed}
use Rattle.rp_run.specs.Told.{IsReady, ToldPlayed, ToldUsed, read_into, scripts_of}
use Rattle.rp_run.specs.View.{AnswersInAll}
use Rattle.rp_run.specs.declared.ready.Ready.{Ready}
use Rattle.rp_session.specs.Loads.{HasModule}
use Rattle.rp_session.specs.Played.{Reaches, source_text}
use Rattle.rp_session.specs.declared.session.Session.{Session}
use Rattle.rp_tree.specs.StatementTrees.{Stmts}
use Rattle.rp_tree.specs.StatementViews.{view_tree}
use Rattle.rp_words.specs.Command.{Pair, Run}
use Rattle.rp_world.specs.Worlds.{world_view}

-- the world answers as its declarations say, its module stands beside it, and for each pair of words there are its
-- principals, who answer as they say, and a script, of which each name is held
pub record IsSetUp (r : Run) (x : Ready) : Type 0 where
  pub faithful : IsFaithful x.loaded.world
  pub whole : HasModule x.loaded
  pub ids : map (λ (who : Interacting). who.ids) x.whos.items ≡ map (λ (p : Pair). p.ids) r.pairs
  pub grants : All (AnswersInAll x.loaded.world.decl) x.whos.items
  pub as_many : length x.scripts.items ≡ length r.pairs
  pub held : All (λ (s : Compilation). IsTreeHeld x.loaded.world.names (source_tree s)) x.scripts.items

-- the trees of scripts, by the words of a world's names
abbrev pub programs_in : World → List Compilation → List (Stmts (List ℕ))
programs_in w scripts = map (source_text w.names) scripts

-- the declarations of what there is
abbrev pub declarations_of : Ready → Declarations
declarations_of x = declarations_view x.loaded.world.names x.loaded.world.decl

-- no step refuses a run: its declarations were loaded into a world, and this one has the words of the scripts among its
-- names
pub record IsReadyWith (r : Run) (contents : List ℕ → List ℕ) (x : Ready) : Type 0 where
  pub before : sessions.World
  pub ready : IsReady r contents (declarations_of x) (view_tree x.loaded.module) before
      (programs_in x.loaded.world x.scripts.items)
  pub seen : world_view x.loaded.world ≡ read_into (scripts_of r contents) before

-- what scripts come to over what there is
abbrev pub ToldReady : Run → Ready → List ℕ → ℕ → Type 0
ToldReady r x text status =
    ToldPlayed r (view_tree x.loaded.module) (world_view x.loaded.world) (programs_in x.loaded.world x.scripts.items)
    text status

-- the world to which its sessions come
abbrev pub ReachesReady : Run → Ready → sessions.World → Type 0
ReachesReady r x last =
    Reaches (world_view x.loaded.world) (view_tree x.loaded.module) (programs_in x.loaded.world x.scripts.items)
    (map (λ (p : Pair). p.ids) r.pairs) r.turns r.steps last

-- what the only script of the large input of a size comes to over what there is
abbrev pub ToldReadyUsed : Run → ℕ → Ready → List ℕ → ℕ → Type 0
ToldReadyUsed r n x text status =
    ToldUsed r n (view_tree x.loaded.module) (world_view x.loaded.world) (programs_in x.loaded.world x.scripts.items)
    text status

-- the sessions of a run over what there is, and what is told of them behind a front
abbrev pub PlayedReady : Run → Ready → (sessions.World → List ℕ) → List ℕ → ℕ → List Session → Type 0
PlayedReady r x front text status played =
    IsPlayed r (view_tree x.loaded.module) (world_view x.loaded.world) (programs_in x.loaded.world x.scripts.items)
    front text status played
