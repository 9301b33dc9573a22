-- A run whose trail allows nothing leaves the trusted objects as the module left them.
use Rattle.std.proofs.Common.{◌≡◌, ◌∙◌, refl, ap, subst, ℕ, List, [], ◌∷◌, map, Option, Some}
use Rattle.rp_access.specs.Natives.{natives}
use Rattle.rp_base.specs.declared.native.NativeId.TheVariants as native
use Rattle.rp_base.specs.declared.word.TheConstants.{LEN}
use Rattle.rp_decl.specs.Records.{Declarations}
use Rattle.rp_fixed_laws.specs.Fixed.{AreBuiltIn, IsQuietRun}
use Rattle.rp_session.specs.Played.{with_new_sessions}
use Rattle.rp_session.specs.Runs.{run_of}
use Rattle.rp_session.specs.declared.session.Session.{Session}
use Rattle.rp_fixed_laws.proofs.Monitors.{monitors}
use Rattle.rp_meaning.specs.Frame.{Run as Frame}
use Rattle.rp_meaning.specs.Load.{with_new_session}
use Rattle.rp_meaning.specs.Sessions.{World, run_all}
use Rattle.rp_order_laws.specs.Worlds.{IsOrderlyWorld, with_sessions}
use Rattle.rp_order_laws.proofs.Loading.{worlds_are_loaded_orderly}
use Rattle.rp_order_laws.proofs.Runs.{unallowed_runs_leave}
use Rattle.rp_run.specs.Played as playing
use Rattle.rp_run.specs.Played.{IsPlayed, PlayedBy, PlayedRun, no_front}
use Rattle.rp_run.specs.Told.{IsReady, module_names, read_into, scripts_of}
use Rattle.rp_run_laws.proofs.Determined.{ready-as, refused-or-ready}
use Rattle.rp_run_laws.specs.Unallowed.{EachPlayedRunLeavesTheModule, EachRunLeavesTheModule, LeavesUnallowed}
use Rattle.rp_tree.specs.Statements as stmt_tree
use Rattle.rp_tree.specs.StatementTrees.{Stmts}
use Rattle.rp_words.specs.Command.{Command, Pair, Run}

-- the built-in functions and methods of a run are those of the language, and `len` is decided as `__len__`
pub built_in : AreBuiltIn natives
unfolding natives
built_in = record {
  functions = λ names side id vs s. refl;
  methods = λ names side v id vs s. refl;
  lines = λ names vs s. refl;
}

lengths : natives.needs native.Len 0 1 ≡ Some LEN
unfolding natives
lengths = refl

-- sessions are added in one way
added : (of : Frame) (whos : List (List (List ℕ))) (steps : ℕ) (w : World)
    → with_sessions of whos steps w ≡ with_new_sessions of whos steps w
added of [] steps w = refl
added of (who ∷ whos) steps w = added of whos steps (with_new_session of who steps w)

pub each_run-leaves_the_module : EachRunLeavesTheModule
each_run-leaves_the_module r contents d body w trees ready last reaches =
    let v : World = read_into (scripts_of r contents) w in
    let loading : Frame = run_of (module_names d) d body [] in
    let its_run : Frame = run_of v.names v.declarations body reaches.scripts in
    let whos : List (List (List ℕ)) = map (λ (p : Pair). p.ids) r.pairs in
    let quiet : IsQuietRun loading = record { decides = (monitors loading).0; natives = built_in } in
    let loaded : IsOrderlyWorld w =
    worlds_are_loaded_orderly loading quiet (module_names d) d r.cells w ready.admitted.loaded.comes in
    let first : IsOrderlyWorld v =
    record { objects = loaded.objects; classes = loaded.classes; sessions = loaded.sessions } in
    let comes : run_all its_run r.turns (with_sessions its_run whos r.steps v) ≡ last =
    ap (λ (u : World). run_all its_run r.turns u) (added its_run whos r.steps v) ∙ reaches.comes in
    subst (λ (u : World). LeavesUnallowed w u) comes
    (unallowed_runs_leave its_run built_in lengths whos r.steps r.turns v first)

-- what is played of a run that no step refuses
of_ready : (r : Run) (of : List ℕ → List ℕ) (text : List ℕ) (status : ℕ) (sessions : List Session) (d : Declarations)
    (body : stmt_tree.Stmts) (w : World) (trees : List (Stmts (List ℕ))) → IsReady r of d body w trees
    → PlayedRun r of no_front text status sessions
    → IsPlayed r body (read_into (scripts_of r of) w) trees no_front text status sessions
of_ready r of text status sessions d body w trees ready (playing.PlayedRun.refused x none) =
    absurd (refused-or-ready r of text status d body w trees x ready)
of_ready r of text status sessions d body w trees ready (playing.PlayedRun.played e others v us y its) =
    ready-as r of (λ b u ts. IsPlayed r b (read_into (scripts_of r of) u) ts no_front text status sessions) e d others
    body v w us trees y ready its

pub each_played_run-leaves_the_module : EachPlayedRunLeavesTheModule
each_played_run-leaves_the_module words contents text status sessions played r is d body w trees ready =
    let its : IsPlayed r body (read_into (scripts_of r contents) w) trees no_front text status sessions =
    of_ready r contents text status sessions d body w trees ready
    (subst (λ (o : Option Command). PlayedBy o contents text status sessions) is played) in
    (its, each_run-leaves_the_module r contents d body w trees ready its.last its.reaches)
