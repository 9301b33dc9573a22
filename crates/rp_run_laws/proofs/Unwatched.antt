-- What is told of a run whose log has no refusal is what the scripts come to without a monitor.
use Rattle.std.proofs.Common.{◌≡◌, ◌∙◌, refl, ap, sym, subst, ℕ, List, [], ◌∷◌, map, MatchOption}
use Rattle.std.proofs.Common.{Option}
use Rattle.rp_meaning.specs.Frame.{Run as Frame}
use Rattle.rp_meaning.specs.Load.{with_new_session}
use Rattle.rp_meaning.specs.Sessions.{World, run_all}
use Rattle.rp_meaning.specs.Unmonitored.{AllAllowed, told_of, monitored, unmonitored}
use Rattle.rp_session.specs.Played.{played_from, with_new_sessions}
use Rattle.rp_session.specs.Runs.{run_of}
use Rattle.rp_monitor_laws.proofs.Sessions.{refusing-nothing-leaves-no-trace}
use Rattle.rp_run.specs.Told.{ToldCommand}
use Rattle.rp_run_laws.proofs.Determined.{told-played}
use Rattle.rp_run_laws.specs.Unwatched.{EachUnrefusedPlayIsUnwatched, EachUnrefusedRunIsUnwatched}
use Rattle.rp_trail.specs.Entry.{Entry}
use Rattle.rp_words.specs.Command.{Command, run, usage}

-- sessions begin alike
begun : (of : Frame) (whos : List (List (List ℕ))) (steps : ℕ) (w : World)
    → with_new_sessions (monitored of) whos steps w ≡ with_new_sessions (unmonitored of) whos steps w
begun of [] steps w = refl
begun of (who ∷ whos) steps w = begun of whos steps (with_new_session of who steps w)

played : (of : Frame) (w : World) (whos : List (List (List ℕ))) (listed : List ℕ) (steps : ℕ)
    → AllAllowed (played_from (monitored of) w whos listed steps).log
    → map told_of (played_from (monitored of) w whos listed steps).sessions
    ≡ map told_of (played_from (unmonitored of) w whos listed steps).sessions
played of w whos listed steps a =
    refusing-nothing-leaves-no-trace of listed (with_new_sessions (monitored of) whos steps w) a
    ∙ ap (λ (v : World). map told_of (run_all (unmonitored of) listed v).sessions) (begun of whos steps w)

pub each_unrefused_play-unwatched : EachUnrefusedPlayIsUnwatched
each_unrefused_play-unwatched w body trees whos listed steps told log plays a =
    let of = run_of w.names w.declarations body plays.reaches.scripts in
    let logged = ap (λ (v : World). v.log) plays.reaches.comes ∙ plays.entries in
    record {
      scripts = plays.reaches.scripts;
      numbered = plays.reaches.numbered;
      comes = sym (played of w whos listed steps (subst (λ (l : List Entry). AllAllowed l) (sym logged) a))
          ∙ ap (λ (v : World). map told_of v.sessions) plays.reaches.comes ∙ plays.sessions;
    }

-- what is told to words, or to the command that they give
abbrev Tells : Option Command → (List ℕ → List ℕ) → List ℕ → ℕ → Type 0
Tells o contents text status =
    MatchOption o ((text ≡ usage) × (status ≡ 2)) (λ command. ToldCommand command contents text status)

pub each_unrefused_run-unwatched : EachUnrefusedRunIsUnwatched
each_unrefused_run-unwatched words contents text status told r is d body w trees ready =
    let tells : ToldCommand (run r) contents text status =
    subst (λ (o : Option Command). Tells o contents text status) is told in
    let of_run = told-played r contents text status d body w trees ready tells in
    (of_run, λ a. each_unrefused_play-unwatched _ _ _ _ _ _ _ of_run.log of_run.plays a)
