use Rattle.std.proofs.lemmas.Result.{err_from_is_err_and}
use Rattle.std.proofs.Common.{ap, Err}
use Rattle.rp_run.proofs.PlayedSteps.{run_played, run_refused}
use Rattle.rp_run.proofs.RunSteps.{played_so, refused_told}
use Rattle.rp_run.proofs.Sayings.{stop_of}
use Rattle.rp_words.specs.View.{run_view}
use Rattle.rp_run.proofs.playing.answer_run.Goals as goal

pub returns-in_err-ready-clause-told : goal.returns-in_err-ready-clause-told
returns-in_err-ready-clause-told g c =
    let p = err_from_is_err_and c.from_residual.result c.from_residual.ensures.1 in
    rw (p.1, p.2) (refused_told (run_view c.args.command.now) _ _ c.in_err-ready.ensures.refused)

pub returns-in_err-ready-clause-played : goal.returns-in_err-ready-clause-played
returns-in_err-ready-clause-played g c =
    let p = err_from_is_err_and c.from_residual.result c.from_residual.ensures.1 in
    rw (p.1, p.2) (run_refused (run_view c.args.command.now) _ _ _ c.requires.none c.in_err-ready.ensures.refused)

pub returns-in_err-ready-clause-status : goal.returns-in_err-ready-clause-status
returns-in_err-ready-clause-status g c =
    let p = err_from_is_err_and c.from_residual.result c.from_residual.ensures.1 in
    rw (p.1, p.2) c.in_err-ready.ensures.status

pub returns-in_err-ready-clause-sound : goal.returns-in_err-ready-clause-sound
returns-in_err-ready-clause-sound g c =
    let p = err_from_is_err_and c.from_residual.result c.from_residual.ensures.1 in
    rw (p.1, p.2) c.in_err-ready.ensures.kept

pub returns-in_err-ready-clause-cause : goal.returns-in_err-ready-clause-cause
returns-in_err-ready-clause-cause g c = λ failed.
    let p = err_from_is_err_and c.from_residual.result c.from_residual.ensures.1 in
    c.in_err-ready.ensures.cause (ap Err (ap stop_of (rw (p.1, p.2) at failed)))

pub returns-clause-told : goal.returns-clause-told
returns-clause-told g c =
    played_so (run_view c.args.command.now) c.in_ok-ready.ready _ _ _ c.in_ok-ready.ensures.ready
    c.in_ok-run_scripts.ensures.told

pub returns-clause-played : goal.returns-clause-played
returns-clause-played g c =
    run_played (run_view c.args.command.now) c.in_ok-ready.ready _ _ _ _ c.in_ok-ready.ensures.ready
    c.in_ok-run_scripts.ensures.played
