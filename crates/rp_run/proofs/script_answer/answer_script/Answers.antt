use Rattle.std.proofs.lemmas.Result.{err_from_is_err_and}
use Rattle.rp_run.proofs.Sayings.{long_status}
use Rattle.rp_run.proofs.Asked.{long_script, tells_whole}
use Rattle.rp_run.specs.Told.{said_to}
use Rattle.rp_run.proofs.script_answer.answer_script.Goals as goal

pub returns-in_err-bytes-clause-told : goal.returns-in_err-bytes-clause-told
returns-in_err-bytes-clause-told g c =
    let p = err_from_is_err_and c.from_residual-in_err-bytes.result c.from_residual-in_err-bytes.ensures.1 in
    rw (p.1, p.2) (long_script (said_to c.args.question) c.args.path.now _ _ c.in_err-bytes.ensures.refused)

pub returns-in_err-bytes-clause-status : goal.returns-in_err-bytes-clause-status
returns-in_err-bytes-clause-status g c =
    let p = err_from_is_err_and c.from_residual-in_err-bytes.result c.from_residual-in_err-bytes.ensures.1 in
    rw (p.1, p.2) (long_status _ _ _ c.in_err-bytes.ensures.refused)

pub returns-clause-told : goal.returns-clause-told
returns-clause-told g c =
    tells_whole (said_to c.args.question) c.args.path.now c.in_ok-bytes.bytes.items _ _ _ c.in_ok-bytes.ensures.told
    (rw c.as_slice.ensures.value at c.in_ok-tell.ensures.told)

pub returns-in_err-bytes-clause-sound : goal.returns-in_err-bytes-clause-sound
returns-in_err-bytes-clause-sound g c =
    let p = err_from_is_err_and c.from_residual-in_err-bytes.result c.from_residual-in_err-bytes.ensures.1 in
    rw (p.1, p.2) c.in_err-bytes.ensures.kept
