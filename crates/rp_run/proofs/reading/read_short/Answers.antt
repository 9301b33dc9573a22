use Rattle.std.proofs.lemmas.Result.{err_from_is_err_and}
use Rattle.rp_run.proofs.Sayings.{long_read, refused_never, whole_read}
use Rattle.rp_run.proofs.reading.read_short.Goals as goal

pub returns-in-Whole-clause-told : goal.returns-in-Whole-clause-told
returns-in-Whole-clause-told g c =
    whole_read _ _ c.in-Whole.bytes _ _ c.in-Whole.is c.in_ok-copy.ensures (c.in_ok-bytes.ensures).told

pub returns-in_ok-labelled-in-TooLong-clause-refused : goal.returns-in_ok-labelled-in-TooLong-clause-refused
returns-in_ok-labelled-in-TooLong-clause-refused g c =
    let said = c.in_ok-labelled-in-TooLong.ensures in
    (long_read _ _ _ _ c.in-TooLong.is c.in_ok-copy.ensures (c.in_ok-bytes.ensures).told, said.0, said.1)

pub returns-in_err-bytes-clause-refused : goal.returns-in_err-bytes-clause-refused
returns-in_err-bytes-clause-refused g c =
    let p = err_from_is_err_and c.from_residual-in_err-bytes.result c.from_residual-in_err-bytes.ensures.1 in
    rw (p.1, p.2) (refused_never _ _ c.in_err-bytes.ensures.unrefused)

pub returns-in_err-bytes-clause-kept : goal.returns-in_err-bytes-clause-kept
returns-in_err-bytes-clause-kept g c =
    let p = err_from_is_err_and c.from_residual-in_err-bytes.result c.from_residual-in_err-bytes.ensures.1 in
    rw (p.1, p.2) (refused_never _ _ c.in_err-bytes.ensures.unrefused)
