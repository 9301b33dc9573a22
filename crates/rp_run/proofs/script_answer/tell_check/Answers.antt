use Rattle.std.proofs.Common.{[], refl}
use Rattle.rp_base.proofs.CallerLemmas.{chars-ascii}
use Rattle.rp_run.proofs.Asked.{tells_accepted, tells_unaccepted}
use Rattle.rp_run.specs.Told.{said_to}
use Rattle.rp_words.specs.declared.command.Question.TheVariants.{Check}
use Rattle.rp_run.proofs.script_answer.tell_check.Goals as goal

pub returns-in-Ok-clause-told : goal.returns-in-Ok-clause-told
returns-in-Ok-clause-told c =
    let is = c.in-Ok.ensures.lawful in
    tells_accepted (said_to Check) c.args.bytes.now is.tree c.fixed.result c.fixed.ensures is.program is.none

pub returns-in-Err-clause-told : goal.returns-in-Err-clause-told
returns-in-Err-clause-told c =
    tells_unaccepted (said_to Check) c.args.bytes.now c.check_script.new.names c.in-Err.refusal c.unaccepted.result
    c.in-Err.ensures.refused
    (rw (chars-ascii [] refl) at c.unaccepted.ensures.said) c.unaccepted.ensures.other
