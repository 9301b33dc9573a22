use Rattle.std.proofs.Common.{[], refl, ap, ◌∙◌, chars}
use Rattle.rp_base.proofs.CallerLemmas.{chars-ascii}
use Rattle.rp_run.proofs.Asked.{tells_shown, tells_unaccepted}
use Rattle.rp_run.specs.Told.{said_to}
use Rattle.rp_words.specs.declared.command.Question.TheVariants.{Show}
use Rattle.rp_run.proofs.script_answer.tell_show.Goals as goal

pub returns-in_ok-text-in-Ok-clause-told : goal.returns-in_ok-text-in-Ok-clause-told
returns-in_ok-text-in-Ok-clause-told c =
    tells_shown c.args.bytes.now c.compile_script.new.names c.in-Ok.compiled c.rewritten.result.now c.as_str.result.now
    c.line.result
    c.in-Ok.ensures.program c.in-Ok.ensures.lawful c.rewritten.ensures.kept c.rewritten.ensures.is
    (ap chars c.as_str.ensures.value ∙ c.in_ok-text-in-Ok.ensures.named) c.line.ensures

pub returns-in-Err-clause-told : goal.returns-in-Err-clause-told
returns-in-Err-clause-told c =
    tells_unaccepted (said_to Show) c.args.bytes.now c.compile_script.new.names c.in-Err.refusal c.unaccepted.result
    c.in-Err.ensures.refused
    (rw (chars-ascii [] refl) at c.unaccepted.ensures.said) c.unaccepted.ensures.other
