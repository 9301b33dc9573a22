use Rattle.std.proofs.Common.{◌++◌, ap, ◌∙◌, chars}
use Rattle.rp_base.specs.Names.{word_of}
use Rattle.rp_policy.specs.Offences.{offence_named, offence_text}
use Rattle.rp_script.proofs.Lines.{line_added}
use Rattle.rp_script.proofs.refusal.add_offence.Goals as goal

pub returns : goal.returns
returns c =
    line_added c.add-3.result c.add-3.new.self c.add-2.new.self c.add.new.self c.args.text.now (chars c.args.prefix.now)
    (offence_text (offence_named (word_of c.args.names.now) c.args.offence.now)) c.in_ok-add.ensures.added
    (c.in_ok-add-2.ensures.added ∙ ap (λ xs. c.add.new.self ++ xs) (ap chars c.as_str.ensures.value ∙ c.in_ok-words.ensures)) c.add-3.ensures.added
