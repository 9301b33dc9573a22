use Rattle.std.proofs.Common.{◌∙◌, ap₂}
use Rattle.std.proofs.lemmas.Result.{IfOk-weaker}
use Rattle.clap.specs.Words.{with_rule}
use Rattle.rp_words.proofs.options.large_command.Goals as goal

pub returns : goal.returns
returns c =
    IfOk-weaker c.arg.result _ _
    (λ command adds. adds.shape c.positional.ensures.local
    ∙ ap₂ with_rule c.bare_command.ensures c.positional.ensures.rule) c.arg.ensures
