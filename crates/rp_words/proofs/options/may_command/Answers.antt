use Rattle.std.proofs.Common.{◌≡◌, ◌∷◌, [], ◌∙◌, ap₂, codes}
use Rattle.std.proofs.lemmas.Result.{IfOk-weaker}
use Rattle.clap.specs.Words.{app_of, with_rule}
use Rattle.rp_words.specs.Options.{command_with, positional}
use Rattle.rp_words.proofs.options.may_command.Goals as goal

pub returns : goal.returns
returns c =
    let on_1 : app_of c.in_ok-arg.field-0 ≡ command_with (codes "may") (positional (codes "declarations") ∷ []) =
    c.in_ok-arg.ensures.shape c.positional.ensures.local
    ∙ ap₂ with_rule c.bare_command.ensures c.positional.ensures.rule in
    let on_2 : app_of c.in_ok-arg-2.field-0
    ≡ command_with (codes "may") (positional (codes "declarations") ∷ positional (codes "who") ∷ []) =
    c.in_ok-arg-2.ensures.shape c.positional-2.ensures.local ∙ ap₂ with_rule on_1 c.positional-2.ensures.rule in
    IfOk-weaker c.arg-3.result _ _
    (λ command adds. adds.shape c.positional-3.ensures.local ∙ ap₂ with_rule on_2 c.positional-3.ensures.rule)
    c.arg-3.ensures
