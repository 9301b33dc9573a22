use Rattle.std.proofs.Common.{◌≡◌, ◌∷◌, [], ◌∙◌, ap₂, codes}
use Rattle.std.proofs.lemmas.Result.{IfOk-weaker}
use Rattle.clap.specs.Words.{app_of, with_rule}
use Rattle.rp_words.specs.Options.{command_with, last_words, option, positional}
use Rattle.rp_words.proofs.options.run_command.Goals as goal

pub returns : goal.returns
returns c =
    let on_1 : app_of c.in_ok-arg.field-0 ≡ command_with (codes "run") (positional (codes "declarations") ∷ []) =
    c.in_ok-arg.ensures.shape c.positional.ensures.local
    ∙ ap₂ with_rule c.bare_command.ensures c.positional.ensures.rule in
    let on_2 : app_of c.in_ok-arg-2.field-0
    ≡ command_with (codes "run") (positional (codes "declarations") ∷ last_words (codes "pairs") ∷ []) =
    c.in_ok-arg-2.ensures.shape c.last_words.ensures.local ∙ ap₂ with_rule on_1 c.last_words.ensures.rule in
    let on_3 : app_of c.in_ok-arg-3.field-0
    ≡ command_with (codes "run")
    (positional (codes "declarations") ∷ last_words (codes "pairs") ∷ option (codes "steps") ∷ []) =
    c.in_ok-arg-3.ensures.shape c.option.ensures.local ∙ ap₂ with_rule on_2 c.option.ensures.rule in
    let on_4 : app_of c.in_ok-arg-4.field-0
    ≡ command_with (codes "run")
    (positional (codes "declarations") ∷ last_words (codes "pairs") ∷ option (codes "steps")
    ∷ option (codes "cells") ∷ []) =
    c.in_ok-arg-4.ensures.shape c.option-2.ensures.local ∙ ap₂ with_rule on_3 c.option-2.ensures.rule in
    let on_5 : app_of c.in_ok-arg-5.field-0
    ≡ command_with (codes "run")
    (positional (codes "declarations") ∷ last_words (codes "pairs") ∷ option (codes "steps")
    ∷ option (codes "cells") ∷ option (codes "turns") ∷ []) =
    c.in_ok-arg-5.ensures.shape c.option-3.ensures.local ∙ ap₂ with_rule on_4 c.option-3.ensures.rule in
    IfOk-weaker c.arg-6.result _ _
    (λ command adds. adds.shape c.flag.ensures.local ∙ ap₂ with_rule on_5 c.flag.ensures.rule) c.arg-6.ensures
