use Rattle.std.proofs.Common.{◌∙◌, ap, ℕ, List, chars}
use Rattle.rp_base.specs.Same.{same_text}
use Rattle.rp_base.proofs.CallerLemmas.{same_text-bytes}
use Rattle.rp_access.proofs.global_names.is_word_of.Goals as goal

pub returns : goal.returns
returns c =
    c.eq.ensures ∙ same_text-bytes c.args.word.now c.word_of.result.now c.utf8.word c.word_of.utf8
    ∙ ap (λ (text : List ℕ). same_text (chars c.args.word.now) text) c.word_of.ensures
