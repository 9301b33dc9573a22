use Rattle.std.proofs.Common.{◌∙◌, ap, reverse}
use Rattle.rp_token.specs.Characters.{behind_run, is_blank}
use Rattle.rp_more.proofs.letters.trimmed.Goals as goal

pub returns : goal.returns
returns c = c.without_last_blanks.ensures ∙ ap (λ cs. reverse (behind_run is_blank (reverse cs))) c.split.ensures.rest
