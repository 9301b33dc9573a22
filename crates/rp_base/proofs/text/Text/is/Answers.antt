use Rattle.std.proofs.Common.{◌∙◌}
use Rattle.rp_base.proofs.Words.{same_text-bytes, same_text-decides}
use Rattle.rp_base.proofs.text.Text.is.Goals as goal

pub returns-clause-value : goal.returns-clause-value
returns-clause-value c = rw (← c.as_str.ensures) (c.eq.ensures ∙ same_text-bytes _ _ c.as_str.utf8 c.utf8.word)

pub returns-clause-same : goal.returns-clause-same
returns-clause-same c = same_text-decides _ _ _ (rw (← c.as_str.ensures) (c.eq.ensures ∙ same_text-bytes _ _ c.as_str.utf8 c.utf8.word))
