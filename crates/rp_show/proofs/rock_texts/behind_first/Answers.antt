use Rattle.std.proofs.Common.{◌∙◌, sym}
use Rattle.rp_base.proofs.CallerLemmas.{chars-behind, chars-none}
use Rattle.rp_show.proofs.rock_texts.behind_first.Goals as goal

pub returns-in-Some : goal.returns-in-Some
returns-in-Some c = rw c.as_str.ensures (chars-behind _ _ _ c.utf8.text (sym c.chars-letters.ensures.rest ∙ c.in-Some.ensures.steps.0))

pub returns-in-None : goal.returns-in-None
returns-in-None c = chars-none _ (rw c.chars-letters.ensures.rest at c.in-None.ensures.steps.0.0)
