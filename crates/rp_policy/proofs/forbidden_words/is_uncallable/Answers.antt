use Rattle.std.proofs.Common.{[], ◌∷◌, codes, refl, ◌∙◌}
use Rattle.rp_policy.specs.Forbidden.{is_uncallable}
use Rattle.rp_policy.proofs.Spelled.{is_among-chars}
use Rattle.rp_policy.proofs.forbidden_words.is_uncallable.Goals as goal

pub returns : goal.returns
unfolding is_uncallable
returns c = c.contains.ensures.value ∙ is_among-chars (codes "exec" ∷ codes "eval" ∷ []) _ refl c.utf8.word
