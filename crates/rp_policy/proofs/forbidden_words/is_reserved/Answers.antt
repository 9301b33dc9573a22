use Rattle.std.proofs.Common.{[], ◌∷◌, codes, refl, ◌∙◌}
use Rattle.rp_policy.specs.Forbidden.{is_reserved}
use Rattle.rp_policy.proofs.Spelled.{is_among-chars}
use Rattle.rp_policy.proofs.forbidden_words.is_reserved.Goals as goal

pub returns : goal.returns
unfolding is_reserved
returns c = c.contains.ensures.value ∙ is_among-chars (codes "print" ∷ codes "printed" ∷ codes "builtins" ∷ codes "breakpoint" ∷ []) _ refl c.utf8.word
