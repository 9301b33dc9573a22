use Rattle.std.proofs.Common.{codes, refl, ◌∙◌}
use Rattle.rp_policy.specs.Forbidden.{is_initializer}
use Rattle.rp_base.proofs.CallerLemmas.{IsAscii-tested}
use Rattle.rp_policy.proofs.Spelled.{same_text-chars}
use Rattle.rp_policy.proofs.forbidden_words.is_initializer.Goals as goal

pub returns : goal.returns
unfolding is_initializer
returns c = c.eq.ensures ∙ same_text-chars c.args.word.now (codes "__init__") c.utf8.word (IsAscii-tested (codes "__init__") refl)
