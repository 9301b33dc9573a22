use Rattle.std.proofs.Common.{◌∙◌}
use Rattle.std.specs.Str.{chars}
use Rattle.rp_base.proofs.FirstWords.{fold-first_words, identifiers-first_words}
use Rattle.rp_base.proofs.names.Names.new.Goals as goal

pub intern_all-requires : goal.intern_all-requires
unfolding chars
intern_all-requires c = identifiers-first_words

pub returns : goal.returns
unfolding chars
returns c = c.in_ok-intern_all.ensures ∙ rw c.with_hasher.ensures.empty fold-first_words
