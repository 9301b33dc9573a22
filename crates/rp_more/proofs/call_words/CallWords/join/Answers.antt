use Rattle.std.specs.Str.{chars}
use Rattle.rp_more.proofs.Words.{identifier-join}
use Rattle.rp_more.proofs.call_words.CallWords.join.Goals as goal

pub intern_once-requires : goal.intern_once-requires
unfolding chars
intern_once-requires c = identifier-join

pub returns-clause-name : goal.returns-clause-name
unfolding chars
returns-clause-name c = c.intern_once.ensures.name

pub returns-clause-word : goal.returns-clause-word
unfolding chars
returns-clause-word c = c.intern_once.ensures.word
