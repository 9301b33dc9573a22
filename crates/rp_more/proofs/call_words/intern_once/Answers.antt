use Rattle.std.proofs.Common.{ap}
use Rattle.rp_token.specs.Form.{name}
use Rattle.rp_token.proofs.Rules.{held_among}
use Rattle.rp_more.proofs.NameWords.{with_word-at}
use Rattle.rp_more.proofs.call_words.intern_once.Goals as goal

pub returns-clause-word : goal.returns-clause-word
returns-clause-word c = with_word-at c.args.names.now c.in-Some.name.0 _ (c.has_word.ensures.0 c.if-has_word.true)

pub returns-2-clause-name : goal.returns-2-clause-name
returns-2-clause-name c = λ more. ap name (held_among c.intern.new.self more c.in_ok-name.name.0 _ c.in_ok-name.ensures.place)
