use Rattle.std.proofs.Common.{◌∙◌, ap, List, Result}
use Rattle.rp_base.specs.Names.{with_words}
use Rattle.rp_token.specs.Form.{Item}
use Rattle.rp_token.specs.NameWords.{words_of}
use Rattle.rp_token.specs.declared.fault.TokenFault.{TokenFault}
use Rattle.rp_more.proofs.expression.tokens_within.Goals as goal

pub returns-else-not-closes_own-clause-words : goal.returns-else-not-closes_own-clause-words
returns-else-not-closes_own-clause-words c =
    c.in-Ok.ensures.words ∙ ap (λ (r : Result (List Item) TokenFault). with_words c.args.names.now (words_of r)) c.in-Ok.ensures.tokens
