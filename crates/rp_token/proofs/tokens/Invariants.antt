use Rattle.std.proofs.Common.{◌≡◌, ◌++◌, ℕ, List, chars, length}
use Rattle.rp_base.specs.Names.{GrowsTo, with_words}
use Rattle.rp_token.specs.Lexer.{state}
use Rattle.rp_token.specs.NameWords.{name_words}
use Rattle.rp_token.specs.Tokens.{tokens_from, tokens_of}
use Rattle.rp_token.proofs.tokens.Given as goal

-- the tokens so far and those to come are the tokens of the text, whatever names there are more
abbrev pub invariant-steps : goal.invariant-steps
invariant-steps l =
    record {
      grown : GrowsTo l.fn.names l.names;
      same : (more : List (List ℕ)) → tokens_from 0 (state (l.names ++ more) l.lexer) (chars l.lexer.rest.now) ≡ tokens_of (chars l.text);
      words : (more : List (List ℕ)) → l.names ≡ with_words l.fn.names (name_words (state (l.names ++ more) l.lexer).items);
    }

abbrev pub decreases-steps : goal.decreases-steps
decreases-steps l = length (chars l.lexer.rest.now)
