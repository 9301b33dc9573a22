-- The words that a program adds to the names, in order.
use Rattle.std.specs.Prelude.{ℕ, List, [], ◌++◌, chars, Result, Ok, Err}
use Rattle.rp_more.specs.Expanded.{expanded}
use Rattle.rp_token.specs.Form.{Item}
use Rattle.rp_token.specs.NameWords.{name_words, words_of}
use Rattle.rp_token.specs.Tokens.{tokens_of}
use Rattle.rp_token.specs.declared.fault.TokenFault.{TokenFault}

-- the words of the tokens, and then those of the tokens that they are expanded to
abbrev pub item_words : Result (List Item) TokenFault → List (List ℕ)
item_words (Ok given) = name_words given ++ words_of (expanded given)
item_words (Err f) = []

abbrev pub program_words : List ℕ → List (List ℕ)
program_words bytes = item_words (tokens_of (chars bytes))
