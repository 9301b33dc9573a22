-- How the names go with the tokens that are written.
use Rattle.std.specs.Prelude.{◌≡◌, ℕ, List, ◌++◌}
use Rattle.rp_base.specs.Names.{with_words}
use Rattle.rp_token.specs.NameWords.{name_words}
use Rattle.rp_token.specs.declared.token.Token.{Token}
use Rattle.rp_more.specs.LiteralSteps.{items_of}

-- names that were some names with the words of the tokens before are these with the words of the tokens after
abbrev pub Follow : List (List ℕ) → List (List ℕ) → List Token → List Token → Type 0
Follow old new before after =
    (start more : List (List ℕ)) → old ≡ with_words start (name_words (items_of (new ++ more) before))
    → new ≡ with_words start (name_words (items_of (new ++ more) after))
