-- The word that the reader of tokens adds to the names in one step.
use Rattle.std.specs.Prelude.{ℕ, List, [], if◌then◌else◌, take_while, Option}
use Rattle.std.specs.Option.{option_map_or}
use Rattle.unicode_ident.specs.Ident.{is_xid_continue}
use Rattle.rp_base.specs.Identifier.{is_start}
use Rattle.rp_token.specs.Characters.{first}
use Rattle.rp_token.specs.Form.{Form}
use Rattle.rp_token.specs.NameWords.{word_in}
use Rattle.rp_token.specs.Tokens.{word_form}

abbrev pub form_words : Option Form → List (List ℕ)
form_words form = option_map_or word_in form []

-- that of the name at the front
unfoldable pub front_words : List ℕ → List (List ℕ)
front_words cs = if is_start (first cs) then form_words (word_form (take_while is_xid_continue cs)) else []
