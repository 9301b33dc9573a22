-- The words of the names among tokens, in order.
use Rattle.std.specs.Prelude.{ℕ, List, [], ◌∷◌, flat_map, Result, Ok, Err}
use Rattle.rp_token.specs.Form.{Form, name, Item}
use Rattle.rp_token.specs.Tokens.{tokens_of}

-- the word of a token, if it is a name
abbrev pub word_in : Form → List (List ℕ)
word_in (name word) = word ∷ []
word_in form = []

abbrev pub name_words : List Item → List (List ℕ)
name_words items = flat_map (λ (t : Item). word_in t.form) items

-- none where there are no tokens
abbrev pub words_of : {E : Type 0} → Result (List Item) E → List (List ℕ)
words_of (Ok items) = name_words items
words_of (Err f) = []

-- the words of a text
abbrev pub text_words : List ℕ → List (List ℕ)
text_words text = words_of (tokens_of text)
