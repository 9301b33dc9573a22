-- The words of operations are identifiers in their form, and they differ.
use Rattle.std.proofs.Common.{◌≡◌, refl, true, [], fold}
use lib.Utf8.{encode}
use Rattle.std.specs.List.{All, list_all}
use Rattle.std.proofs.lemmas.List.Sums.{AllPass-from_list_all}
use Rattle.unicode_ident.proofs.Computing.{unicode_ident}
use Rattle.unicode_normalization.proofs.Computing.{unicode_normalization}
use Rattle.rp_base.specs.Identifier.{IsIdentifier, is_identifier_word}
use Rattle.rp_base.specs.Names.{first_words, with_word}
use Rattle.rp_base.proofs.Spelling.{IsIdentifier-spelled}

-- none of the words is held when its turn comes
pub fold-first_words : fold with_word [] first_words ≡ first_words
unfolding encode
fold-first_words = refl

list_all-first_words : list_all is_identifier_word first_words ≡ true
unfolding encode unicode_ident unicode_normalization
list_all-first_words = refl

pub identifiers-first_words : All IsIdentifier first_words
identifiers-first_words k d within = IsIdentifier-spelled _ (AllPass-from_list_all is_identifier_word first_words list_all-first_words k d within)
