-- What callers know of texts, of the words that the program holds, and of the test of identifiers; and of lists and options, beside the
-- lemmas of the library.
pub use Rattle.rp_base.proofs.Lists.{AllByRecursion-at, IfSome-slice_get, drop_here, is_none-None, is_some-copied, is_some-option_map}
pub use Rattle.rp_base.proofs.Lists.{length-front, map-through, nil-front, nil-rest, range-last, same_truth}
pub use Rattle.rp_base.proofs.Spelling.{IsIdentifier-spelled}
pub use Rattle.rp_base.proofs.Texts.{IsAscii-tested, bytes_from_view, chars-ascii, chars-behind, chars-none, is_keyword-chars, no-chars}
pub use Rattle.rp_base.proofs.Texts.{pointwise-chars, some_chars}
pub use Rattle.rp_base.proofs.Words.{is_held-at, same_text-bytes, same_text-equal, same_text-refl}
pub use Rattle.rp_base.proofs.Words.{with_word-held, with_words-append, with_words-then}
