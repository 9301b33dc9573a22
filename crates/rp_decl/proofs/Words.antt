-- Ids, keywords and names, by their bytes and by their characters.
use Rattle.std.proofs.Common.{◌≡◌, ℕ, ◌<◌, Bool, true, false, not, ◌&&◌, ◌||◌, List, [], ◌∷◌, length, nat_lt, nat_le, chars, encode_utf8_all, IsUtf8, Option, Some, None, if◌then◌else◌, arith, refl, sym, ap, ◌∙◌}
use Rattle.std.specs.Cmp.Lexicographic.{bytes_decides}
use Rattle.std.specs.List.{list_all}
use Rattle.std.specs.Str.{IsAscii}
use Rattle.std.proofs.lemmas.Bool.{and_parts, and_right, true≢false}
use Rattle.std.proofs.lemmas.Bool.Decides.{nat_tests}
use Rattle.std.proofs.lemmas.Str.{chars-IsAscii, encodes-IsAscii, encodes-chars}
use Rattle.std.proofs.lemmas.Str.Ascii.{IsAscii-nil, IsAscii-cons}
use Rattle.unicode_normalization.specs.Forms.{nfkc, Nfkc, is_in_form}
use Rattle.rp_base.proofs.CallerLemmas.{is_keyword-chars, pointwise-chars, same_text-equal, same_text-refl}
use Rattle.rp_base.specs.Identifier.{IsIdentifier, identifier_of, is_identifier, is_identifier_word, longest_name}
use Rattle.rp_base.specs.Keyword.{is_keyword}
use Rattle.rp_base.specs.Same.{same_text}
use Rattle.rp_decl.specs.Word.{is_id, is_id_character, is_form_of, is_declared_name, is_word_of}

pub IsAscii-from_test : (test : ℕ → Bool) → ((c : ℕ) → test c ≡ true → c < 128) → (word : List ℕ) → list_all test word ≡ true → IsAscii word
IsAscii-from_test test below [] h = IsAscii-nil
IsAscii-from_test test below (c ∷ cs) h =
    let (here, more) = and_parts (test c) (list_all test cs) h in
    IsAscii-cons c cs (below c here) (IsAscii-from_test test below cs more)

id_character_below : (c : ℕ) → is_id_character c ≡ true → c < 128
id_character_below c h = grind (arith, nat_tests)

pub IsAscii-id_characters : (word : List ℕ) → list_all is_id_character word ≡ true → IsAscii word
IsAscii-id_characters = IsAscii-from_test is_id_character id_character_below

-- bytes of which the characters are ASCII are these characters
ascii_chars : (word : List ℕ) → IsUtf8 word → IsAscii (chars word) → word ≡ chars word
ascii_chars word text h = sym (encodes-chars word text) ∙ encodes-IsAscii (chars word) h

is_id-by : (bytes letters : Bool) (word : List ℕ) → IsUtf8 word → list_all is_id_character word ≡ bytes → list_all is_id_character (chars word) ≡ letters → is_id word ≡ is_id (chars word)
is_id-by true letters word text h g = ap is_id (sym (chars-IsAscii word (IsAscii-id_characters word h)))
is_id-by false true word text h g = ap is_id (ascii_chars word text (IsAscii-id_characters (chars word) g))
is_id-by false false word text h g = and_right _ _ h ∙ sym (and_right _ _ g)

-- an id is ASCII, so that it may be told by its bytes
pub is_id-chars : (word : List ℕ) → IsUtf8 word → is_id word ≡ is_id (chars word)
is_id-chars word text = is_id-by (list_all is_id_character word) (list_all is_id_character (chars word)) word text refl refl

abbrev pub is_ascii : List ℕ → Bool
is_ascii = list_all (λ c. nat_lt c 128)

pub IsAscii-is_ascii : (word : List ℕ) → is_ascii word ≡ true → IsAscii word
IsAscii-is_ascii = IsAscii-from_test (λ c. nat_lt c 128) (λ c h. grind (arith, nat_tests))

pub is_word_of-chars : (ks : List (List ℕ)) (word : List ℕ) → list_all is_ascii ks ≡ true → IsUtf8 word → is_word_of ks word ≡ is_word_of ks (chars word)
is_word_of-chars [] word h text = refl
is_word_of-chars (k ∷ ks) word h text =
    let (here, more) = and_parts (is_ascii k) (list_all is_ascii ks) h in
    λ i. pointwise-chars k word (IsAscii-is_ascii k here) text i || is_word_of-chars ks word more text i

form-by : (same : Bool) (word : List ℕ) → is_in_form Nfkc word ≡ same
    → is_form_of word (identifier_of word) ≡ ((is_identifier word && nat_le (length (encode_utf8_all word)) longest_name) && same)
form-by true word h =
    let form : nfkc word ≡ word = (bytes_decides (nfkc word) word).0 h in
    rw form (by (is_identifier word) (nat_le (length (encode_utf8_all word)) 255))
  where
    by : (good short : Bool) → is_form_of word (if (good && good) && short then Some word else None) ≡ ((good && short) && true)
    by true true = same_text-refl word
    by true false = refl
    by false short = refl
form-by false word h =
    by ((is_identifier word && is_identifier (nfkc word)) && nat_le (length (encode_utf8_all (nfkc word))) 255) (same_text (nfkc word) word) refl
    ∙ sym (and_right _ _ refl)
  where
    by : (found same : Bool) → same_text (nfkc word) word ≡ same → is_form_of word (if found then Some (nfkc word) else None) ≡ false
    by false same e = refl
    by true false e = e
    by true true e = absurd (true≢false (sym ((bytes_decides (nfkc word) word).1 (same_text-equal _ _ e)) ∙ h))

-- a word is its own form where it is a short identifier in the form
pub is_form_of-is : (word : List ℕ) → is_form_of word (identifier_of word) ≡ is_identifier_word word
is_form_of-is word = form-by (is_in_form Nfkc word) word refl

pub is_declared_name-is : (word : List ℕ) → IsUtf8 word → is_declared_name (chars word) ≡ (is_identifier_word (chars word) && not (is_keyword word))
is_declared_name-is word text = rw (is_form_of-is (chars word), is_keyword-chars word text) refl

-- a declared name is an identifier in its form
pub IsIdentifier-is_declared_name : (word : List ℕ) → is_declared_name word ≡ true → IsIdentifier word
IsIdentifier-is_declared_name word h = by (identifier_of word) (and_parts (is_form_of word (identifier_of word)) (not (is_keyword word)) h).0
  where
    by : (o : Option (List ℕ)) → is_form_of word o ≡ true → o ≡ Some word
    by None e = cc
    by (Some form) e = ap Some (same_text-equal form word e)
