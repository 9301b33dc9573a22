-- The test of identifiers in their form tells which words they are.
use Rattle.std.proofs.Common.{◌≡◌, ◌↔◌, refl, sym, ap, chars, ℕ, Bool, true, false, IsTrue, List, ◌&&◌, Some, None, if◌then◌else◌, nat_le, length, encode_utf8_all}
use Rattle.std.specs.Cmp.Lexicographic.{bytes_decides}
use Rattle.std.specs.Str.{IsUtf8}
use Rattle.std.proofs.lemmas.Str.{encodes-chars}
use Rattle.unicode_normalization.specs.Forms.{nfkc, Nfkc, is_in_form}
use Rattle.rp_base.specs.Identifier.{IsIdentifier, is_identifier, is_identifier_word, longest_name}

both : (a b : Bool) → (a && b) ≡ true → (a ≡ true) × (b ≡ true)
both true true e = (refl, refl)
both true false e = cc
both false b e = cc

found : (t : Bool) (form word : List ℕ) → (if t then Some form else None) ≡ Some word → (t ≡ true) × (form ≡ word)
found true form word e = (refl, cc)
found false form word e = cc

pub IsIdentifier-spelled : (word : List ℕ) → is_identifier_word word ≡ true → IsIdentifier word
IsIdentifier-spelled word e =
    let outer = both (is_identifier word && nat_le (length (encode_utf8_all word)) longest_name) (is_in_form Nfkc word) e in
    let inner = both (is_identifier word) (nat_le (length (encode_utf8_all word)) longest_name) outer.0 in
    let form : nfkc word ≡ word = (bytes_decides (nfkc word) word).0 outer.1 in
    rw (form, inner.0, inner.1) refl

spelled-IsIdentifier : (word : List ℕ) → IsIdentifier word → is_identifier_word word ≡ true
spelled-IsIdentifier word e =
    let some = found ((is_identifier word && is_identifier (nfkc word)) && nat_le (length (encode_utf8_all (nfkc word))) longest_name) (nfkc word) word e in
    let outer = both (is_identifier word && is_identifier (nfkc word)) (nat_le (length (encode_utf8_all (nfkc word))) longest_name) some.0 in
    let first : is_identifier word ≡ true = (both (is_identifier word) (is_identifier (nfkc word)) outer.0).0 in
    let form : is_in_form Nfkc word ≡ true = (bytes_decides (nfkc word) word).1 some.1 in
    let short : nat_le (length (encode_utf8_all word)) longest_name ≡ true = rw some.1 at outer.1 in
    rw (first, short, form) refl

-- the test tells whether a word is an identifier in its form
pub is_identifier_word-decides : (b : Bool) (word : List ℕ) → b ≡ is_identifier_word word → IsTrue b ↔ IsIdentifier word
is_identifier_word-decides b word e = (λ t. IsIdentifier-spelled word (rw e at t), λ is. rw e (spelled-IsIdentifier word is))

-- the test, by the bytes of the word
pub is_identifier_word-chars : (bytes : List ℕ) → IsUtf8 bytes → is_identifier_word (chars bytes) ≡ ((is_identifier (chars bytes) && nat_le (length bytes) longest_name) && is_in_form Nfkc (chars bytes))
is_identifier_word-chars bytes text = ap (λ b. (is_identifier (chars bytes) && nat_le (length b) longest_name) && is_in_form Nfkc (chars bytes)) (encodes-chars bytes text)

-- a test that tells whether a word is in its form
pub is_in_form-decided : (b : Bool) (word : List ℕ) → IsTrue b ↔ (nfkc word ≡ word) → b ≡ is_in_form Nfkc word
is_in_form-decided true word e = sym ((bytes_decides (nfkc word) word).1 (e.0 refl))
is_in_form-decided false word e = by (is_in_form Nfkc word) refl
  where
    by : (b : Bool) → is_in_form Nfkc word ≡ b → false ≡ b
    by false h = refl
    by true h = e.1 ((bytes_decides (nfkc word) word).0 h)
