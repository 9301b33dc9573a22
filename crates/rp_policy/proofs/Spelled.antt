-- Words of ASCII in a text: what its bytes tell of them is what its characters tell.
use Rattle.std.proofs.Common.{◌≡◌, ℕ, ◌-◌, true, ◌||◌, List, [], ◌∷◌, ◌++◌, length, take, drop, chars, encode_utf8_all, nat_eq, refl, sym, ap, ◌∙◌, subst}
use Rattle.std.specs.Char.{is_ascii}
use Rattle.std.specs.Cmp.Lexicographic.{pointwise}
use Rattle.std.specs.List.{list_all, list_any, starts_with, ends_with}
use Rattle.std.specs.Str.{IsAscii, IsUtf8}
use Rattle.std.proofs.Math.Seq.{take-append_seam}
use Rattle.std.proofs.lemmas.Bool.{and_parts}
use Rattle.std.proofs.lemmas.Bool.Decides.{Decides-eqb}
use Rattle.std.proofs.lemmas.Slice.Eq.{starts_is, ends_is}
use Rattle.std.proofs.lemmas.Str.{chars-append, chars-IsAscii, encodes-append, encodes-chars, encodes-IsAscii, IsUtf8-from_ascii, IsUtf8-take, IsCharBoundary-at_seam}
use Rattle.rp_base.proofs.CallerLemmas.{IsAscii-tested, same_truth}
use Rattle.rp_base.specs.Same.{same_text}
use Rattle.rp_policy.specs.Forbidden.{is_among}

pub starts_with-chars : (bs word : List ℕ) → IsUtf8 bs → IsAscii word → starts_with nat_eq bs word ≡ starts_with nat_eq (chars bs) word
starts_with-chars bs word text ascii =
    same_truth _ _
    (λ h.
    let rest = drop (length word) bs in
    let cut : bs ≡ word ++ rest = (starts_is Decides-eqb bs word _ refl).0 h in
    (starts_is Decides-eqb (chars bs) word _ refl).1 (chars rest)
    (ap chars cut ∙ (chars-append word rest (IsUtf8-from_ascii word ascii) ∙ ap (λ w. w ++ chars rest) (chars-IsAscii word ascii))))
    (λ h.
    let rest = drop (length word) (chars bs) in
    let cut : chars bs ≡ word ++ rest = (starts_is Decides-eqb (chars bs) word _ refl).0 h in
    (starts_is Decides-eqb bs word _ refl).1 (encode_utf8_all rest)
    (sym (encodes-chars bs text) ∙ (ap encode_utf8_all cut ∙ (encodes-append word rest ∙ ap (λ w. w ++ encode_utf8_all rest) (encodes-IsAscii word ascii)))))

pub ends_with-chars : (bs word : List ℕ) → IsUtf8 bs → IsAscii word → ends_with nat_eq bs word ≡ ends_with nat_eq (chars bs) word
ends_with-chars bs word text ascii =
    same_truth _ _
    (λ h.
    let front = take (length bs - length word) bs in
    let cut : bs ≡ front ++ word = (ends_is Decides-eqb bs word _ refl).0 h in
    let front_is_text : IsUtf8 front =
    subst IsUtf8 (ap (take (length front)) cut ∙ take-append_seam front word) (IsUtf8-take bs (length front) text (IsCharBoundary-at_seam bs front word cut (IsUtf8-from_ascii word ascii))) in
    (ends_is Decides-eqb (chars bs) word _ refl).1 (chars front)
    (ap chars cut ∙ (chars-append front word front_is_text ∙ ap (λ w. chars front ++ w) (chars-IsAscii word ascii))))
    (λ h.
    let front = take (length (chars bs) - length word) (chars bs) in
    let cut : chars bs ≡ front ++ word = (ends_is Decides-eqb (chars bs) word _ refl).0 h in
    (ends_is Decides-eqb bs word _ refl).1 (encode_utf8_all front)
    (sym (encodes-chars bs text) ∙ (ap encode_utf8_all cut ∙ (encodes-append front word ∙ ap (λ w. encode_utf8_all front ++ w) (encodes-IsAscii word ascii)))))

pub same_text-chars : (bs word : List ℕ) → IsUtf8 bs → IsAscii word → pointwise nat_eq bs word ≡ same_text (chars bs) word
same_text-chars bs word text ascii = rw (encodes-chars bs text, encodes-IsAscii word ascii) refl

same_word-chars : (bs word : List ℕ) → IsUtf8 bs → IsAscii word → pointwise nat_eq word bs ≡ same_text word (chars bs)
same_word-chars bs word text ascii = rw (encodes-chars bs text, encodes-IsAscii word ascii) refl

pub is_among-chars : (words : List (List ℕ)) (bs : List ℕ) → list_all (list_all is_ascii) words ≡ true → IsUtf8 bs → list_any (λ word. pointwise nat_eq word bs) words ≡ is_among words (chars bs)
is_among-chars [] bs h text = refl
is_among-chars (w ∷ ws) bs h text =
    let parts = and_parts (list_all is_ascii w) (list_all (list_all is_ascii) ws) h in
    λ i. same_word-chars bs w text (IsAscii-tested w parts.0) i || is_among-chars ws bs parts.1 text i
