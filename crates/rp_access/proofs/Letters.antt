-- The characters of a text from a byte on, at the bytes at which a character begins and at others.
use Rattle.std.proofs.Common.{◌≡◌, ◌⊎◌, inl, inr, ◌<◌, ◌≤◌, ℕ, true, false, List, [], Option, None, Result, cond, chars, encode_utf8_all, get_or, length, refl, sym, ap, ◌∙◌, arith, subst}
use Rattle.std.specs.Fmt.{is_char_start}
use Rattle.std.specs.Str.{IsCharBoundary, IsUtf8}
use Rattle.std.proofs.lemmas.Bool.{cases_lt, lt-ltb, le-ltb, le-leb, lt-leb}
use Rattle.std.proofs.lemmas.List.{drop_all, get_or_past}
use Rattle.std.proofs.lemmas.Str.{IsCharBoundary-start, chars-nil}
use Rattle.rp_base.specs.declared.value.OpEnd.{OpEnd}
use Rattle.rp_base.specs.declared.value.Value.{Value}
use Rattle.rp_ops.specs.Outcome.{Meets, State, gives}
use Rattle.rp_ops.specs.Standing.{letters_left}
use Rattle.rp_ops.specs.Walk.{characters_from, next_of, with_cursor}
use Rattle.rp_access.specs.Spots.{characters_at}
use Rattle.rp_base.proofs.CallerLemmas.{bytes_from_view}

-- what is known of a byte tells whether it is the first of a character
starts : (b : ℕ) → (128 ≤ b → 192 ≤ b) → is_char_start b ≡ true
starts b h = by (cases_lt b 128) where
  by : (b < 128) ⊎ (128 ≤ b) → is_char_start b ≡ true
  by (inl low) = rw (lt-ltb b 128 low) refl
  by (inr high) = rw (le-ltb b 128 high, le-leb 192 b (h high)) refl

continues : (b : ℕ) → ¬ (128 ≤ b → 192 ≤ b) → is_char_start b ≡ false
continues b h = by (cases_lt b 128) (cases_lt b 192) where
  by : (b < 128) ⊎ (128 ≤ b) → (b < 192) ⊎ (192 ≤ b) → is_char_start b ≡ false
  by (inl low) more = absurd (h (λ high. omega arith))
  by (inr high) (inr top) = absurd (h (λ _. top))
  by (inr high) (inl mid) = rw (le-ltb b 128 high, lt-leb 192 b mid) refl

-- past the end nothing is left
left_past : (t : List ℕ) (i : ℕ) → length (encode_utf8_all t) ≤ i → letters_left t i ≡ []
left_past t i past = ap chars (drop_all i (encode_utf8_all t) past) ∙ chars-nil

module _ (t : List ℕ) (i : ℕ) where
  abbrev bytes : List ℕ
  bytes = encode_utf8_all t

  -- a character begins at the byte, or the text ends there
  pub at_boundary : IsCharBoundary bytes i → characters_at t i ≡ letters_left t i
  at_boundary h = by (cases_lt i (length bytes)) where
    by : (i < length bytes) ⊎ (length bytes ≤ i) → characters_at t i ≡ letters_left t i
    by (inl within) = ap (λ b. cond b (letters_left t i) []) (starts (get_or bytes i 0) (h.1 within))
    by (inr past) = ap (λ b. cond (is_char_start b) (letters_left t i) []) (get_or_past bytes i 0 past)

  pub off_boundary : ¬ (IsCharBoundary bytes i) → characters_at t i ≡ []
  off_boundary h = by (cases_lt i (length bytes)) where
    by : (i < length bytes) ⊎ (length bytes ≤ i) → characters_at t i ≡ []
    by (inl within) = ap (λ b. cond b (letters_left t i) []) (continues (get_or bytes i 0) (λ k. h (omega arith, λ _. k)))
    by (inr past) = ap (λ b. cond (is_char_start b) (letters_left t i) []) (get_or_past bytes i 0 past) ∙ left_past t i past

-- the whole text begins at its first byte
pub from_start : (bs t : List ℕ) → IsUtf8 bs → chars bs ≡ t → characters_at t 0 ≡ t
from_start bs t utf8 e =
    at_boundary t 0 (subst (λ (l : List ℕ). IsCharBoundary l 0) (sym (bytes_from_view bs t utf8 e)) (IsCharBoundary-start bs utf8))
    ∙ ap chars (bytes_from_view bs t utf8 e) ∙ e

-- what the next character comes to, by the characters that are left and by those at the bytes
pub letter_meets : (t : List ℕ) (i j : ℕ) (r : Result (Option Value) OpEnd) (s p : State) → IsCharBoundary (encode_utf8_all t) i → IsCharBoundary (encode_utf8_all t) j
    → Meets (with_cursor (characters_from (letters_left t j)) r) s (next_of (characters_from (letters_left t i)) p)
    → Meets (with_cursor (characters_from (characters_at t j)) r) s (next_of (characters_from (characters_at t i)) p)
letter_meets t i j r s p here there h =
    subst (λ (cs : List ℕ). Meets (with_cursor (characters_from cs) r) s (next_of (characters_from (characters_at t i)) p)) (sym (at_boundary t j there))
    (subst (λ (cs : List ℕ). Meets (with_cursor (characters_from (letters_left t j)) r) s (next_of (characters_from cs) p)) (sym (at_boundary t i here)) h)

-- none is left where no character begins
pub no_letter : (t : List ℕ) (i : ℕ) (s : State) → characters_at t i ≡ [] → next_of (characters_from (characters_at t i)) s ≡ gives None s
no_letter t i s none = ap (λ cs. next_of (characters_from cs) s) none
