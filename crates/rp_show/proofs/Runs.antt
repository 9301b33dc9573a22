-- Runs of characters that have no escape, found among the bytes of a text.
use Rattle.std.proofs.Common.{◌≡◌, inl, inr, ℕ, suc, ◌<◌, ◌≤◌, nat_lt, List, [], ◌∷◌, ◌++◌, append-nil, append_assoc, encode_utf8_all, IsUtf8, refl, sym, ap, ◌∙◌, subst, length, take, drop, get_or, not, Option, Some, None, Bool, true, false, ◌==◌, ◌||◌, cond, arith}
use Rattle.std.specs.Bool.{MatchBool}
use Rattle.std.specs.Char.{encode_utf8}
use Rattle.std.specs.List.{list_any, position_or_len}
use Rattle.std.specs.Option.{option_map_or}
use Rattle.std.specs.Str.{IsCharBoundary, chars}
use Rattle.std.specs.Str.Pattern.{FindsChar}
use Rattle.std.proofs.lemmas.Bool.{cases_lt, false≢true, or_parts}
use Rattle.std.proofs.lemmas.Bool.Decides.{eqb_tells, leb_tells}
use Rattle.std.proofs.lemmas.List.Elements.{All-from_get_or}
use Rattle.std.proofs.lemmas.List.Folds.{list_any-append, list_any_at, list_any_none}
use Rattle.std.proofs.lemmas.List.{get_or-take, length-append, length-drop, length-take, take-append-drop}
use Rattle.std.proofs.lemmas.List.Sums.{fails_before_first, passes_at_first, prefix_len-le-length}
use Rattle.std.proofs.lemmas.Str.{chars-append, encode_ascii, encodes-chars, inside_one, IsCharBoundary-before_ascii, IsCharBoundary-end, IsUtf8-drop, IsUtf8-take}
use Rattle.std.proofs.lemmas.Str.Pattern.{contains_char}
use Rattle.std.proofs.Math.Bool.{or-false}
use Rattle.rp_show.specs.EscapeSteps.{has_escape}
use Rattle.rp_show.specs.Shown.{escaped, escaped_all, is_control}
use Rattle.rp_show.proofs.Escapes.{escaped_all-append}

-- a test that no character beyond ASCII passes, on the bytes of a text and on its characters
module _ (p : ℕ → Bool) (high : (n : ℕ) → 128 ≤ n → p n ≡ false) where
  beyond : (c : ℕ) → 128 ≤ c → list_any p (encode_utf8 c) ≡ false
  beyond c above = list_any_none p (encode_utf8 c) (All-from_get_or (λ x. p x ≡ false) (encode_utf8 c) 0 (λ i inside. high _ (byte i inside)))
    where
      byte : (i : ℕ) → i < length (encode_utf8 c) → 128 ≤ get_or (encode_utf8 c) i 0
      byte i inside = elim (cases_lt (get_or (encode_utf8 c) i 0) 128) [
        | inl low ↦ absurd (omega (arith, inside_one c [] (encode_utf8 c) i (sym (append-nil (encode_utf8 c))) inside low))
        | inr most ↦ most
      ]

  one : (c : ℕ) → list_any p (encode_utf8 c) ≡ p c
  one c = elim (cases_lt c 128) [
    | inl low ↦ ap (list_any p) (encode_ascii c low) ∙ or-false (p c)
    | inr most ↦ beyond c most ∙ sym (high c most)
  ]

  any-bytes : (cs : List ℕ) → list_any p (encode_utf8_all cs) ≡ list_any p cs
  any-bytes [] = refl
  any-bytes (c ∷ cs) = list_any-append p (encode_utf8 c) (encode_utf8_all cs) ∙ ap (λ b. b || list_any p (encode_utf8_all cs)) (one c) ∙ ap (λ b. p c || b) (any-bytes cs)

  pub any-chars : (bs : List ℕ) → IsUtf8 bs → list_any p bs ≡ list_any p (chars bs)
  any-chars bs text = ap (list_any p) (sym (encodes-chars bs text)) ∙ any-bytes (chars bs)

-- a number is no other one, and not below a smaller one
other : (n k : ℕ) → (n ≡ k → ⊥) → (n == k) ≡ false
other n k differ = elim (eqb_tells n k) [
  | inl is ↦ absurd (differ is.1)
  | inr is ↦ is.0
]

not-below : (n k : ℕ) → k ≤ n → nat_lt n k ≡ false
not-below n k most = elim (leb_tells (suc n) k) [
  | inl is ↦ absurd (omega (arith, is.1, most))
  | inr is ↦ is.0
]

above : (n k : ℕ) → nat_lt n k ≡ false → k ≤ n
above n k e = elim (leb_tells (suc n) k) [
  | inl is ↦ absurd (false≢true (sym e ∙ is.0))
  | inr is ↦ omega (arith, is.1)
]

-- a character without an escape is shown as it is
plain_one : (q c : ℕ) → has_escape q c ≡ false → escaped q c ≡ c ∷ []
plain_one q c none =
    let outer = or_parts (is_control c || (c == 92)) (c == q) none in
    let inner = or_parts (is_control c) (c == 92) outer.0 in
    let most : 32 ≤ c = above c 32 (or_parts (nat_lt c 32) (c == 127) inner.0).0 in
    rw (inner.1, outer.1, other c 10 (λ e. omega (arith, e, most)), other c 13 (λ e. omega (arith, e, most)), other c 9 (λ e. omega (arith, e, most)), inner.0) refl

plain_all : (q : ℕ) (cs : List ℕ) → list_any (has_escape q) cs ≡ false → escaped_all q cs ≡ cs
plain_all q [] none = refl
plain_all q (c ∷ cs) none =
    let both = or_parts (has_escape q c) (list_any (has_escape q) cs) none in
    ap (λ t. t ++ escaped_all q cs) (plain_one q c both.0) ∙ ap (λ t. c ∷ t) (plain_all q cs both.1)

module _ (q : ℕ) (ascii : q < 128) where
  high-escape : (n : ℕ) → 128 ≤ n → has_escape q n ≡ false
  high-escape n most =
      rw (not-below n 32 (omega (arith, most)), other n 127 (λ e. omega (arith, e, most)), other n 92 (λ e. omega (arith, e, most)), other n q (λ e. omega (arith, e, most, ascii))) refl

  module _ (bs : List ℕ) (text : IsUtf8 bs) where
    abbrev place : ℕ
    place = position_or_len (has_escape q) bs

    pub boundary : IsCharBoundary bs (position_or_len (has_escape q) bs)
    boundary = elim (cases_lt place (length bs)) [
      | inl inside ↦ IsCharBoundary-before_ascii bs place inside (low inside)
      | inr most ↦ subst (IsCharBoundary bs) (end most) (IsCharBoundary-end bs)
    ]
      where
        end : length bs ≤ place → length bs ≡ place
        end most = omega (arith, prefix_len-le-length (λ x. not (has_escape q x)) bs)

        low : place < length bs → get_or bs place 0 < 128
        low inside = elim (cases_lt (get_or bs place 0) 128) [
          | inl below ↦ below
          | inr most ↦ absurd (false≢true (sym (high-escape (get_or bs place 0) most) ∙ passes_at_first (has_escape q) bs 0 inside))
        ]

    pub run-text : IsUtf8 (take (position_or_len (has_escape q) bs) bs)
    run-text = IsUtf8-take bs place text boundary

    pub rest-text : IsUtf8 (drop (position_or_len (has_escape q) bs) bs)
    rest-text = IsUtf8-drop bs place text boundary

    pub run-and-rest : chars bs ≡ chars (take (position_or_len (has_escape q) bs) bs) ++ chars (drop (position_or_len (has_escape q) bs) bs)
    run-and-rest = ap chars (sym (take-append-drop place bs)) ∙ chars-append (take place bs) (drop place bs) run-text

    none-before : list_any (has_escape q) (take place bs) ≡ false
    none-before = list_any_none (has_escape q) (take place bs) (All-from_get_or (λ x. has_escape q x ≡ false) (take place bs) 0 (λ i inside. before i (omega (arith, inside, length-take place bs))))
      where
        before : (i : ℕ) → i < place → has_escape q (get_or (take place bs) i 0) ≡ false
        before i inside = ap (has_escape q) (get_or-take place bs i 0 inside) ∙ fails_before_first (has_escape q) bs i 0 inside

    pub run-plain : escaped_all q (chars (take (position_or_len (has_escape q) bs) bs)) ≡ chars (take (position_or_len (has_escape q) bs) bs)
    run-plain = plain_all q (chars (take place bs)) (sym (any-chars (has_escape q) high-escape (take place bs) run-text) ∙ none-before)

-- a run, the character behind it and all that stands behind that
pub escaped-turn : (q : ℕ) (line run behind text : List ℕ) → text ≡ run ++ behind → escaped_all q run ≡ run
    → ((line ++ run) ++ escaped_all q (take 1 behind)) ++ escaped_all q (drop 1 behind) ≡ line ++ escaped_all q text
escaped-turn q line run behind text parts plain =
    append_assoc (line ++ run) (escaped_all q (take 1 behind)) (escaped_all q (drop 1 behind))
    ∙ ap (λ t. (line ++ run) ++ t) (sym (escaped_all-append q (take 1 behind) (drop 1 behind)) ∙ ap (escaped_all q) (take-append-drop 1 behind))
    ∙ append_assoc line run (escaped_all q behind)
    ∙ ap (λ t. line ++ (t ++ escaped_all q behind)) (sym plain) ∙ ap (λ t. line ++ t) (sym (escaped_all-append q run behind)) ∙ ap (λ t. line ++ escaped_all q t) (sym parts)

-- what is left is shorter
pub shorter-turn : (run behind text : List ℕ) → text ≡ run ++ behind → 0 < length text → length (drop 1 behind) < length text
shorter-turn run behind text parts some = omega (arith, some, ap length parts, length-append run behind, length-drop 1 behind)

-- whether a text contains an ASCII character
pub contains-holds : (c : ℕ) (bs : List ℕ) (r : Bool) → IsUtf8 bs → c < 128
    → MatchBool r ((i : ℕ) × (j : ℕ) × FindsChar c bs (Some (i, j)) × (i ≤ j) × (j ≤ length bs)) (FindsChar c bs None) → r ≡ list_any (λ d. d == c) (chars bs)
contains-holds c bs r text ascii cases = by r (contains_char c bs r cases ascii) ∙ any-chars (λ d. d == c) high bs text
  where
    high : (n : ℕ) → 128 ≤ n → (n == c) ≡ false
    high n most = other n c (λ e. omega (arith, e, most, ascii))

    by : (r : Bool) → (r ≡ true → (k : ℕ) × (k < length bs) × (get_or bs k 0 ≡ c)) × ((k : ℕ) → k < length bs → get_or bs k 0 ≡ c → r ≡ true) → r ≡ list_any (λ d. d == c) bs
    by true found = let (k, inside, is) = found.0 refl in sym (list_any_at (λ d. d == c) bs k 0 inside (ap (λ d. d == c) is ∙ same))
      where
        same : (c == c) ≡ true
        same = elim (eqb_tells c c) [
          | inl is ↦ is.0
          | inr is ↦ absurd (is.1 refl)
        ]
    by false found = sym (list_any_none (λ d. d == c) bs (All-from_get_or (λ d. (d == c) ≡ false) bs 0 (λ i inside. other (get_or bs i 0) c (λ e. false≢true (found.1 i inside e)))))

-- the first byte that passes a test
pub first-some : (p : ℕ → Bool) (bs : List ℕ) (r : Option ℕ) (at : ℕ) → r ≡ cond (nat_lt (position_or_len p bs) (length bs)) (Some (position_or_len p bs)) None → r ≡ Some at → at ≡ position_or_len p bs
first-some p bs r at e f = by (nat_lt (position_or_len p bs) (length bs)) (sym f ∙ e)
  where
    by : (b : Bool) → Some at ≡ cond b (Some (position_or_len p bs)) None → at ≡ position_or_len p bs
    by true g = ap (λ o. option_map_or (λ k. k) o at) g
    by false g = absurd (cc)

pub first-none : (p : ℕ → Bool) (bs : List ℕ) (r : Option ℕ) → r ≡ cond (nat_lt (position_or_len p bs) (length bs)) (Some (position_or_len p bs)) None → r ≡ None → length bs ≡ position_or_len p bs
first-none p bs r e f = elim (leb_tells (suc (position_or_len p bs)) (length bs)) [
  | inl inside ↦ absurd (some (sym f ∙ e ∙ ap (λ b. cond b (Some (position_or_len p bs)) None) inside.0))
  | inr most ↦ omega (arith, most.1, prefix_len-le-length (λ x. not (p x)) bs)
]
  where
    some : None ≡ Some (position_or_len p bs) → ⊥
    some g = absurd (cc)
