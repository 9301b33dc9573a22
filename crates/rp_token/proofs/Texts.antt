-- Facts on the characters of a text and of what stands behind some of them.
use Rattle.std.proofs.Common.{◌≡◌, ◌⊎◌, inl, inr, cond, refl, sym, ap, ◌∙◌, ℕ, zero, suc, ◌==◌, ◌-◌, ◌<◌, ◌≤◌, Bool, true, false, ◌||◌, ◌&&◌, nat_lt, List, [], ◌∷◌, ◌++◌, length, take, drop, take_while, chars, encode_utf8_all, append_assoc, arith}
use Rattle.std.specs.Char.{encode_utf8}
use Rattle.std.specs.Str.{IsUtf8, IsCharBoundary}
use Rattle.std.proofs.lemmas.List.{append-nil, length-append, drop_at, take_at, nil_from_length}
use Rattle.std.proofs.lemmas.List.Sums.{take_while-cons}
use Rattle.std.proofs.lemmas.Str.{chars-nil, chars_from_encodes, encodes-append, IsUtf8-take, encodes-chars, IsCharBoundary-at_seam}
use Rattle.rp_token.specs.Characters.{behind_run, first, is_blank, is_line_end, line_end_length}
use Rattle.rp_token.specs.Tokens.{is_empty_line, joined_lines}
use Rattle.rp_base.proofs.CallerLemmas.{length-front}

-- the bytes of a text are those of its characters
pub bytes-chars : (bs : List ℕ) → IsUtf8 bs → length (encode_utf8_all (chars bs)) ≡ length bs
bytes-chars bs text = ap length (encodes-chars bs text)

-- characters that pass the test were read from the text, and what is left has the rest of the run
pub record Passed (p : ℕ → Bool) (text rest : List ℕ) : Type 0 where
  pub letters : List ℕ
  pub spelled : text ≡ letters ++ rest
  pub run : take_while p text ≡ letters ++ take_while p rest

pub Passed-none : (p : ℕ → Bool) (text : List ℕ) → Passed p text text
Passed-none p text = record { letters = []; spelled = refl; run = refl }

pub Passed-more : (p : ℕ → Bool) (text rest next : List ℕ) → Passed p text rest → 0 < length rest → p (first rest) ≡ true → next ≡ drop 1 rest → Passed p text next
Passed-more p text [] next so_far some passes e = absurd (omega arith)
Passed-more p text (c ∷ cs) next so_far some passes e = rw e record {
  letters = so_far.letters ++ c ∷ [];
  spelled = so_far.spelled ∙ sym (append_assoc so_far.letters (c ∷ []) cs);
  run = so_far.run ∙ ap (λ more. so_far.letters ++ more) (take_while-cons p c cs ∙ more passes) ∙ sym (append_assoc so_far.letters (c ∷ []) (take_while p cs));
}
  where
    more : p c ≡ true → cond (p c) (c ∷ take_while p cs) [] ≡ c ∷ take_while p cs
    more e = rw e refl

-- a run is over at the end of the text, and at a character that fails the test
pub run-over : (p : ℕ → Bool) (cs : List ℕ) → (length cs ≡ 0) ⊎ (p (first cs) ≡ false) → take_while p cs ≡ []
run-over p [] over = refl
run-over p (c ∷ cs) (inl none) = absurd (omega (arith, none))
run-over p (c ∷ cs) (inr fails) = rw (take_while-cons p c cs, fails) refl

-- no bytes, no characters
pub no_chars : (bs : List ℕ) → length bs ≡ 0 → length (chars bs) ≡ 0
no_chars bs e = let none = nil_from_length bs e in rw (none, chars-nil) refl

-- the bytes of a text are those that passed, and those that are left
pub Passed-bytes : (p : ℕ → Bool) (text rest : List ℕ) → IsUtf8 text → IsUtf8 rest → (so_far : Passed p (chars text) (chars rest)) → text ≡ encode_utf8_all so_far.letters ++ rest
Passed-bytes p text rest whole left so_far =
    sym (encodes-chars text whole) ∙ ap encode_utf8_all so_far.spelled ∙ encodes-append so_far.letters (chars rest)
    ∙ ap (λ bs. encode_utf8_all so_far.letters ++ bs) (encodes-chars rest left)

-- what is left has no more bytes
pub Passed-le : (p : ℕ → Bool) (text rest : List ℕ) → IsUtf8 text → IsUtf8 rest → Passed p (chars text) (chars rest) → length rest ≤ length text
Passed-le p text rest whole left so_far =
    let both = ap length (Passed-bytes p text rest whole left so_far) ∙ length-append (encode_utf8_all so_far.letters) rest in
    omega arith

-- the text may be cut there
pub Passed-cut : (p : ℕ → Bool) (text rest : List ℕ) → IsUtf8 text → IsUtf8 rest → Passed p (chars text) (chars rest) → IsCharBoundary text (length text - length rest)
Passed-cut p text rest whole left so_far =
    let seam = Passed-bytes p text rest whole left so_far in
    rw (← length-front text (encode_utf8_all so_far.letters) rest seam) (IsCharBoundary-at_seam text (encode_utf8_all so_far.letters) rest seam left)

-- where the run is over, what passed is the run
pub Passed-run : (p : ℕ → Bool) (text rest : List ℕ) → Passed p text rest → take_while p rest ≡ [] → (letters : List ℕ) × (take_while p text ≡ letters) × (text ≡ letters ++ rest)
Passed-run p text rest so_far over = (so_far.letters, so_far.run ∙ ap (λ more. so_far.letters ++ more) over ∙ append-nil so_far.letters, so_far.spelled)

pub Passed-rest : (p : ℕ → Bool) (text rest : List ℕ) → Passed p text rest → take_while p rest ≡ [] → rest ≡ behind_run p text
Passed-rest p text rest so_far over =
    let (letters, run, spelled) = Passed-run p text rest so_far over in
    sym (drop_at letters rest (length letters) refl) ∙ (λ k. drop (length (sym run k)) (sym spelled k))

pub Passed-front : (p : ℕ → Bool) (text rest front : List ℕ) → IsUtf8 text → IsUtf8 rest → front ≡ take (length text - length rest) text → Passed p (chars text) (chars rest) → take_while p (chars rest) ≡ [] → chars front ≡ take_while p (chars text)
Passed-front p text rest front whole left is so_far over =
    let letters = so_far.letters in
    let seam = Passed-bytes p text rest whole left so_far in
    let bytes : take (length text - length rest) text ≡ encode_utf8_all letters =
    ap (take (length text - length rest)) seam ∙ take_at (encode_utf8_all letters) rest (length text - length rest) (length-front text (encode_utf8_all letters) rest seam) in
    let text_of : IsUtf8 (take (length text - length rest) text) = IsUtf8-take text (length text - length rest) whole (Passed-cut p text rest whole left so_far) in
    ap chars is ∙ sym (chars_from_encodes letters _ text_of (sym bytes)) ∙ sym (so_far.run ∙ ap (λ more. letters ++ more) over ∙ append-nil letters)

-- what a test for emptiness says
pub not_empty : (b : Bool) (n : ℕ) → b ≡ (n == 0) → b ≡ false → 0 < n
not_empty b zero is e = cc
not_empty b (suc n) is e = omega arith

-- a text and a character more
pub chars-push : (bs more : List ℕ) (c : ℕ) → IsUtf8 bs → IsUtf8 more → more ≡ bs ++ encode_utf8 c → chars more ≡ chars bs ++ c ∷ []
chars-push bs more c text longer is =
    let bytes : encode_utf8_all (chars bs ++ c ∷ []) ≡ more =
    encodes-append (chars bs) (c ∷ []) ∙ ap (λ xs. xs ++ (encode_utf8 c ++ [])) (encodes-chars bs text) ∙ ap (λ ys. bs ++ ys) (append-nil (encode_utf8 c)) ∙ sym is in
    sym (chars_from_encodes (chars bs ++ c ∷ []) more longer bytes)

-- the rest of a line that has nothing, and one that has something
pub is_empty_line-none : (cs : List ℕ) → length cs ≡ 0 → is_empty_line cs ≡ true
is_empty_line-none [] none = refl
is_empty_line-none (c ∷ cs) none = absurd (omega arith)

pub is_empty_line-some : (cs : List ℕ) → 0 < length cs → is_empty_line cs ≡ (is_line_end (first cs) || (first cs == 35))
is_empty_line-some [] some = absurd (omega arith)
is_empty_line-some (c ∷ cs) some = refl

-- the characters that are passed over
pub joined_lines-passed : (n : ℕ) (cs : List ℕ) → joined_lines n cs ≡ joined_lines 0 (drop n cs)
joined_lines-passed zero cs = refl
joined_lines-passed (suc n) [] = refl
joined_lines-passed (suc n) (c ∷ cs) = joined_lines-passed n cs

-- a blank, a joining line end, and what is neither
pub joined_lines-blank : (cs : List ℕ) → is_blank (first cs) ≡ true → joined_lines 0 (drop 1 cs) ≡ joined_lines 0 cs
joined_lines-blank [] e = cc
joined_lines-blank (c ∷ cs) e = rw e refl

pub joined_lines-more : (cs : List ℕ) → is_blank (first cs) ≡ false → first cs ≡ 92 → nat_lt 0 (line_end_length (drop 1 cs)) ≡ true
    → suc (joined_lines 0 (drop (line_end_length (drop 1 cs)) (drop 1 cs))) ≡ joined_lines 0 cs
joined_lines-more [] e f g = absurd (omega arith)
joined_lines-more (c ∷ cs) e f g = rw (e, f, g) (ap suc (sym (joined_lines-passed (line_end_length cs) cs)))

pub joined_lines-over : (cs : List ℕ) → is_blank (first cs) ≡ false → ((first cs == 92) && nat_lt 0 (line_end_length (drop 1 cs))) ≡ false → joined_lines 0 cs ≡ 0
joined_lines-over [] e f = refl
joined_lines-over (c ∷ cs) e f = rw (e, f) refl

-- a first character other than NUL is one of the text
pub some_from_first : (cs : List ℕ) → 0 < first cs → 0 < length cs
some_from_first [] some = some
some_from_first (c ∷ cs) some = omega arith
