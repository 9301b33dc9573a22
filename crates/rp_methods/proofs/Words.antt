-- The words of a text, taken off its front one after another.
use Rattle.std.proofs.Common.{◌≡◌, ℕ, ◌<◌, Bool, true, false, not, List, [], ◌∷◌, ◌++◌, append_assoc, append-nil, chars, encode_utf8, encode_utf8_all, length, length-append, refl, sym, ap, ◌∙◌, arith}
use lib.Utf8.{scalar, scalars}
use Rattle.std.specs.Char.{is_not_whitespace, is_whitespace}
use Rattle.std.specs.List.{filter}
use Rattle.std.specs.Str.{EmptyOrStartsWithPassing, IsUtf8, NoCharPasses, NonePass}
use Rattle.std.proofs.lemmas.Bool.{and_from, and_parts}
use Rattle.std.proofs.lemmas.Str.{chars-encodes, chars_from_encodes, cons_from_encodes, encodes-chars, length-encode, scalars-chars}
use Rattle.rp_ops.specs.Operand.{is_some_element}
use Rattle.rp_methods.specs.Texts.{runs, with_first, words}
use Rattle.rp_methods.proofs.Cuts.{some_bytes}

-- a front of the bytes is one of the characters
front-of : (cs whole rest : List ℕ) → encode_utf8_all whole ≡ encode_utf8_all cs ++ rest → (left : List ℕ) × (whole ≡ cs ++ left) × (encode_utf8_all left ≡ rest)
front-of [] whole rest e = (whole, refl, e)
front-of (c ∷ cs) whole rest e =
    let one = cons_from_encodes whole (encode_utf8_all cs ++ rest) c (e ∙ append_assoc (encode_utf8 c) (encode_utf8_all cs) rest) in
    let more = front-of cs one.0 rest one.2 in
    (more.0, one.1 ∙ ap (λ (l : List ℕ). c ∷ l) more.1, more.2)

not-not : (b : Bool) → not b ≡ false → b ≡ true
not-not true e = refl
not-not false e = absurd (cc)

-- blanks before a word are passed over
pub words-past_gap : (gap rest : List ℕ) → NonePass is_not_whitespace gap → words (gap ++ rest) ≡ words rest
words-past_gap [] rest h = refl
words-past_gap (c ∷ gap) rest h = rw (not-not (is_whitespace c) h.0) (words-past_gap gap rest h.1)

abbrev Starts : List ℕ → Type 0
Starts [] = Unit {0}
Starts (c ∷ cs) = is_whitespace c ≡ true

-- a word is a run of its own where a blank or nothing follows
runs-word : (word rest : List ℕ) → NonePass is_whitespace word → (rs : List (List ℕ)) → runs rest ≡ [] ∷ rs → runs (word ++ rest) ≡ word ∷ rs
runs-word [] rest h rs e = e
runs-word (c ∷ word) rest h rs e = rw h.0 (ap (with_first c) (runs-word word rest h.1 rs e))

pub words-first : (word rest : List ℕ) → 0 < length word → NonePass is_whitespace word → Starts rest → words (word ++ rest) ≡ word ∷ words rest
words-first [] rest some h starts = absurd (omega (some, arith))
words-first (c ∷ word) [] some h starts = ap (filter is_some_element) (runs-word (c ∷ word) [] h [] refl)
words-first (c ∷ word) (d ∷ rest) some h starts =
    let blank : runs (d ∷ rest) ≡ [] ∷ runs rest = rw starts refl in
    ap (filter is_some_element) (runs-word (c ∷ word) (d ∷ rest) h (runs rest) blank) ∙ ap (λ (l : List (List ℕ)). (c ∷ word) ∷ filter is_some_element l) (sym blank)

scalars-parts : (xs ys : List ℕ) → scalars (xs ++ ys) ≡ true → (scalars xs ≡ true) × (scalars ys ≡ true)
scalars-parts [] ys h = (refl, h)
scalars-parts (x ∷ xs) ys h =
    let front = and_parts (scalar x) (scalars (xs ++ ys)) h in
    let parts = scalars-parts xs ys front.1 in (and_from (scalar x) (scalars xs) front.0 parts.0, parts.1)

some-letters : (word : List ℕ) (cs : List ℕ) → encode_utf8_all cs ≡ word → 0 < length word → 0 < length cs
some-letters word [] e some = absurd (let l = ap length e in omega (l, some, arith))
some-letters word (c ∷ cs) e some = omega arith

-- where bytes that begin with a blank are those of characters, the characters begin with it
starts : (cs rest more : List ℕ) → encode_utf8_all cs ≡ rest → EmptyOrStartsWithPassing is_whitespace rest more → Starts cs
starts [] rest more e h = tt
starts (d ∷ cs) rest more e h =
    let found = h (some-rest) in
    let same = cons_from_encodes (d ∷ cs) more found.0 (e ∙ found.2) in
    let alike = same.1 in
    let blank = found.1 in is-blank d cs found.0 same.0 alike blank
  where
    some-rest : 0 < length rest
    some-rest = let l = ap length e in let m = length-append (encode_utf8 d) (encode_utf8_all cs) in let p = some_bytes d in let w = length-encode d in omega (l, m, p, w, arith)

    is-blank : (d : ℕ) (ds : List ℕ) (c : ℕ) (es : List ℕ) → d ∷ ds ≡ c ∷ es → is_whitespace c ≡ true → is_whitespace d ≡ true
    is-blank d ds c es alike blank = let same : d ≡ c = cc in ap is_whitespace same ∙ blank

-- a word and what is left behind it, as bytes
pub words-step : (whole gap word rest more : List ℕ) → IsUtf8 whole → whole ≡ gap ++ (word ++ rest) → 0 < length word → NoCharPasses is_not_whitespace gap
    → NoCharPasses is_whitespace word → EmptyOrStartsWithPassing is_whitespace rest more → (words (chars whole) ≡ chars word ∷ words (chars rest)) × IsUtf8 rest
words-step whole gap word rest more us split some blank solid after =
    let letters = chars whole in
    let behind = front-of gap-letters letters (word-bytes ++ rest) (encodes-chars whole us ∙ split ∙ ap (λ (l : List ℕ). l ++ (word ++ rest)) (sym blank.1) ∙ ap (λ (l : List ℕ). gap-bytes ++ (l ++ rest)) (sym solid.1)) in
    let last = front-of word-letters behind.0 rest behind.2 in
    let whole-is : letters ≡ gap-letters ++ (word-letters ++ last.0) = behind.1 ∙ ap (λ (l : List ℕ). gap-letters ++ l) last.1 in
    let parts = scalars-parts gap-letters (word-letters ++ last.0) (ap scalars (sym whole-is) ∙ scalars-chars whole us) in
    let each = scalars-parts word-letters last.0 parts.1 in
    let rest-text : IsUtf8 rest = (last.0, (each.1, last.2)) in
    let word-is : word-letters ≡ chars word = sym (chars-encodes word-letters each.0) ∙ ap chars solid.1 in
    let rest-is : last.0 ≡ chars rest = chars_from_encodes last.0 rest rest-text last.2 in (
      ap words whole-is ∙ words-past_gap gap-letters (word-letters ++ last.0) blank.2
          ∙ words-first word-letters last.0 (some-letters word word-letters solid.1 some) solid.2 (starts last.0 rest more last.2 after)
          ∙ ap (λ (l : List ℕ). l ∷ words last.0) word-is ∙ ap (λ (l : List ℕ). chars word ∷ words l) rest-is,
      rest-text,
    )
  where
    gap-letters : List ℕ
    gap-letters = blank.0

    word-letters : List ℕ
    word-letters = solid.0

    gap-bytes : List ℕ
    gap-bytes = encode_utf8_all blank.0

    word-bytes : List ℕ
    word-bytes = encode_utf8_all solid.0

-- where only blanks are left, there is no word
pub words-none : (rest : List ℕ) → IsUtf8 rest → NoCharPasses is_not_whitespace rest → words (chars rest) ≡ []
words-none rest us blank =
    ap words (sym (chars_from_encodes blank.0 rest us blank.1)) ∙ ap words (sym (append-nil blank.0)) ∙ words-past_gap blank.0 [] blank.2
