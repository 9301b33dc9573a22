-- A text without the blanks at its end.
use Rattle.std.proofs.Common.{◌≡◌, ◌∙◌, refl, sym, ap, subst, if◌then◌else◌, ℕ, ◌-◌, ◌≤◌, ◌<◌, Bool, true, false, List, [], ◌∷◌, ◌++◌, append_assoc, length, take, drop, take_while, reverse, chars, encode_utf8_all, arith}
use Rattle.std.specs.List.{list_all}
use Rattle.std.specs.Str.{IsUtf8, IsCharBoundary}
use Rattle.std.proofs.lemmas.Bool.{and_parts}
use Rattle.std.proofs.lemmas.List.{append-nil, length-append, reverse-append, reverse-reverse, take_at}
use Rattle.std.proofs.lemmas.List.Folds.{list_all-append}
use Rattle.std.proofs.lemmas.List.Sums.{take_while-cons}
use Rattle.std.proofs.lemmas.Str.{IsCharBoundary-at_seam, IsUtf8-take, chars_from_encodes, encodes-append, encodes-chars}
use Rattle.rp_token.specs.Characters.{behind_run, first, is_blank}
use Rattle.rp_base.proofs.CallerLemmas.{length-front}

-- Some characters were read: those up to the last one that is no blank, and the blanks behind it.
pub record Read (text kept rest : List ℕ) : Type 0 where
  pub letters : List ℕ
  pub blanks : List ℕ
  pub spelled : text ≡ letters ++ kept
  pub over : kept ≡ blanks ++ rest
  pub all : list_all is_blank blanks ≡ true
  pub last : behind_run is_blank (reverse letters) ≡ reverse letters

pub Read-none : (text : List ℕ) → Read text text text
Read-none text = record { letters = []; blanks = []; spelled = refl; over = refl; all = refl; last = refl }

-- a blank more
pub Read-blank : (text kept rest next : List ℕ) → Read text kept rest → 0 < length rest → is_blank (first rest) ≡ true → next ≡ drop 1 rest → Read text kept next
Read-blank text kept [] next so_far some blank e = absurd (omega arith)
Read-blank text kept (c ∷ cs) next so_far some blank e = subst (Read text kept) (sym e) (record {
  letters = so_far.letters;
  blanks = so_far.blanks ++ c ∷ [];
  spelled = so_far.spelled;
  over = so_far.over ∙ sym (append_assoc so_far.blanks (c ∷ []) cs);
  all = list_all-append is_blank so_far.blanks (c ∷ []) ∙ rw (so_far.all, blank) refl;
  last = so_far.last;
})

-- what ends with a character that is no blank ends with no blank
behind-letter : (c : ℕ) (cs : List ℕ) → is_blank c ≡ false → behind_run is_blank (c ∷ cs) ≡ c ∷ cs
behind-letter c cs other =
    let none : take_while is_blank (c ∷ cs) ≡ [] = take_while-cons is_blank c cs ∙ rw other refl in
    ap (λ (run : List ℕ). drop (length run) (c ∷ cs)) none

-- another character more
pub Read-letter : (text kept rest next : List ℕ) → Read text kept rest → 0 < length rest → is_blank (first rest) ≡ false → next ≡ drop 1 rest → Read text next next
Read-letter text kept [] next so_far some other e = absurd (omega arith)
Read-letter text kept (c ∷ cs) next so_far some other e =
    let front = so_far.letters ++ so_far.blanks in
    subst (λ more. Read text more more) (sym e) (record {
      letters = front ++ c ∷ [];
      blanks = [];
      spelled = so_far.spelled ∙ ap (λ more. so_far.letters ++ more) so_far.over ∙ sym (append_assoc so_far.letters so_far.blanks (c ∷ cs)) ∙ sym (append_assoc front (c ∷ []) cs);
      over = refl;
      all = refl;
      last = ap (behind_run is_blank) (reverse-append front (c ∷ [])) ∙ behind-letter c (reverse front) other ∙ sym (reverse-append front (c ∷ []));
    })

-- a character more
pub Read-turn : (text kept rest next chosen : List ℕ) (letter : ℕ) → Read text kept rest → 0 < length rest → letter ≡ first rest → next ≡ drop 1 rest → chosen ≡ (if is_blank letter then kept else next) → Read text chosen next
Read-turn text kept rest next chosen letter so_far some is e f = by (is_blank letter) (ap is_blank (sym is)) f
  where
    by : (b : Bool) → is_blank (first rest) ≡ b → chosen ≡ (if b then kept else next) → Read text chosen next
    by true blank g = subst (λ more. Read text more next) (sym g) (Read-blank text kept rest next so_far some blank e)
    by false other g = subst (λ more. Read text more next) (sym g) (Read-letter text kept rest next so_far some other e)

-- behind blanks
behind-blanks : (bs cs : List ℕ) → list_all is_blank bs ≡ true → behind_run is_blank (bs ++ cs) ≡ behind_run is_blank cs
behind-blanks [] cs all = refl
behind-blanks (b ∷ bs) cs all =
    let both = and_parts (is_blank b) (list_all is_blank bs) all in
    let more : take_while is_blank (b ∷ (bs ++ cs)) ≡ b ∷ take_while is_blank (bs ++ cs) = take_while-cons is_blank b (bs ++ cs) ∙ rw both.0 refl in
    ap (λ (run : List ℕ). drop (length run) (b ∷ (bs ++ cs))) more ∙ behind-blanks bs cs both.1

all-reverse : (bs : List ℕ) → list_all is_blank bs ≡ true → list_all is_blank (reverse bs) ≡ true
all-reverse [] all = refl
all-reverse (b ∷ bs) all =
    let both = and_parts (is_blank b) (list_all is_blank bs) all in
    ap (list_all is_blank) (reverse-append (b ∷ []) bs) ∙ list_all-append is_blank (reverse bs) (b ∷ []) ∙ rw (all-reverse bs both.1, both.0) refl

-- the text was read to its end
pub Read-end : (text kept rest : List ℕ) → (so_far : Read text kept rest) → rest ≡ [] → so_far.letters ≡ reverse (behind_run is_blank (reverse text))
Read-end text kept rest so_far none =
    let blanks : kept ≡ so_far.blanks = so_far.over ∙ ap (λ more. so_far.blanks ++ more) none ∙ append-nil so_far.blanks in
    let whole : text ≡ so_far.letters ++ so_far.blanks = so_far.spelled ∙ ap (λ more. so_far.letters ++ more) blanks in
    let back : reverse text ≡ reverse so_far.blanks ++ reverse so_far.letters = ap reverse whole ∙ reverse-append so_far.letters so_far.blanks in
    sym (ap (λ more. reverse (behind_run is_blank more)) back ∙ ap reverse (behind-blanks (reverse so_far.blanks) (reverse so_far.letters) (all-reverse so_far.blanks so_far.all) ∙ so_far.last)
    ∙ reverse-reverse so_far.letters)

-- the bytes of a text whose characters end with those of another
seam : (bs rest letters : List ℕ) → IsUtf8 bs → IsUtf8 rest → chars bs ≡ letters ++ chars rest → bs ≡ encode_utf8_all letters ++ rest
seam bs rest letters whole left spelled =
    sym (encodes-chars bs whole) ∙ ap encode_utf8_all spelled ∙ encodes-append letters (chars rest) ∙ ap (λ more. encode_utf8_all letters ++ more) (encodes-chars rest left)

pub cut-le : (bs rest letters : List ℕ) → IsUtf8 bs → IsUtf8 rest → chars bs ≡ letters ++ chars rest → length rest ≤ length bs
cut-le bs rest letters whole left spelled = let both = ap length (seam bs rest letters whole left spelled) ∙ length-append (encode_utf8_all letters) rest in omega arith

pub cut-boundary : (bs rest letters : List ℕ) → IsUtf8 bs → IsUtf8 rest → chars bs ≡ letters ++ chars rest → IsCharBoundary bs (length bs - length rest)
cut-boundary bs rest letters whole left spelled =
    let bytes = seam bs rest letters whole left spelled in
    rw (← length-front bs (encode_utf8_all letters) rest bytes) (IsCharBoundary-at_seam bs (encode_utf8_all letters) rest bytes left)

pub cut-front : (bs rest letters front : List ℕ) → IsUtf8 bs → IsUtf8 rest → chars bs ≡ letters ++ chars rest → front ≡ take (length bs - length rest) bs → chars front ≡ letters
cut-front bs rest letters front whole left spelled is =
    let bytes = seam bs rest letters whole left spelled in
    let text_of : IsUtf8 (take (length bs - length rest) bs) = IsUtf8-take bs (length bs - length rest) whole (cut-boundary bs rest letters whole left spelled) in
    let taken : take (length bs - length rest) bs ≡ encode_utf8_all letters =
    ap (take (length bs - length rest)) bytes ∙ take_at (encode_utf8_all letters) rest (length bs - length rest) (length-front bs (encode_utf8_all letters) rest bytes) in
    ap chars is ∙ sym (chars_from_encodes letters _ text_of (sym taken))

pub chars-chosen : (b : Bool) (one other chosen : List ℕ) → chosen ≡ (if b then one else other) → chars chosen ≡ (if b then chars one else chars other)
chars-chosen true one other chosen e = ap chars e
chars-chosen false one other chosen e = ap chars e
