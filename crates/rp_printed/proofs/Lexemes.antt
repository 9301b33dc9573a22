-- Words and marks are read back, given what stands behind them.
use Rattle.std.proofs.Common.{◌≡◌, refl, sym, ap, ◌∙◌, cond, ℕ, zero, suc, ◌<◌, ◌==◌, Bool, true, false, ◌&&◌, ◌||◌}
use Rattle.std.proofs.Common.{not, nat_eq, nat_lt, true≢false}
use Rattle.std.proofs.Common.{List, [], ◌∷◌, ◌++◌, length, drop, take_while, Some, arith, eq-eqb}
use Rattle.std.specs.Char.{is_ascii_alphabetic, is_ascii_alphanumeric}
use Rattle.std.specs.List.{list_all}
use Rattle.std.proofs.lemmas.Bool.{and_parts, eqb-true, ltb-true}
use Rattle.std.proofs.lemmas.List.Sums.{take_while-cons}
use Rattle.std.proofs.Math.Seq.{drop-append_seam}
use lib.Utf8.{scalars}
use Rattle.rp_base.specs.Identifier.{is_start}
use Rattle.rp_token.specs.declared.token.TokenKind.{TokenKind}
use Rattle.rp_token.specs.Characters.{first, behind_run, is_blank, is_line_end, is_numeral}
use Rattle.rp_token.specs.Tokens.{State, behind_word, in_line, word_form}
use Rattle.rp_token.specs.View.{form_view}
use Rattle.rp_token.proofs.Rules.{behind_token-word, behind_word-taken, in_line-token, step-within}
use Rattle.unicode_ident.specs.Ident.{is_xid_continue}
use Rattle.unicode_ident.proofs.Computing.{unicode_ident}
use Rattle.unicode_ident.proofs.IdentLemmas.{is_xid_continue-ascii, is_xid_start-ascii}
use Rattle.rp_printed.proofs.Reading.{IsGoodKind, Reads, Tok, inside, not_fresh, one_token, opened, state_at}

-- ---- what may stand behind a word, behind a number, and before an operand

-- a mark, a blank or a line end
abbrev pub ends_word : ℕ → Bool
ends_word c = nat_lt c 128 && not (is_ascii_alphanumeric c || (c == 95)) && not ((c == 39) || (c == 34))

abbrev pub ends_number : ℕ → Bool
ends_number c = ends_word c && not (c == 46)

-- no blank, no mark of assignment and no star
abbrev pub opens_operand : ℕ → Bool
opens_operand c =
    not (is_blank c) && not (is_line_end c) && not (c == 0) && not (c == 35) && not (c == 92) && not (c == 61) && not
    (c == 42) && not (c == 65279)

abbrev pub EndsWord : List ℕ → Type 0
EndsWord cs = ends_word (first cs) ≡ true

abbrev pub EndsNumber : List ℕ → Type 0
EndsNumber cs = ends_number (first cs) ≡ true

abbrev pub Opens : List ℕ → Type 0
Opens cs = opens_operand (first cs) ≡ true

-- a blank, and no more is said
abbrev pub Blank : List ℕ → Type 0
Blank cs = (rest : List ℕ) × (cs ≡ 32 ∷ rest)

pub number_word : (cs : List ℕ) → EndsNumber cs → EndsWord cs
number_word cs e = (and_parts (ends_word (first cs)) (not (first cs == 46)) e).0

pub not-true : (b : Bool) → not b ≡ true → b ≡ false
not-true true e = sym e
not-true false e = refl

pub equal_self : (n : ℕ) → (n == n) ≡ true
equal_self n = eq-eqb n n refl

pub not_empty : (n : ℕ) → (suc n == 0) ≡ false
not_empty n = by (suc n == 0) refl
  where
    by : (c : Bool) → (suc n == 0) ≡ c → c ≡ false
    by false h = refl
    by true h = absurd (let none = eqb-true (suc n) 0 h in omega arith)

-- a number that is not equal to another, the other way round
pub turned : (a b : ℕ) → (a == b) ≡ false → nat_eq b a ≡ false
turned a b e = by (nat_eq b a) refl
  where
    equal : (m n : ℕ) → m ≡ n → (n == n) ≡ true → (m == n) ≡ true
    equal m n same self = ap (λ k. k == n) same ∙ self

    by : (c : Bool) → nat_eq b a ≡ c → c ≡ false
    by false h = refl
    by true h = absurd (true≢false (sym (equal a b (sym (eqb-true b a h)) (equal_self b)) ∙ e))

-- characters that a test tells apart
pub differs : (p : ℕ → Bool) (c d : ℕ) → p c ≡ true → p d ≡ false → (c == d) ≡ false
differs p c d passes none = by (c == d) refl
  where
    by : (b : Bool) → (c == d) ≡ b → b ≡ false
    by false e = refl
    by true e = absurd (true≢false (sym passes ∙ ap p (eqb-true c d e) ∙ none))

pub word_stops : (cs : List ℕ) → EndsWord cs → is_xid_continue (first cs) ≡ false
word_stops cs e =
    let c = first cs in
    let front = (and_parts (nat_lt c 128 && not (is_ascii_alphanumeric c || (c == 95)))
    (not ((c == 39) || (c == 34))) e).0 in
    let parts = and_parts (nat_lt c 128) (not (is_ascii_alphanumeric c || (c == 95))) front in
    is_xid_continue-ascii c (ltb-true c 128 parts.0) ∙ not-true _ parts.1

pub number_stops : (cs : List ℕ) → EndsNumber cs → is_numeral (first cs) ≡ false
number_stops cs e =
    let parts = and_parts (ends_word (first cs)) (not (first cs == 46)) e in
    rw (not-true _ parts.1, word_stops cs parts.0) refl

-- ---- the run at the front

pub run_taken : (p : ℕ → Bool) (w behind : List ℕ) → list_all p w ≡ true → p (first behind) ≡ false
    → take_while p (w ++ behind) ≡ w
run_taken p [] [] all stops = refl
run_taken p [] (c ∷ cs) all stops = take_while-cons p c cs ∙ (λ i. cond (stops i) (c ∷ take_while p cs) [])
run_taken p (c ∷ cs) behind all stops =
    let parts = and_parts (p c) (list_all p cs) all in
    take_while-cons p c (cs ++ behind) ∙ (λ i. cond (parts.0 i) (c ∷ run_taken p cs behind parts.1 stops i) [])

pub run_left : (p : ℕ → Bool) (w behind : List ℕ) → list_all p w ≡ true → p (first behind) ≡ false
    → behind_run p (w ++ behind) ≡ behind
run_left p w behind all stops = ap (λ (t : List ℕ). drop (length t) (w ++ behind)) (run_taken p w behind all stops)
    ∙ drop-append_seam w behind

pub opened-length : (line n : ℕ) → length (opened line n) ≡ n
opened-length line zero = refl
opened-length line (suc n) = ap suc (opened-length line n)

-- ---- a word

start_none : (c : ℕ) → nat_lt c 128 ≡ true → ((c == 95) || is_ascii_alphabetic c) ≡ false → is_start c ≡ false
start_none c low none = ap (λ b. (c == 95) || b) (is_xid_start-ascii c (ltb-true c 128 low)) ∙ none

pub starts_none : (c d : ℕ) → is_start c ≡ true → nat_lt d 128 ≡ true → ((d == 95) || is_ascii_alphabetic d) ≡ false
    → (c == d) ≡ false
starts_none c d starts low none = differs is_start c d starts (start_none d low none)

no_byte_order_mark : is_start 65279 ≡ false
unfolding unicode_ident
no_byte_order_mark = refl

pub start_opens : (c : ℕ) → is_start c ≡ true → opens_operand c ≡ true
start_opens c s =
    rw (
      starts_none c 32 s refl refl,
      starts_none c 9 s refl refl,
      starts_none c 10 s refl refl,
      starts_none c 13 s refl
          refl,
      starts_none c 0 s refl refl,
      starts_none c 35 s refl refl,
      starts_none c 92 s refl refl,
      starts_none c 61 s refl
          refl,
      starts_none c 42 s refl refl,
      differs is_start c 65279 s no_byte_order_mark,
    ) refl

pub in_line-word : (s : State) → is_start (first s.left) ≡ true → in_line s ≡ behind_word s
in_line-word s e =
    let c = first s.left in
    in_line-token s (rw (starts_none c 32 e refl refl, starts_none c 9 e refl refl) refl) (starts_none c 35 e refl refl)
    (rw (starts_none c 10 e refl refl, starts_none c 13 e refl refl) refl) (starts_none c 92 e refl refl)
    ∙ behind_token-word s e

pub first-append : (w behind : List ℕ) → 0 < length w → first (w ++ behind) ≡ first w
first-append [] behind some = absurd (omega arith)
first-append (c ∷ cs) behind some = refl

module _ (words : List (List ℕ)) (size : ℕ) where
  pub word_read : {columns : List ℕ} {line n : ℕ} (k : TokenKind) (w : List ℕ) → 0 < length w → is_start (first w)
      ≡ true
      → list_all is_xid_continue w ≡ true → scalars w ≡ true → word_form w ≡ Some (form_view words k)
      → IsGoodKind words k
      → Reads words size Opens EndsWord (Tok k) (inside columns line n) (inside columns line n) w
  word_read {columns = columns} {line = line} {n = n} k w some starts all letters form good =
      one_token words size k w (λ behind g. start_opens _ (begun behind)) letters some good (λ items behind g.
      let s = state_at size (inside columns line n) items (w ++ behind) in
      step-within s not_fresh ∙ in_line-word s (begun behind)
      ∙ behind_word-taken s w behind (Some (form_view words k))
      (sym (run_taken is_xid_continue w behind all (word_stops behind g)))
      (sym (run_left is_xid_continue w behind all (word_stops behind g))) form)
    where
      begun : (behind : List ℕ) → is_start (first (w ++ behind)) ≡ true
      begun behind = ap is_start (first-append w behind some) ∙ starts

  -- a word of small letters and such
  all_letters : (w : List ℕ) → list_all (λ c. nat_lt c 128 && is_ascii_alphanumeric c) w ≡ true
      → list_all is_xid_continue w ≡ true
  all_letters [] e = refl
  all_letters (c ∷ cs) e =
      let parts = and_parts (nat_lt c 128 && is_ascii_alphanumeric c)
      (list_all (λ c. nat_lt c 128 && is_ascii_alphanumeric c) cs) e in
      let letter = and_parts (nat_lt c 128) (is_ascii_alphanumeric c) parts.0 in
      rw (is_xid_continue-ascii c (ltb-true c 128 letter.0), letter.1, all_letters cs parts.1) refl

  pub keyword_read : {columns : List ℕ} {line n : ℕ} (k : TokenKind) (w : List ℕ) → 0 < length w
      → (nat_lt (first w) 128 && is_ascii_alphabetic (first w)) ≡ true
      → list_all (λ c. nat_lt c 128 && is_ascii_alphanumeric c) w ≡ true → scalars w ≡ true
      → word_form w ≡ Some (form_view words k) → IsGoodKind words k
      → Reads words size Opens EndsWord (Tok k) (inside columns line n) (inside columns line n) w
  keyword_read k w some begins all letters form good =
      let parts = and_parts (nat_lt (first w) 128) (is_ascii_alphabetic (first w)) begins in
      word_read k w some (rw (is_xid_start-ascii (first w) (ltb-true (first w) 128 parts.0), parts.1)
      (or-true (first w == 95))) (all_letters w all) letters form good
    where
      or-true : (b : Bool) → (b || true) ≡ true
      or-true true = refl
      or-true false = refl
