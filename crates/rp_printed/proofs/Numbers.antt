-- A number that is printed is read back.
use Rattle.std.proofs.Common.{◌≡◌, refl, sym, ap, ◌∙◌, ℕ, zero, suc, ◌<◌, ◌≤◌, ◌==◌, true, false, ◌||◌, nat_le}
use Rattle.std.proofs.Common.{decimal, le-leb, lt-ltb}
use Rattle.std.proofs.Common.{List, [], ◌∷◌, ◌++◌, length, get_or, pos, Some, option_map, option_and_then, arith}
use Rattle.std.specs.Char.{digit_value, is_ascii_digit, is_digit}
use Rattle.std.specs.Fmt.{digits}
use Rattle.std.specs.List.{list_all}
use Rattle.std.specs.Str.Parse.{AllDigits, digits_value}
use Rattle.std.proofs.lemmas.Bool.{and_parts, leb-true}
use Rattle.std.proofs.lemmas.Bool.Decides.{nat_tests}
use Rattle.std.proofs.lemmas.Fmt.{decimal_is_IsNumeral, first_decimal}
use Rattle.std.proofs.lemmas.Int.Digits.{digits_value_is}
use Rattle.std.proofs.lemmas.Str.Parse.{digit_from_value}
use lib.Utf8.{low_scalar, scalars}
use Rattle.rp_base.specs.Identifier.{is_start}
use Rattle.rp_token.specs.declared.token.TokenKind.TheVariants as kind
use Rattle.rp_token.specs.Characters.{first, is_numeral}
use Rattle.rp_token.specs.Form.{number}
use Rattle.rp_token.specs.Number.{greatest_number, in_base, number_of, ungrouped, value_in}
use Rattle.rp_token.specs.Tokens.{State, behind_number, in_line}
use Rattle.rp_token.proofs.Rules.{behind_number-taken, behind_token-number, in_line-token, step-within}
use Rattle.unicode_ident.proofs.IdentLemmas.{is_xid_start-ascii}
use Rattle.rp_printed.proofs.Reading.{Reads, Tok, one_token, state_at, inside, not_fresh}
use Rattle.rp_printed.proofs.Lexemes.{EndsNumber, Opens, differs, first-append, number_stops, opens_operand, run_left}
use Rattle.rp_printed.proofs.Lexemes.{run_taken}
use Rattle.rp_token.proofs.Steps.{digit-numeral}

digit_within : (c : ℕ) → is_ascii_digit c ≡ true → (48 ≤ c) × (c ≤ 57)
digit_within c e =
    let parts = and_parts (nat_le 48 c) (nat_le c 57) e in
    (leb-true 48 c parts.0, leb-true c 57 parts.1)

-- ---- what digits are

are_digits : (ds : List ℕ) → AllDigits 10 ds → list_all is_ascii_digit ds ≡ true
are_digits [] h = refl
are_digits (c ∷ cs) h =
    let at = digit_from_value c h.0 in
    rw (le-leb 48 c at.0, le-leb c 57 at.1, are_digits cs h.1) refl

digit_start : (c : ℕ) → is_ascii_digit c ≡ true → is_start c ≡ false
digit_start c e =
    let at = digit_within c e in
    ap (λ b. (c == 95) || b) (is_xid_start-ascii c (omega arith)) ∙ grind (arith, nat_tests)

pub digit_opens : (c : ℕ) → is_ascii_digit c ≡ true → opens_operand c ≡ true
digit_opens c e = rw (
  digit_is 32 refl,
  digit_is 9 refl,
  digit_is 10 refl,
  digit_is 13 refl,
  digit_is 0 refl,
  digit_is 35 refl,
  digit_is
      92 refl,
  digit_is 61 refl,
  digit_is 42 refl,
  digit_is 65279 refl,
) refl
  where
    digit_is : (d : ℕ) → is_ascii_digit d ≡ false → (c == d) ≡ false
    digit_is d none = differs is_ascii_digit c d e none

are_numerals : (ds : List ℕ) → list_all is_ascii_digit ds ≡ true → list_all is_numeral ds ≡ true
are_numerals [] e = refl
are_numerals (c ∷ cs) e =
    let parts = and_parts (is_ascii_digit c) (list_all is_ascii_digit cs) e in
    rw (digit-numeral c parts.0, are_numerals cs parts.1) refl

are_of_base : (ds : List ℕ) → AllDigits 10 ds → list_all (λ c. is_digit c 10) ds ≡ true
are_of_base [] h = refl
are_of_base (c ∷ cs) h = rw (lt-ltb (digit_value c) 10 h.0, are_of_base cs h.1) refl

are_scalars : (ds : List ℕ) → list_all is_ascii_digit ds ≡ true → scalars ds ≡ true
are_scalars [] e = refl
are_scalars (c ∷ cs) e =
    let parts = and_parts (is_ascii_digit c) (list_all is_ascii_digit cs) e in
    let at = digit_within c parts.0 in
    rw (low_scalar c (omega arith), are_scalars cs parts.1) refl

no_groups : (ds : List ℕ) → list_all is_ascii_digit ds ≡ true → ungrouped ds ≡ Some ds
no_groups [] e = refl
no_groups (c ∷ []) e =
    let parts = and_parts (is_ascii_digit c) true e in
    rw (differs is_ascii_digit c 95 parts.0 refl) refl
no_groups (c ∷ d ∷ ds) e =
    let parts = and_parts (is_ascii_digit c) (list_all is_ascii_digit (d ∷ ds)) e in
    rw (differs is_ascii_digit c 95 parts.0 refl, no_groups (d ∷ ds) parts.1) refl

first_is : (ds : List ℕ) → first ds ≡ get_or ds 0 0
first_is [] = refl
first_is (c ∷ cs) = refl

-- ---- the number that is read

value_of_digits : (ds : List ℕ) (n : ℕ) → 0 < length ds → AllDigits 10 ds → digits_value 10 ds ≡ n → value_in 10 ds
    ≡ Some n
value_of_digits ds n some h value =
    ap (option_and_then (in_base 10)) (no_groups ds (are_digits ds h))
    ∙ rw (lt-ltb 0 (length ds) some, are_of_base ds h) (ap Some (sym (digits_value_is 10 ds) ∙ value))

some_number : (n : ℕ) → 0 < n → n ≤ greatest_number → number_of (decimal n) ≡ Some n
some_number n some most =
    let numeral = decimal_is_IsNumeral n (omega arith) in
    let front = first_decimal n some (omega arith) in
    let none : (first (decimal n) == 48) ≡ false = rw (first_is (decimal n)) (grind (arith, nat_tests)) in
    rw (none, value_of_digits (decimal n) n numeral.0.0 numeral.0.1 numeral.1, none, le-leb n greatest_number most) refl

no_number : number_of (decimal 0) ≡ Some 0
unfolding digits
no_number = refl

pub number_back : (n : ℕ) → n ≤ greatest_number → number_of (decimal n) ≡ Some n
number_back zero most = no_number
number_back (suc n) most = some_number (suc n) (omega arith) most

pub in_line-number : (s : State) → is_ascii_digit (first s.left) ≡ true → in_line s ≡ behind_number s
in_line-number s e =
    let c = first s.left in
    in_line-token s (rw (differs is_ascii_digit c 32 e refl, differs is_ascii_digit c 9 e refl) refl)
    (differs is_ascii_digit c 35 e refl)
    (rw (differs is_ascii_digit c 10 e refl, differs is_ascii_digit c 13 e refl) refl)
    (differs is_ascii_digit c 92 e refl)
    ∙ behind_token-number s (digit_start c e) e

first_digit : (ds : List ℕ) → 0 < length ds → list_all is_ascii_digit ds ≡ true → is_ascii_digit (first ds) ≡ true
first_digit [] some e = absurd (omega arith)
first_digit (c ∷ cs) some e = (and_parts (is_ascii_digit c) (list_all is_ascii_digit cs) e).0

module _ (words : List (List ℕ)) (size : ℕ) where
  pub number_read : {columns : List ℕ} {line n : ℕ} (m : ℕ) → m ≤ greatest_number
      → Reads words size Opens EndsNumber (Tok (kind.Int (pos m))) (inside columns line n) (inside columns line n)
      (decimal m)
  number_read {columns = columns} {line = line} {n = n} m most =
      let numeral = decimal_is_IsNumeral m (omega arith) in
      let all = are_digits (decimal m) numeral.0.1 in
      let starts : (behind : List ℕ) → is_ascii_digit (first (decimal m ++ behind)) ≡ true =
      λ behind. ap is_ascii_digit (first-append (decimal m) behind numeral.0.0)
      ∙ first_digit (decimal m) numeral.0.0 all in
      one_token words size (kind.Int (pos m)) (decimal m) (λ behind g. digit_opens (first (decimal m ++ behind))
      (starts behind)) (are_scalars (decimal m) all) numeral.0.0 most (λ items behind g.
      let s = state_at size (inside columns line n) items (decimal m ++ behind) in
      step-within s not_fresh ∙ in_line-number s (starts behind)
      ∙ behind_number-taken s (decimal m) behind (Some (number m))
      (sym (run_taken is_numeral (decimal m) behind (are_numerals (decimal m) all) (number_stops behind g)))
      (sym (run_left is_numeral (decimal m) behind (are_numerals (decimal m) all) (number_stops behind g)))
      (ap (option_map number) (number_back m most)))
