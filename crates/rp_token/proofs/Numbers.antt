-- The digits of a number, read from the left.
use Rattle.std.proofs.Common.{◌≡◌, inl, inr, refl, sym, ap, ◌∙◌, ℕ, ◌+◌, ◌*◌, ◌<◌, ◌≤◌, Bool, true, false, ◌==◌, nat_lt, nat_le, if◌then◌else◌, List, [], ◌∷◌, length, map, drop, Option, Some, None, option_map, option_and_then, arith}
use Rattle.std.specs.Char.{digit_value, is_digit}
use Rattle.std.specs.Int.Digits.{number_from_digits_after}
use Rattle.std.specs.List.{list_all}
use borrow.Author.Tests.{eqb-true}
use Rattle.std.proofs.lemmas.Bool.{cases_lt, le-ltb, lt-ltb}
use Rattle.std.proofs.lemmas.Int.Digits.{number_after_ge}
use Rattle.std.proofs.lemmas.List.{length-drop}
use Rattle.rp_token.specs.Characters.{first}
use Rattle.rp_token.specs.Number.{ungrouped, in_base, value_in, limited, greatest_number}

-- the value of digits behind those with this value
abbrev pub digits_after : ℕ → ℕ → List ℕ → Option ℕ
digits_after base v digits = if list_all (λ c. is_digit c base) digits then Some (number_from_digits_after base v (map digit_value digits)) else None

-- the same, with underscores among them
abbrev pub value_after : ℕ → ℕ → List ℕ → Option ℕ
value_after base v cs = option_and_then (digits_after base v) (ungrouped cs)

-- a digit that is no underscore
ungrouped-digit : (c : ℕ) (cs : List ℕ) → (c == 95) ≡ false → ungrouped (c ∷ cs) ≡ option_map (λ rest. c ∷ rest) (ungrouped cs)
ungrouped-digit c [] e = rw e refl
ungrouped-digit c (d ∷ ds) e = rw e refl

-- what a digit at the front does
abbrev pub after_digit : ℕ → ℕ → List ℕ → Option ℕ
after_digit base v cs = if is_digit (first cs) base then value_after base (v * base + digit_value (first cs)) (drop 1 cs) else None

digits_after-digit : (base v c : ℕ) (digits : Option (List ℕ)) → option_and_then (digits_after base v) (option_map (λ rest. c ∷ rest) digits)
    ≡ (if is_digit c base then option_and_then (digits_after base (v * base + digit_value c)) digits else None)
digits_after-digit base v c digits = by (is_digit c base) refl digits
  where
    by : (b : Bool) → is_digit c base ≡ b → (digits : Option (List ℕ)) → option_and_then (digits_after base v) (option_map (λ rest. c ∷ rest) digits) ≡ (if b then option_and_then (digits_after base (v * base + digit_value c)) digits else None)
    by true e None = refl
    by false e None = refl
    by true e (Some ds) = rw e refl
    by false e (Some ds) = rw e refl

value_after-digit : (base v c : ℕ) (cs : List ℕ) → (c == 95) ≡ false → value_after base v (c ∷ cs) ≡ after_digit base v (c ∷ cs)
value_after-digit base v c cs e = ap (option_and_then (digits_after base v)) (ungrouped-digit c cs e) ∙ digits_after-digit base v c (ungrouped cs)

-- what is no digit of any base
no_digit : (base : ℕ) → base ≤ 36 → nat_lt 36 base ≡ false
no_digit base h = grind arith

not_digit : (base d : ℕ) → base ≤ 36 → d ≡ 95 → is_digit d base ≡ false
not_digit base d small e = rw e (no_digit base small)

-- behind an underscore, if one stands at the front
abbrev pub behind_underscore : List ℕ → List ℕ
behind_underscore cs = if first cs == 95 then drop 1 cs else cs

pub value_after-turn : (base v : ℕ) (cs : List ℕ) → base ≤ 36 → 0 < length cs → value_after base v cs ≡ after_digit base v (behind_underscore cs)
value_after-turn base v [] small some = absurd (omega arith)
value_after-turn base v (c ∷ cs) small some = by (c == 95) refl cs
  where
    by : (b : Bool) → (c == 95) ≡ b → (cs : List ℕ) → value_after base v (c ∷ cs) ≡ after_digit base v (if b then cs else c ∷ cs)
    by false e cs = value_after-digit base v c cs e
    by true e [] = rw (e, no_digit base small) refl
    by true e (d ∷ ds) = two (d == 95) refl
      where
        two : (b : Bool) → (d == 95) ≡ b → value_after base v (c ∷ d ∷ ds) ≡ after_digit base v (d ∷ ds)
        two true e' = rw (e, e', not_digit base d small (eqb-true d 95 e')) refl
        two false e' = rw (e, e') (value_after-digit base v d ds e')

-- a value that is too great stays so
pub limited-greater : (base v : ℕ) (cs : List ℕ) → 0 < base → greatest_number < v → option_and_then limited (value_after base v cs) ≡ None
limited-greater base v cs some great = by (ungrouped cs)
  where
    over : (n : ℕ) → greatest_number < n → limited n ≡ None
    over n h = let no : nat_le n greatest_number ≡ false = grind arith in rw no refl

    all : (b : Bool) (n : ℕ) → greatest_number < n → option_and_then limited (if b then Some n else None) ≡ None
    all true n h = over n h
    all false n h = refl

    by : (digits : Option (List ℕ)) → option_and_then limited (option_and_then (digits_after base v) digits) ≡ None
    by None = refl
    by (Some ds) =
        let more = number_after_ge base v (map digit_value ds) some in
        all (list_all (λ c. is_digit c base) ds) (number_from_digits_after base v (map digit_value ds)) (omega arith)

no_digits : (c : ℕ) (digits : Option (List ℕ)) → option_map (λ rest. c ∷ rest) digits ≡ Some [] → ⊥
no_digits c None e = cc
no_digits c (Some ds) e = cc

-- a word that has characters has digits
some_digits : (cs : List ℕ) → 0 < length cs → ungrouped cs ≡ Some [] → ⊥
some_digits [] some e = absurd (omega arith)
some_digits (c ∷ cs) some e = by (c == 95) refl cs e
  where
    by : (b : Bool) → (c == 95) ≡ b → (cs : List ℕ) → ungrouped (c ∷ cs) ≡ Some [] → ⊥
    by false q cs e = no_digits c (ungrouped cs) (sym (ungrouped-digit c cs q) ∙ e)
    by true q [] e = let e' = rw q at e in cc
    by true q (d ∷ ds) e = two (d == 95) refl
      where
        two : (b : Bool) → (d == 95) ≡ b → ⊥
        two true q' = let e' = rw (q, q') at e in cc
        two false q' = no_digits d (ungrouped ds) (sym (ungrouped-digit d ds q') ∙ rw (q, q') at e)

-- the number of a word is that of its digits from 0
pub value_in-value_after : (base : ℕ) (cs : List ℕ) → 0 < length cs → value_in base cs ≡ value_after base 0 cs
value_in-value_after base cs some = by (ungrouped cs) refl
  where
    by : (digits : Option (List ℕ)) → ungrouped cs ≡ digits → option_and_then (in_base base) digits ≡ option_and_then (digits_after base 0) digits
    by None e = refl
    by (Some []) e = absurd (some_digits cs some e)
    by (Some (d ∷ ds)) e = rw (lt-ltb 0 (length (d ∷ ds)) (omega arith)) refl

pub value_in-none : (base : ℕ) (cs : List ℕ) → length cs ≡ 0 → value_in base cs ≡ None
value_in-none base [] none = refl
value_in-none base (c ∷ cs) none = absurd (omega arith)

-- a turn that finds a digit, at a place that may be behind an underscore
pub turn-digit : (base v : ℕ) (cs place : List ℕ) → base ≤ 36 → 0 < length cs → place ≡ behind_underscore cs → digit_value (first place) < base
    → value_after base (v * base + digit_value (first place)) (drop 1 place) ≡ value_after base v cs
turn-digit base v cs place small some is digit =
    let yes : is_digit (first place) base ≡ true = lt-ltb (digit_value (first place)) base digit in
    sym (value_after-turn base v cs small some ∙ ap (after_digit base v) (sym is) ∙ rw yes refl)

pub not_lt : (m n : ℕ) → ¬ (m < n) → n ≤ m
not_lt m n other = elim (cases_lt m n) [ inl below ↦ absurd (other below) | inr above ↦ above ]

-- a turn that finds none
pub turn-none : (base v : ℕ) (cs place : List ℕ) → base ≤ 36 → 0 < length cs → place ≡ behind_underscore cs → ¬ (digit_value (first place) < base) → value_after base v cs ≡ None
turn-none base v cs place small some is other =
    let no : is_digit (first place) base ≡ false = le-ltb (digit_value (first place)) base (not_lt (digit_value (first place)) base other) in
    value_after-turn base v cs small some ∙ ap (after_digit base v) (sym is) ∙ rw no refl

-- a turn that finds a digit and becomes too great
pub turn-great : (base v : ℕ) (cs place : List ℕ) → base ≤ 36 → 0 < length cs → place ≡ behind_underscore cs → digit_value (first place) < base
    → greatest_number < v * base + digit_value (first place) → option_and_then limited (value_after base v cs) ≡ None
turn-great base v cs place small some is digit great =
    ap (option_and_then limited) (sym (turn-digit base v cs place small some is digit))
    ∙ limited-greater base (v * base + digit_value (first place)) (drop 1 place) (omega arith) great

-- where no digit is left, the number is the value so far
pub limited-ended : (base v : ℕ) (word rest : List ℕ) → 0 < length word → length rest ≡ 0
    → option_and_then limited (value_after base v rest) ≡ option_and_then limited (value_after base 0 word) → option_and_then limited (value_in base word) ≡ limited v
limited-ended base v word [] some none so_far = ap (option_and_then limited) (value_in-value_after base word some) ∙ sym so_far
limited-ended base v word (c ∷ cs) some none so_far = absurd (omega arith)

-- where reading stops at what is left, there is no number
pub limited-stopped : (base v : ℕ) (word rest : List ℕ) → 0 < length word → option_and_then limited (value_after base v rest) ≡ option_and_then limited (value_after base 0 word)
    → option_and_then limited (value_after base v rest) ≡ None → option_and_then limited (value_in base word) ≡ None
limited-stopped base v word rest some so_far stops = ap (option_and_then limited) (value_in-value_after base word some) ∙ sym so_far ∙ stops

-- what may be behind an underscore is no longer
pub behind-le : (b : Bool) (cs : List ℕ) → length (if b then drop 1 cs else cs) ≤ length cs
behind-le true cs = omega (arith, length-drop 1 cs)
behind-le false cs = omega arith

-- where a digit is found, there are characters
pub some_digit : (base : ℕ) (cs : List ℕ) → base ≤ 36 → digit_value (first cs) < base → 0 < length cs
some_digit base [] small digit = absurd (omega arith)
some_digit base (c ∷ cs) small digit = omega arith
