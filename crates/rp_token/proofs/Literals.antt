-- How a literal is read piece by piece.
use Rattle.std.proofs.Common.{◌≡◌, refl, sym, ap, ◌∙◌, ℕ, zero, suc, ◌+◌, ◌*◌, ◌-◌, ◌<◌, ◌≤◌, ◌^◌, Bool, true, false, ◌&&◌, ◌==◌, nat_eq, if◌then◌else◌, List, [], ◌∷◌, ◌++◌, length, map, drop, take, Option, Some, None, option_and_then, append_assoc, add_assoc, zero-add, arith}
use Rattle.std.specs.Char.{digit_value, is_digit}
use Rattle.std.specs.Int.Digits.{number_from_digits_after}
use Rattle.std.specs.List.{list_all, starts_with}
use Rattle.std.proofs.lemmas.List.{drop-drop}
use Rattle.std.proofs.Math.Dec.{eqb-suc-suc, eqb-suc-zero, eqb-zero-suc}
use Rattle.std.proofs.lemmas.Bool.{lt-ltb, le-ltb, eq-eqb}
use Rattle.std.proofs.lemmas.Int.Digits.{number_after_ge}
use lib.Utf8.{scalar, scalar_fits}
use Rattle.rp_token.specs.Characters.{first, line_end_length}
use Rattle.std.specs.Map.{lookup}
use Rattle.std.specs.Option.{option_map_or}
use Rattle.rp_token.specs.Literal.{plain_escapes, numbered_escapes, Reading, closed, unclosed, bad_escape, Escape, with_front, literal_behind, numbered}
use Rattle.rp_token.specs.Reading.{escape_seen}
use Rattle.rp_token.proofs.Numbers.{not_lt}

-- one quote at the front
pub starts_with-one : (q : ℕ) (cs : List ℕ) → 0 < q → first cs ≡ q → starts_with nat_eq cs (q ∷ []) ≡ true
starts_with-one q [] some e = absurd (omega arith)
starts_with-one q (c ∷ cs) some e = rw (e, eq-eqb q q refl) refl

-- three at the front
pub starts_with-three : (q : ℕ) (cs : List ℕ) → 0 < q → first cs ≡ q → first (drop 1 cs) ≡ q → first (drop 1 (drop 1 cs)) ≡ q → starts_with nat_eq cs (q ∷ q ∷ q ∷ []) ≡ true
starts_with-three q [] some e f g = absurd (omega arith)
starts_with-three q (c ∷ []) some e f g = absurd (omega arith)
starts_with-three q (c ∷ d ∷ []) some e f g = absurd (omega arith)
starts_with-three q (c ∷ d ∷ x ∷ cs) some e f g = rw (e, f, g, eq-eqb q q refl) refl

pub drop-three : (cs : List ℕ) → drop 1 (drop 1 (drop 1 cs)) ≡ drop 3 cs
drop-three [] = refl
drop-three (c ∷ []) = refl
drop-three (c ∷ d ∷ []) = refl
drop-three (c ∷ d ∷ e ∷ cs) = refl

-- the characters that are passed over
pub literal_behind-passed : (quotes : List ℕ) (n : ℕ) (cs : List ℕ) → literal_behind quotes n cs ≡ literal_behind quotes 0 (drop n cs)
literal_behind-passed quotes zero cs = refl
literal_behind-passed quotes (suc n) [] = refl
literal_behind-passed quotes (suc n) (c ∷ cs) = literal_behind-passed quotes n cs

-- one front before another
pub with_front-with_front : (xs ys : List ℕ) (m n : ℕ) (r : Reading) → with_front xs m (with_front ys n r) ≡ with_front (xs ++ ys) (m + n) r
with_front-with_front xs ys m n (closed text rest more) = rw (append_assoc xs ys text, add_assoc m n more) refl
with_front-with_front xs ys m n unclosed = refl
with_front-with_front xs ys m n (bad_escape more) = rw (add_assoc m n more) refl

pub with_front-none : (r : Reading) → with_front [] 0 r ≡ r
with_front-none (closed text rest more) = rw (zero-add more) refl
with_front-none unclosed = refl
with_front-none (bad_escape more) = rw (zero-add more) refl

-- the value of so many hexadecimal digits behind those with this value
abbrev pub hex_after : ℕ → ℕ → List ℕ → Option ℕ
hex_after v n cs =
    if (length (take n cs) == n) && list_all (λ d. is_digit d 16) (take n cs) then Some (number_from_digits_after 16 v (map digit_value (take n cs))) else None

abbrev pub escape_from : ℕ → ℕ → Option Escape
escape_from n c = if scalar c then Some (record { stands_for = c ∷ []; taken = n + 1 }) else None

pub numbered-hex_after : (n : ℕ) (cs : List ℕ) → numbered n cs ≡ option_and_then (escape_from n) (hex_after 0 n cs)
numbered-hex_after n cs = by ((length (take n cs) == n) && list_all (λ d. is_digit d 16) (take n cs))
  where
    by : (b : Bool) → (if b && scalar (number_from_digits_after 16 0 (map digit_value (take n cs))) then Some (record { stands_for = number_from_digits_after 16 0 (map digit_value (take n cs)) ∷ []; taken = n + 1 }) else None)
        ≡ option_and_then (escape_from n) (if b then Some (number_from_digits_after 16 0 (map digit_value (take n cs))) else None)
    by true = refl
    by false = refl

pub hex_after-digit : (v n : ℕ) (cs : List ℕ) → 0 < n → digit_value (first cs) < 16 → hex_after (v * 16 + digit_value (first cs)) (n - 1) (drop 1 cs) ≡ hex_after v n cs
hex_after-digit v zero cs some digit = absurd (omega arith)
hex_after-digit v (suc n) [] some digit = absurd (omega arith)
hex_after-digit v (suc n) (c ∷ cs) some digit = let less : suc n - 1 ≡ n = omega arith in rw (less, eqb-suc-suc (length (take n cs)) n, lt-ltb (digit_value c) 16 digit) refl

pub hex_after-none : (v n : ℕ) (cs : List ℕ) → 0 < n → ¬ (digit_value (first cs) < 16) → hex_after v n cs ≡ None
hex_after-none v zero cs some other = absurd (omega arith)
hex_after-none v (suc n) [] some other = rw (eqb-zero-suc n) refl
hex_after-none v (suc n) (c ∷ cs) some other = rw (le-ltb (digit_value c) 16 (not_lt _ _ other)) (both (length (take (suc n) (c ∷ cs)) == suc n))
  where
    both : (b : Bool) → (if b && false then Some (number_from_digits_after 16 v (map digit_value (take (suc n) (c ∷ cs)))) else None) ≡ None
    both true = refl
    both false = refl

-- a value of more than 32 bits is no character
pub hex_after-great : (v n m : ℕ) (cs : List ℕ) → 2 ^ 32 ≤ v → option_and_then (escape_from m) (hex_after v n cs) ≡ None
hex_after-great v n m cs great = by ((length (take n cs) == n) && list_all (λ d. is_digit d 16) (take n cs))
  where
    no : (value : ℕ) (b : Bool) → 2 ^ 32 ≤ value → scalar value ≡ b → escape_from m value ≡ None
    no value false h e = rw e refl
    no value true h e = let fits = scalar_fits value e in absurd (omega arith)

    by : (b : Bool) → option_and_then (escape_from m) (if b then Some (number_from_digits_after 16 v (map digit_value (take n cs))) else None) ≡ None
    by true =
        let more = number_after_ge 16 v (map digit_value (take n cs)) (omega arith) in
        no (number_from_digits_after 16 v (map digit_value (take n cs))) (scalar (number_from_digits_after 16 v (map digit_value (take n cs)))) (omega arith) refl
    by false = refl

not_zero : (n : ℕ) → 0 < n → (n == 0) ≡ false
not_zero zero some = absurd (omega arith)
not_zero (suc n) some = eqb-suc-zero n

drop-less : (n c : ℕ) (cs : List ℕ) → 0 < n → drop (n - 1) cs ≡ drop n (c ∷ cs)
drop-less zero c cs some = absurd (omega arith)
drop-less (suc n) c cs some = let less : suc n - 1 ≡ n = omega arith in rw less refl

-- closing quotes
pub literal-closed : (quotes cs : List ℕ) → 0 < length cs → starts_with nat_eq cs quotes ≡ true → literal_behind quotes 0 cs ≡ closed [] (drop (length quotes) cs) 0
literal-closed quotes [] some e = absurd (omega arith)
literal-closed quotes (c ∷ cs) some e = rw e refl

-- a backslash
pub literal-escape : (quotes cs : List ℕ) → starts_with nat_eq cs quotes ≡ false → first cs ≡ 92 → literal_behind quotes 0 cs ≡ escape_seen quotes (drop 1 cs)
literal-escape quotes [] other e = absurd (omega arith)
literal-escape quotes (c ∷ cs) other e = rw (other, e) refl

-- a line end within one quote, and within three
pub literal-ended : (quotes cs : List ℕ) → 0 < length cs → starts_with nat_eq cs quotes ≡ false → (first cs == 92) ≡ false → 0 < line_end_length cs → length quotes ≡ 1 → literal_behind quotes 0 cs ≡ unclosed
literal-ended quotes [] some other plain end one = absurd (omega arith)
literal-ended quotes (c ∷ cs) some other plain end one = rw (other, plain, not_zero (line_end_length (c ∷ cs)) end, one) refl

pub literal-line_end : (quotes cs : List ℕ) → 0 < length cs → starts_with nat_eq cs quotes ≡ false → (first cs == 92) ≡ false → 0 < line_end_length cs → length quotes ≡ 3
    → literal_behind quotes 0 cs ≡ with_front (10 ∷ []) 1 (literal_behind quotes 0 (drop (line_end_length cs) cs))
literal-line_end quotes [] some other plain end three = absurd (omega arith)
literal-line_end quotes (c ∷ cs) some other plain end three =
    rw (other, plain, not_zero (line_end_length (c ∷ cs)) end, three) (ap (with_front (10 ∷ []) 1) (literal_behind-passed quotes (line_end_length (c ∷ cs) - 1) cs ∙ ap (literal_behind quotes 0) (drop-less (line_end_length (c ∷ cs)) c cs end)))

-- a character by itself
pub literal-letter : (quotes cs : List ℕ) → 0 < length cs → starts_with nat_eq cs quotes ≡ false → (first cs == 92) ≡ false → line_end_length cs ≡ 0 → literal_behind quotes 0 cs ≡ with_front (first cs ∷ []) 0 (literal_behind quotes 0 (drop 1 cs))
literal-letter quotes [] some other plain end = absurd (omega arith)
literal-letter quotes (c ∷ cs) some other plain end = rw (other, plain, end) refl

-- where the digits that are left give no character, there is no escape
pub numbered-stopped : (n v left : ℕ) (cs rest : List ℕ) → hex_after v left rest ≡ hex_after 0 n cs → option_and_then (escape_from n) (hex_after v left rest) ≡ None → numbered n cs ≡ None
numbered-stopped n v left cs rest so_far stops = numbered-hex_after n cs ∙ ap (option_and_then (escape_from n)) (sym so_far) ∙ stops

pub numbered-great : (n v left : ℕ) (cs rest : List ℕ) → hex_after v left rest ≡ hex_after 0 n cs → 0 < left → digit_value (first rest) < 16 → 2 ^ 32 ≤ v * 16 + digit_value (first rest) → numbered n cs ≡ None
numbered-great n v left cs rest so_far some digit great =
    numbered-stopped n v left cs rest so_far (ap (option_and_then (escape_from n)) (sym (hex_after-digit v left rest some digit)) ∙ hex_after-great (v * 16 + digit_value (first rest)) (left - 1) n (drop 1 rest) great)

-- where no digit is left, the value so far is the number of the character
pub numbered-ended : (n v : ℕ) (cs rest : List ℕ) → hex_after v 0 rest ≡ hex_after 0 n cs → numbered n cs ≡ escape_from n v
numbered-ended n v cs rest so_far = numbered-hex_after n cs ∙ ap (option_and_then (escape_from n)) (sym so_far)

pub escape-ended : (quotes cs : List ℕ) → length cs ≡ 0 → escape_seen quotes cs ≡ unclosed
escape-ended quotes [] none = refl
escape-ended quotes (c ∷ cs) none = absurd (omega arith)

pub escape-bad : (quotes cs : List ℕ) → 0 < length cs → line_end_length cs ≡ 0 → lookup (λ d. d == first cs) plain_escapes ≡ None → lookup (λ d. d == first cs) numbered_escapes ≡ None → escape_seen quotes cs ≡ bad_escape 0
escape-bad quotes [] some plain e f = absurd (omega arith)
escape-bad quotes (c ∷ cs) some plain e f = rw (eqb-suc-zero (length cs), plain, e, f) refl

pub escape-numbered : (quotes cs : List ℕ) (n : ℕ) → 0 < length cs → line_end_length cs ≡ 0 → lookup (λ d. d == first cs) plain_escapes ≡ None → lookup (λ d. d == first cs) numbered_escapes ≡ Some n
    → escape_seen quotes cs ≡ option_map_or (λ (e : Escape). with_front e.stands_for 0 (literal_behind quotes 0 (drop e.taken cs))) (numbered n (drop 1 cs)) (bad_escape 0)
escape-numbered quotes [] n some plain e f = absurd (omega arith)
escape-numbered quotes (c ∷ cs) n some plain e f = rw (eqb-suc-zero (length cs), plain, e, f) (by (numbered n cs))
  where
    by : (o : Option Escape) → option_map_or (λ (e : Escape). with_front e.stands_for 0 (literal_behind quotes e.taken (c ∷ cs))) o (bad_escape 0) ≡ option_map_or (λ (e : Escape). with_front e.stands_for 0 (literal_behind quotes 0 (drop e.taken (c ∷ cs)))) o (bad_escape 0)
    by None = refl
    by (Some e) = ap (with_front e.stands_for 0) (literal_behind-passed quotes e.taken (c ∷ cs))

-- behind the letter and so many digits
pub drop-suc : (n : ℕ) (cs : List ℕ) → drop (n + 1) cs ≡ drop n (drop 1 cs)
drop-suc n cs = let swapped : 1 + n ≡ n + 1 = omega arith in rw (← swapped) (sym (drop-drop n 1 cs))

-- a piece more
pub with_front-more : (value xs : List ℕ) (m n : ℕ) (before left whole : Reading) → with_front value m before ≡ whole → before ≡ with_front xs n left → with_front (value ++ xs) (m + n) left ≡ whole
with_front-more value xs m n before left whole so_far piece = sym (with_front-with_front value xs m n left) ∙ ap (with_front value m) (sym piece) ∙ so_far
