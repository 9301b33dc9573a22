use Rattle.std.proofs.Common.{◌≡◌, ◌∙◌, ◌<◌, ◌≤◌, ◌+◌, ◌*◌, refl, ap, chars, length, rules, arith, Some, option_and_then, nat_le, true, false, ◌==◌}
use Rattle.std.specs.Char.{digit_value}
use Rattle.std.proofs.lemmas.List.{length-drop}
use Rattle.std.proofs.lemmas.Bool.{le-leb, lt-leb}
use Rattle.std.proofs.lemmas.Int.{to_z_pos}
use mir.Syntax.{w64}
use Rattle.rp_token.specs.Characters.{first}
use Rattle.rp_token.specs.Number.{limited, greatest_number}
use Rattle.rp_token.proofs.Texts.{no_chars}
use Rattle.rp_token.proofs.Numbers.{limited-ended, limited-stopped, not_lt, turn-digit, turn-great, turn-none, some_digit, value_in-none, behind-le}
use Rattle.rp_base.proofs.CallerLemmas.{some_chars}
use Rattle.rp_token.proofs.number.value_in.Goals as goal

pub returns-then-is_empty : goal.returns-then-is_empty
returns-then-is_empty c = rw (value_in-none c.args.base (chars c.args.digits.now) (no_chars c.args.digits.now (search rules))) refl

pub digits-preserved : goal.digits-preserved
digits-preserved c =
    let some : 0 < length c.digits.rest.now = search rules in
    let place = chars c.behind_underscore-place.result.now in
    let digit : digit_value (first place) < c.args.base = rw c.first.ensures at c.in_ok-digit.ensures.value.0 in
    let turn = turn-digit c.args.base c.digits.value (chars c.digits.rest.now) place c.requires.high (some_chars c.digits.rest.now c.digits.invariant.0 some) c.behind_underscore-place.ensures digit in
    let value : c.in_ok-value.value ≡ c.digits.value * c.args.base + digit_value (first place) =
    c.in_ok-value.ensures.1 ∙ rw (c.in_ok-checked_mul.ensures.1, c.from.ensures, c.from-in-digits.ensures, c.in_ok-digit.ensures.value.1, c.first.ensures) refl in
    (c.behind-rest.utf8, rw (value, c.behind-rest.ensures) (ap (option_and_then limited) turn ∙ c.digits.invariant.1))

pub digits-smaller : goal.digits-smaller
digits-smaller c =
    let some : 0 < length c.digits.rest.now = search rules in
    let letters = some_chars c.digits.rest.now c.digits.invariant.0 some in
    let place : length (chars c.behind_underscore-place.result.now) ≤ length (chars c.digits.rest.now) = rw c.behind_underscore-place.ensures (behind-le (first (chars c.digits.rest.now) == 95) (chars c.digits.rest.now)) in
    let digit : digit_value (first (chars c.behind_underscore-place.result.now)) < c.args.base = rw c.first.ensures at c.in_ok-digit.ensures.value.0 in
    let found = some_digit c.args.base (chars c.behind_underscore-place.result.now) c.requires.high digit in
    let less = ap length c.behind-rest.ensures ∙ length-drop 1 (chars c.behind_underscore-place.result.now) in
    omega arith

pub returns-in_err-digit : goal.returns-in_err-digit
returns-in_err-digit c =
    let some : 0 < length c.digits.rest.now = search rules in
    let word : 0 < length c.args.digits.now = search rules in
    let none = turn-none c.args.base c.digits.value (chars c.digits.rest.now) (chars c.behind_underscore-place.result.now) c.requires.high
    (some_chars c.digits.rest.now c.digits.invariant.0 some) c.behind_underscore-place.ensures (rw c.first.ensures at c.in_err-digit.ensures.value) in
    let stopped = limited-stopped c.args.base c.digits.value (chars c.args.digits.now) (chars c.digits.rest.now) (some_chars c.args.digits.now c.utf8.digits word) c.digits.invariant.1 (ap (option_and_then limited) none) in
    rw (c.from_residual.ensures, stopped) refl

pub returns-in_err-checked_mul : goal.returns-in_err-checked_mul
returns-in_err-checked_mul c =
    let some : 0 < length c.digits.rest.now = search rules in
    let word : 0 < length c.args.digits.now = search rules in
    let place = chars c.behind_underscore-place.result.now in
    let digit : digit_value (first place) < c.args.base = rw c.first.ensures at c.in_ok-digit.ensures.value.0 in
    let over = not_lt _ _ (rw c.from.ensures at c.in_err-checked_mul.ensures) in
    let great = turn-great c.args.base c.digits.value (chars c.digits.rest.now) place c.requires.high
    (some_chars c.digits.rest.now c.digits.invariant.0 some) c.behind_underscore-place.ensures digit (omega arith) in
    let stopped = limited-stopped c.args.base c.digits.value (chars c.args.digits.now) (chars c.digits.rest.now) (some_chars c.args.digits.now c.utf8.digits word) c.digits.invariant.1 great in
    rw (c.from_residual-in_err-checked_mul.ensures, stopped) refl

pub returns-in_err-value : goal.returns-in_err-value
returns-in_err-value c =
    let some : 0 < length c.digits.rest.now = search rules in
    let word : 0 < length c.args.digits.now = search rules in
    let place = chars c.behind_underscore-place.result.now in
    let digit : digit_value (first place) < c.args.base = rw c.first.ensures at c.in_ok-digit.ensures.value.0 in
    let over = not_lt _ _ (rw (c.in_ok-checked_mul.ensures.1, c.from.ensures, c.from-in-digits.ensures, c.in_ok-digit.ensures.value.1, c.first.ensures) at c.in_err-value.ensures) in
    let great = turn-great c.args.base c.digits.value (chars c.digits.rest.now) place c.requires.high
    (some_chars c.digits.rest.now c.digits.invariant.0 some) c.behind_underscore-place.ensures digit (omega arith) in
    let stopped = limited-stopped c.args.base c.digits.value (chars c.args.digits.now) (chars c.digits.rest.now) (some_chars c.args.digits.now c.utf8.digits word) c.digits.invariant.1 great in
    rw (c.from_residual-in_err-value.ensures, stopped) refl

pub returns-then-value-le-GREATEST : goal.returns-then-value-le-GREATEST
returns-then-value-le-GREATEST c =
    let word : 0 < length c.args.digits.now = search rules in
    let none : length c.digits.rest.now ≡ 0 = search rules in
    let fits : nat_le c.digits.value greatest_number ≡ true = le-leb _ _ (search rules) in
    rw (limited-ended c.args.base c.digits.value (chars c.args.digits.now) (chars c.digits.rest.now) (some_chars c.args.digits.now c.utf8.digits word) (no_chars c.digits.rest.now none) c.digits.invariant.1, fits) (ap Some (to_z_pos w64 c.digits.value (omega arith)))

pub returns-else-value-le-GREATEST : goal.returns-else-value-le-GREATEST
returns-else-value-le-GREATEST c =
    let word : 0 < length c.args.digits.now = search rules in
    let none : length c.digits.rest.now ≡ 0 = search rules in
    let over : nat_le c.digits.value greatest_number ≡ false = lt-leb _ _ (search rules) in
    rw (limited-ended c.args.base c.digits.value (chars c.args.digits.now) (chars c.digits.rest.now) (some_chars c.args.digits.now c.utf8.digits word) (no_chars c.digits.rest.now none) c.digits.invariant.1, over) refl
