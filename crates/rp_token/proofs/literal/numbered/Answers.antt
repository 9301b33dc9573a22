use Rattle.std.proofs.Common.{◌≡◌, ◌∙◌, ◌<◌, ◌+◌, ◌-◌, ◌*◌, sym, ap, refl, rules, arith, chars, drop, option_and_then}
use Rattle.std.specs.Char.{digit_value}
use Rattle.rp_token.specs.Characters.{first}
use Rattle.rp_token.proofs.Numbers.{not_lt}
use Rattle.rp_token.proofs.Literals.{drop-suc, escape_from, hex_after-digit, hex_after-none, numbered-great, numbered-stopped}
use Rattle.rp_token.proofs.literal.numbered.Goals as goal

pub returns-in_err-digit-clause-meaning : goal.returns-in_err-digit-clause-meaning
returns-in_err-digit-clause-meaning c =
    let none = hex_after-none c.digits.value c.digits.left (chars c.digits.rest.now) (search rules) (rw c.first.ensures at c.in_err-digit.ensures.value) in
    rw c.from_residual.ensures (numbered-stopped c.args.count c.digits.value c.digits.left (chars c.args.text.now) (chars c.digits.rest.now) c.digits.invariant.value (ap (option_and_then (escape_from c.args.count)) none))

pub returns-in_err-checked_mul-clause-meaning : goal.returns-in_err-checked_mul-clause-meaning
returns-in_err-checked_mul-clause-meaning c =
    let digit : digit_value (first (chars c.digits.rest.now)) < 16 = rw c.first.ensures at c.in_ok-digit.ensures.value.0 in
    let over = not_lt _ _ c.in_err-checked_mul.ensures in
    rw c.from_residual-in_err-checked_mul.ensures (numbered-great c.args.count c.digits.value c.digits.left (chars c.args.text.now) (chars c.digits.rest.now) c.digits.invariant.value (search rules) digit (omega arith))

pub returns-in_err-value-clause-meaning : goal.returns-in_err-value-clause-meaning
returns-in_err-value-clause-meaning c =
    let digit : digit_value (first (chars c.digits.rest.now)) < 16 = rw c.first.ensures at c.in_ok-digit.ensures.value.0 in
    let over = not_lt _ _ (rw (c.in_ok-checked_mul.ensures.1, c.in_ok-digit.ensures.value.1, c.first.ensures) at c.in_err-value.ensures) in
    rw c.from_residual-in_err-value.ensures (numbered-great c.args.count c.digits.value c.digits.left (chars c.args.text.now) (chars c.digits.rest.now) c.digits.invariant.value (search rules) digit over)

pub digits-preserved : goal.digits-preserved
digits-preserved c =
    let digit : digit_value (first (chars c.digits.rest.now)) < 16 = rw c.first.ensures at c.in_ok-digit.ensures.value.0 in
    let value : c.in_ok-value.value ≡ c.digits.value * 16 + digit_value (first (chars c.digits.rest.now)) =
    c.in_ok-value.ensures.1 ∙ rw (c.in_ok-checked_mul.ensures.1, c.in_ok-digit.ensures.value.1, c.first.ensures) refl in
    let more : (c.digits.left - 1) + 1 ≡ c.digits.left = omega arith in
    record {
      is_text = c.behind-rest.utf8;
      value = rw (value, c.behind-rest.ensures) (hex_after-digit c.digits.value c.digits.left (chars c.digits.rest.now) (search rules) digit ∙ c.digits.invariant.value);
      rest = rw c.behind-rest.ensures (sym (drop-suc (c.digits.left - 1) (chars c.digits.rest.now)) ∙ ap (λ n. drop n (chars c.digits.rest.now)) more ∙ c.digits.invariant.rest);
    }
