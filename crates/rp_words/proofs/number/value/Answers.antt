use Rattle.std.proofs.Common.{◌≡◌, ◌<◌, ◌^◌, ℕ, Ok, Result, arith, ap, length, ◌∙◌}
use Rattle.std.specs.Result.{result_unwrap_or}
use Rattle.std.proofs.lemmas.Bool.{ltb-true}
use Rattle.std.specs.Str.Parse.{digits_value}
use Rattle.std.proofs.lemmas.Str.Parse.{parse_gives, digits_value_short}
use Rattle.rp_words.proofs.Digits.{AreDigits, AreDigits-from_tests, own}
use Rattle.rp_words.proofs.number.value.Goals as goal

pub returns : goal.returns
returns c =
    let digits = c.args.digits.now in
    let are : AreDigits digits = AreDigits-from_tests digits c.requires.ascii in
    let small : digits_value 10 digits < 10 ^ 9 = digits_value_short own digits 9 are c.requires.short in
    let given : c.parse.result ≡ Ok (digits_value 10 digits) =
    parse_gives own 32 digits _ c.parse.ensures.value.0 are (ltb-true 0 (length digits) c.requires.some)
    (omega (arith, small)) in
    c.unwrap_or.ensures ∙ ap (λ (r : Result ℕ _). result_unwrap_or r 0) given
