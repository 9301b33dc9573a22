use Rattle.std.proofs.Common.{◌≡◌, ◌<◌, ◌^◌, ◌∙◌, arith}
use Rattle.std.proofs.lemmas.Fmt.{IsAscii-decimal}
use Rattle.std.proofs.lemmas.Str.{chars-IsAscii}
use Rattle.std.specs.Fmt.{decimal}
use Rattle.rp_run.proofs.answer.add_number.Goals as goal

pub returns : goal.returns
returns c =
    let digits : c.as_str.result.now ≡ decimal c.args.number = c.as_str.ensures.value ∙ c.in_ok-digits.ensures.ok in
    let small : c.args.number < 2 ^ 64 = omega arith in
    rw (digits, chars-IsAscii (decimal c.args.number) (IsAscii-decimal c.args.number small)) at c.add.ensures.added
