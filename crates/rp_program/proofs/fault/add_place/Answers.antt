use Rattle.std.proofs.Common.{◌≡◌, ◌<◌, ◌^◌, ◌∙◌, codes, arith, refl, append_assoc}
use Rattle.std.specs.Str.{IsAscii}
use Rattle.std.proofs.lemmas.Fmt.{IsAscii-decimal}
use Rattle.std.proofs.lemmas.Str.{IsAscii-append, chars-IsAscii}
use Rattle.rp_base.proofs.CallerLemmas.{IsAscii-tested}
use Rattle.rp_program.specs.Fault.{at_place}
use Rattle.rp_program.proofs.fault.add_place.Goals as goal

pub returns : goal.returns
returns c =
    let unit = c.args.unit.now in
    let number = c.args.number in
    let wrong = c.args.fault.now in
    let small : number < 2 ^ 64 = omega arith in
    let ascii : IsAscii (at_place unit number wrong) =
    IsAscii-append _ _ (IsAscii-append _ _ (IsAscii-append _ _ (IsAscii-append _ _ (IsAscii-tested unit c.requires.unit) (IsAscii-tested (codes " ") refl))
    (IsAscii-decimal number small)) (IsAscii-tested (codes ": ") refl)) (IsAscii-tested wrong c.requires.fault) in
    let words : c.as_str.result.now ≡ at_place unit number wrong = simp append_assoc (c.as_str.ensures.value ∙ c.in_ok-words.ensures.ok) in
    rw (words, chars-IsAscii (at_place unit number wrong) ascii) at c.add.ensures.added
