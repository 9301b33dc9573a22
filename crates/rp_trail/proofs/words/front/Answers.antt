use Rattle.std.proofs.Common.{◌≡◌, ◌<◌, ◌^◌, ◌∷◌, ◌++◌, append_assoc, arith, rules, string_bytes}
use Rattle.std.specs.Fmt.{decimal}
use Rattle.rp_trail.proofs.Fronts.{chars_front}
use Rattle.rp_trail.proofs.words.front.Goals as goal

pub returns : goal.returns
returns c =
    let bytes : string_bytes c.in_ok-format.field-0 ≡ (decimal c.args.number ++ 32 ∷ decimal c.args.session) ++ 32 ∷ c.args.who.now = search (rules, append_assoc) in
    let small : c.args.number < 2 ^ 64 = search rules in
    let few : c.args.session < 2 ^ 64 = omega (arith, c.ranges.session) in
    rw bytes (chars_front c.args.number c.args.session c.args.who.now small few)
