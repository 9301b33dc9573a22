use Rattle.std.proofs.Common.{◌≡◌, ◌++◌, OnOk, ap, ◌∙◌, subst, List, ℕ}
use Rattle.std.specs.Fmt.{signed_decimal}
use Rattle.std.specs.Int.{w64}
use Rattle.std.proofs.lemmas.Int.{to_z-of_z}
use Rattle.std.proofs.lemmas.Str.{chars-IsAscii}
use Rattle.rp_show.proofs.rock_texts.Line.add_number.Goals as goal

-- the digits and the sign are their own bytes
pub returns : goal.returns
returns c =
    subst (λ (t : List ℕ). OnOk c.add.result (c.add.new.self ≡ c.args.self.now ++ t))
    (chars-IsAscii c.format.result.now c.format.ensures.ascii ∙ c.format.ensures.text ∙ ap signed_decimal (to_z-of_z w64 c.args.n c.ranges.n))
    c.add.ensures
