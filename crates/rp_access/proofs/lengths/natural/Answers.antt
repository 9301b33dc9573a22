use Rattle.std.proofs.Common.{Some, ap, ◌∙◌, arith}
use Rattle.std.specs.Int.{w64}
use Rattle.std.proofs.lemmas.Int.{ints, to_z-of_z}
use Rattle.rp_access.proofs.LengthCalls.{natural_below, natural_from}
use Rattle.rp_access.proofs.lengths.natural.Goals as goal

pub returns-then-number-lt0 : goal.returns-then-number-lt0
returns-then-number-lt0 c = natural_below c.args.number (omega (arith, ints))

pub returns : goal.returns
returns c = ap Some (to_z-of_z w64 c.args.number c.ranges.number) ∙ natural_from c.args.number (omega (arith, ints))
