use Rattle.std.proofs.Common.{take}
use Rattle.rp_codes.specs.CodeSteps.{Adds}
use Rattle.rp_codes.proofs.Lists.{flat, places_one}
use Rattle.rp_codes.proofs.stmt_codes.add_places.Given as goal

abbrev pub invariant-places : goal.invariant-places
invariant-places l = Adds (flat places_one (take l.place-index l.places)) l.initial.codes l.codes
