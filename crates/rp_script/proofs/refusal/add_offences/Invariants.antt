use Rattle.std.proofs.Common.{◌≡◌, ◌++◌, chars, take}
use Rattle.std.specs.List.{flat_map}
use Rattle.rp_script.specs.Refusal.{offence_line}
use Rattle.rp_script.proofs.refusal.add_offences.Given as goal

abbrev pub invariant-loop-offence : goal.invariant-loop-offence
invariant-loop-offence l = l.text ≡ l.initial.text ++ flat_map (offence_line l.names (chars l.prefix)) (take l.offence-index l.found)
