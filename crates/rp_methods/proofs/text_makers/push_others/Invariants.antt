use Rattle.std.proofs.Common.{◌≡◌, ◌++◌, drop, string_bytes}
use Rattle.rp_methods.proofs.Turns.{bytes_preceded}
use Rattle.rp_methods.proofs.text_makers.push_others.Given as goal

-- the bytes so far, and then those of what is left
abbrev pub invariant-loop-value : goal.invariant-loop-value
invariant-loop-value l =
    string_bytes l.all ++ bytes_preceded l.between (drop l.value-index l.others) ≡ string_bytes l.initial.all ++ bytes_preceded l.between l.others
