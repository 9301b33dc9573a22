use Rattle.std.proofs.Common.{◌≡◌, ◌++◌, drop}
use Rattle.std.specs.Option.{option_copied, option_to_list}
use Rattle.rp_calls.specs.Binding.{given, sole}
use Rattle.std.specs.Str.{chars}
use Rattle.rp_calls.proofs.parameters.sole.Given as goal

abbrev pub invariant-loop-name : goal.invariant-loop-name
invariant-loop-name l =
    sole (option_to_list (option_copied l.found) ++ given (drop l.name-index l.named) (chars l.word)) (option_copied l.default)
    ≡ sole (option_to_list (option_copied l.fn.first) ++ given l.named (chars l.word)) (option_copied l.fn.default)
