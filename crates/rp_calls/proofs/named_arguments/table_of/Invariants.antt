use Rattle.std.proofs.Common.{◌≡◌, ℕ, List, None, drop}
use Rattle.rp_calls.specs.Binding.{given}
use Rattle.rp_calls.specs.TableSteps.{at_word, noted}
use Rattle.rp_calls.proofs.named_arguments.table_of.Given as goal

abbrev pub invariant-loop-name : goal.invariant-loop-name
invariant-loop-name l = (word : List ℕ) → noted (at_word l.table word) (given (drop l.name-index l.list) word) ≡ noted None (given l.list word)
