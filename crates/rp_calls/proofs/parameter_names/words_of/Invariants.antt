use Rattle.std.proofs.Common.{◌≡◌, ◌||◌, ℕ, List, drop}
use Rattle.rp_calls.specs.Binding.{is_plain}
use Rattle.rp_calls.specs.TableSteps.{has_word}
use Rattle.rp_calls.proofs.parameter_names.words_of.Given as goal

abbrev pub invariant-loop-parameter : goal.invariant-loop-parameter
invariant-loop-parameter l = (word : List ℕ) → (has_word l.words word || is_plain l.names (drop l.parameter-index l.plain) word) ≡ is_plain l.names l.plain word
