use Rattle.std.proofs.Common.{◌∙◌}
use Rattle.std.specs.Str.{chars}
use Rattle.std.proofs.lemmas.Str.{chars-nil}
use Rattle.rp_more.proofs.empty_text.EmptyText.new.Goals as goal

pub invariant_of-result : goal.invariant_of-result
unfolding chars
invariant_of-result c = record { is_empty = c.in_ok-text.ensures ∙ chars-nil }
