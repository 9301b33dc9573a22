use Rattle.std.proofs.Common.{chars, ap, ◌∙◌}
use Rattle.rp_show.proofs.Escapes.{chars-native}
use Rattle.rp_show.proofs.object_names.callee_word.Goals as goal

pub returns-in-Native : goal.returns-in-Native
returns-in-Native c = rw c.in-Native.is (ap chars c.as_str.ensures ∙ chars-native c.in-Native.native)
