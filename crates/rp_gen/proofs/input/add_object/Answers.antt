use Rattle.std.proofs.Common.{append_assoc, rules}
use Rattle.rp_gen.proofs.input.add_object.Goals as goal

pub returns : goal.returns
returns c = search (rules, append_assoc)
