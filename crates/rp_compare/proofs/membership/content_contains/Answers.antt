use Rattle.rp_ops.specs.Outcome.{state_of}
use Rattle.rp_compare.proofs.membership.content_contains.Goals as goal

pub returns-in-Dict-clause-plain : goal.returns-in-Dict-clause-plain
returns-in-Dict-clause-plain c = rw c.in-Dict.is (c.has_key.ensures (state_of c.args.store.now c.args.meter.now.left))
