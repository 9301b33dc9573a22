use Rattle.std.proofs.Common.{◌≡◌, drop}
use Rattle.rp_policy.specs.CollectionSteps.{with_names}
use Rattle.rp_policy.proofs.collector.Collector.bind_all.Given as goal

abbrev pub invariant-names : goal.invariant-names
invariant-names l = with_names (drop l.named-index l.names) l.self ≡ with_names l.names l.initial.self
