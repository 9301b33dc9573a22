use Rattle.std.proofs.Common.{◌≡◌, drop}
use Rattle.rp_engine.proofs.machine.Machine.forget.Given as goal

abbrev pub invariant-loop : goal.invariant-loop
invariant-loop l = l.self ≡ record l.initial.self { values = drop l.counter l.initial.self.values }
