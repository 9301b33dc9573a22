use Rattle.rp_proxy.specs.Faithful.{IsFaithful}
use Rattle.rp_proxy.specs.Held.{IsValueHeld}
use Rattle.rp_tests_proxies.proofs.crossing_answers.ends_of.Given as goal

abbrev pub invariant-loop : goal.invariant-loop
invariant-loop l = IsFaithful l.world × IsValueHeld l.world.store.heap l.value
