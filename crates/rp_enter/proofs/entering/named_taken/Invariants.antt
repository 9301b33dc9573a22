use Rattle.std.proofs.Common.{◌≡◌, map, take}
use Rattle.rp_enter.specs.Entering.{AreNamedSound}
use Rattle.rp_proxy.specs.Taken.{taken}
use Rattle.rp_enter.proofs.entering.named_taken.Given as goal

abbrev pub invariant-loop-argument : goal.invariant-loop-argument
invariant-loop-argument l =
    (l.all.items ≡ map (λ n. (n.0, taken l.world.store.heap l.side n.1)) (take l.argument-index l.named)) × AreNamedSound l.world.store.heap l.all.items
