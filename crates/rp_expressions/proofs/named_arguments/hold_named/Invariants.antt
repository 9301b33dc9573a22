use Rattle.std.proofs.Common.{◌≡◌, length}
use Rattle.std.specs.Prelude.{All}
use Rattle.std.specs.Vec.Iter.{into_iter_items, into_iter_len}
use Rattle.rp_proxy.specs.declared.world.World.{World}
use Rattle.rp_store.specs.Kept.{IsFit}
use Rattle.rp_engine.specs.ArgumentSteps.{with_all_named}
use Rattle.rp_engine.specs.Ready.{IsReady}
use Rattle.rp_expressions.proofs.named_arguments.hold_named.Given as goal

-- those that are left, put upon what is held, are all of them, put upon what was held before
abbrev pub invariant-loop-word : goal.invariant-loop-word
invariant-loop-word l =
    (into_iter_len l.word-iterator ≡ length (into_iter_items l.word-iterator))
    × (l.machine ≡ record l.initial.machine { values = l.machine.values })
    × (with_all_named (into_iter_items l.word-iterator) l.machine.values ≡ with_all_named (into_iter_items l.initial.word-iterator) l.initial.machine.values)
    × ((w : World) → IsReady l.initial.machine.units.now l.initial.machine.frame l.initial.machine.values w
    → All (λ n. IsFit w.store.heap l.initial.machine.frame.side n.1) (into_iter_items l.initial.word-iterator)
    → IsReady l.machine.units.now l.machine.frame l.machine.values w × All (λ n. IsFit w.store.heap l.initial.machine.frame.side n.1) (into_iter_items l.word-iterator))
