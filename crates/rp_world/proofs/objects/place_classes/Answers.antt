use Rattle.rp_store.proofs.CallerLemmas.{KeepsShape-trans}
use Rattle.rp_world.proofs.Turns.{bound-turn, classes-turn}
use Rattle.rp_world.proofs.objects.place_classes.Goals as goal

pub loop-class-preserved : goal.loop-class-preserved
loop-class-preserved c =
    let known = c.loop-class.invariant in
    let class = c.in_ok-value.ensures in
    let pushed = c.in_ok-push.ensures.items in
    record {
      placed = classes-turn c.loop-class.slots.items _ c.args.classes.now c.loop-class.class-index c.class-item.result c.loop-class.store _ c.in_ok-value.value _ c.loop-class-test.true c.class-item.is class.placed pushed known.placed;
      bound = bound-turn c.loop-class.store.heap _ c.loop-class.slots.items _ c.in_ok-value.value class.shape known.bound class.sound pushed;
      shape = KeepsShape-trans _ _ _ known.shape class.shape;
    }
