use Rattle.std.proofs.Common.{◌≡◌, get_or, ap, ◌∙◌}
use Rattle.rp_store.proofs.CallerLemmas.{KeepsShape-trans}
use Rattle.rp_world.proofs.Turns.{bound-turn, objects-turn}
use Rattle.rp_world.proofs.objects.place_objects.Goals as goal

pub loop-object-preserved : goal.loop-object-preserved
loop-object-preserved c =
    let known = c.loop-object.invariant in
    let object = c.in_ok-value.ensures in
    let pushed = c.in_ok-push.ensures.items in
    record {
      placed = objects-turn c.args.decl.now.classes c.loop-object.slots.items _ c.objects-object-items.result.now c.loop-object.object-index c.object-item.result c.loop-object.store _ c.in_ok-value.value _ c.loop-object-test.true c.object-item.is object.placed pushed known.placed;
      bound = bound-turn c.loop-object.store.heap _ c.loop-object.slots.items _ c.in_ok-value.value object.shape known.bound object.sound pushed;
      shape = KeepsShape-trans _ _ _ known.shape object.shape;
    }
