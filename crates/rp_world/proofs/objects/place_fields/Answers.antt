use Rattle.std.proofs.Common.{◌≡◌, get_or, ap, ◌∙◌}
use Rattle.rp_store.proofs.CallerLemmas.{KeepsShape-trans}
use Rattle.rp_world.proofs.Turns.{fields-turn, values-turn}
use Rattle.rp_world.proofs.objects.place_fields.Goals as goal

pub loop-name-preserved : goal.loop-name-preserved
loop-name-preserved c =
    let known = c.loop-name.invariant in
    let field = c.in_ok-value.ensures in
    let item = c.loop-name-item.result in
    record {
      placed = fields-turn c.loop-name.fields _ c.args.declared.now c.loop-name.name-index item c.loop-name.store _ c.in_ok-value.value _ c.loop-name-test.true c.loop-name-item.is field.placed c.in_ok-set.ensures.set known.placed;
      sound = values-turn c.loop-name.store.heap _ c.loop-name.fields _ item.0 c.in_ok-value.value field.shape known.sound field.sound c.in_ok-set.ensures.set;
      shape = KeepsShape-trans _ _ _ known.shape field.shape;
    }
