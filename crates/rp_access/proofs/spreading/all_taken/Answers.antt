use Rattle.std.proofs.Common.{arith, subst, sym}
use Rattle.rp_access.proofs.Spreadings.{sound_at, taken_next}
use Rattle.std.proofs.lemmas.List.Elements.{All-push}
use Rattle.rp_store.specs.Kept.{AreFit, IsFit}
use Rattle.rp_access.proofs.spreading.all_taken.Goals as goal

pub taken-requires : goal.taken-requires
taken-requires c =
    let heap = c.args.world.now.store.heap in
    sound_at heap c.args.values.now c.loop-value.value-index c.value-item.result c.in_ok-copy.field-0 c.value-item.is (omega arith) c.in_ok-copy.ensures c.requires

pub loop-value-preserved : goal.loop-value-preserved
loop-value-preserved c =
    let heap = c.args.world.now.store.heap in (
      taken_next heap c.args.side c.args.values.now c.loop-value.value-index c.value-item.result c.in_ok-copy.field-0 c.taken.result c.loop-value.all.items c.push.new.self.items
          (omega arith) c.value-item.is c.in_ok-push.ensures.items c.in_ok-copy.ensures c.taken.ensures.value c.loop-value.invariant.0,
      subst (AreFit heap c.args.side) (sym c.in_ok-push.ensures.items)
          (All-push (IsFit heap c.args.side) c.loop-value.all.items c.taken.result c.loop-value.invariant.1 c.taken.ensures.fit),
    )
