use Rattle.std.proofs.Common.{◌≡◌, get_or, arith}
use Rattle.std.proofs.lemmas.Grind.{common_steps}
use Rattle.toml.proofs.Views.{items_view-drop}
use Rattle.rp_decl.proofs.Growth.{GrowsTo-trans, Shows-push}
use Rattle.rp_decl.proofs.reading.each_name.Goals as goal

pub loop-item-preserved : goal.loop-item-preserved
loop-item-preserved c =
    let same = c.loop-item.invariant in
    let xs = c.deref-item-items.result.now in
    let i = c.loop-item.item-index in
    let item = c.item-item.result in
    let at : get_or xs i item ≡ item = grind (arith, common_steps) in
    let step = items_view-drop xs i item c.loop-item-test.true in
    let known = rw (step, at) at same.left_known in
    let here = rw c.str_of.ensures at c.in_ok-name.ensures.name in
    record {
      left_known = known.1;
      shown = λ later grown.
          rw c.in_ok-push.ensures.items
          (Shows-push _ _ _ _ _ _ (rw (step, at) at (same.shown later (GrowsTo-trans _ _ _ c.in_ok-name.ensures.grown grown))) (here later grown));
      grown = GrowsTo-trans _ _ _ same.grown c.in_ok-name.ensures.grown;
      interned = rw (c.in_ok-name.ensures.interned, c.str_of.ensures) (rw (step, at) at same.interned);
    }
