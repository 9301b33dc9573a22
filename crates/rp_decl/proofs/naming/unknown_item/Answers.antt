use Rattle.std.proofs.Common.{◌≡◌, [], ◌∷◌, get_or, arith, sym, ◌∙◌}
use Rattle.std.proofs.lemmas.Grind.{common_steps}
use Rattle.toml.specs.View.{view}
use Rattle.toml.proofs.Views.{items_view-drop}
use Rattle.rp_decl.specs.Document.{text_of}
use Rattle.rp_decl.proofs.Unknown.{unknown-step}
use Rattle.rp_decl.proofs.naming.unknown_item.Goals as goal

pub loop-item-preserved : goal.loop-item-preserved
loop-item-preserved c =
    let same = c.loop-item.invariant in
    let xs = c.deref-item-items.result.now in
    let i = c.loop-item.item-index in
    let item = c.item-item.result in
    let at : get_or xs i item ≡ item = grind (arith, common_steps) in
    let step = items_view-drop xs i item c.loop-item-test.true in
    let here = rw c.str_of.ensures at c.in_ok-fault.ensures in
    rw (c.lesser_of-least.ensures, here) (sym (unknown-step c.loop-item.least c.args.known.now (text_of (view item) ∷ []) _) ∙ rw (step, at) at same)
