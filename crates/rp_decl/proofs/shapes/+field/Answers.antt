use Rattle.std.proofs.Common.{◌≡◌, ◌∷◌, get_or, arith, sym, refl, ◌∙◌, string_bytes}
use Rattle.std.proofs.lemmas.Grind.{common_steps}
use Rattle.toml.specs.View.{view}
use Rattle.toml.proofs.Views.{Entry, items_view-drop}
use Rattle.rp_decl.specs.Order.{least}
use Rattle.rp_decl.specs.Path.{path_of}
use Rattle.rp_decl.specs.Shape.{field_value, within}
use Rattle.rp_decl.proofs.Orders.{least-step}
use Rattle.rp_decl.proofs.Paths.{path_of-Within}
use Rattle.rp_decl.proofs.shapes.+field.Goals as goal

pub field_items_fault-loop-item-preserved : goal.field_items_fault-loop-item-preserved
field_items_fault-loop-item-preserved t c =
    let same = c.loop-item.invariant in
    let xs = c.deref-item-items.result.now in
    let i = c.loop-item.item-index in
    let item = c.item-item.result in
    let at : get_or xs i item ≡ item = grind (arith, common_steps) in
    let step = items_view-drop xs i item c.loop-item-test.true in
    rw (c.lesser_of-least.ensures, c.in_ok-fault.ensures) (sym (least-step c.loop-item.least _ _) ∙ rw (step, at) at same)

pub field_members_fault-loop-key-preserved : goal.field_members_fault-loop-key-preserved
field_members_fault-loop-key-preserved t c =
    let same = c.loop-key.invariant in
    let e : Entry = (c.in-Some.key.now, c.in-Some.value.now) in
    let iter : c.loop-key.key-iterator ≡ e ∷ c.next.new.self = grind (arith, common_steps) in
    let here : c.in_ok-fault.fault ≡ least (field_value c.args.levels (within (path_of c.args.path.now) (string_bytes e.0)) (view e.1)) =
    c.in_ok-fault.ensures ∙ rw (path_of-Within _ _, c.as_str.ensures.value) refl in
    rw (c.lesser_of-least.ensures, here) (sym (least-step c.loop-key.least _ _) ∙ rw iter at same)
