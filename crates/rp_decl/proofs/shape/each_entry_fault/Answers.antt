use Rattle.std.proofs.Common.{◌≡◌, ◌∷◌, arith, sym, refl, ◌∙◌, string_bytes}
use Rattle.std.proofs.lemmas.Grind.{common_steps}
use Rattle.toml.specs.View.{view}
use Rattle.toml.proofs.Views.{Entry}
use Rattle.rp_decl.specs.Order.{least}
use Rattle.rp_decl.specs.Path.{path_of}
use Rattle.rp_decl.specs.Shape.{entry_member}
use Rattle.rp_decl.proofs.Orders.{least-step}
use Rattle.rp_decl.proofs.Paths.{path_of-Within}
use Rattle.rp_decl.proofs.shape.each_entry_fault.Goals as goal

pub loop-key-preserved : goal.loop-key-preserved
loop-key-preserved g c =
    let same = c.loop-key.invariant in
    let faults = entry_member (g.E.Entry.admits c.args.entry.now) (g.E.Entry.faults c.args.entry.now) (path_of c.args.path.now) in
    let e : Entry = (c.in-Some.key.now, c.in-Some.value.now) in
    let iter : c.loop-key.key-iterator ≡ e ∷ c.next.new.self = grind (arith, common_steps) in
    let here : c.in_ok-fault.fault ≡ least (faults (string_bytes e.0) (view e.1)) =
    c.in_ok-fault.ensures ∙ rw (path_of-Within _ _, c.as_str.ensures.value, c.as_str-in-loop-key.ensures.value) refl in
    rw (c.lesser_of-least.ensures, here) (sym (least-step c.loop-key.least _ _) ∙ rw iter at same)
