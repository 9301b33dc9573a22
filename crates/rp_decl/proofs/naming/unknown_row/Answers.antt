use Rattle.std.proofs.Common.{◌≡◌, [], ◌∷◌, arith, sym, ◌∙◌}
use Rattle.std.proofs.lemmas.Grind.{common_steps}
use Rattle.toml.specs.View.{view}
use Rattle.toml.proofs.Views.{Entry}
use Rattle.rp_decl.specs.Document.{text_of}
use Rattle.rp_decl.proofs.Unknown.{unknown-step}
use Rattle.rp_decl.proofs.naming.unknown_row.Goals as goal

pub loop-name-preserved : goal.loop-name-preserved
loop-name-preserved c =
    let same = c.loop-name.invariant in
    let e : Entry = (c.in-Some._name.now, c.in-Some.permission.now) in
    let iter : c.loop-name._name-iterator ≡ e ∷ c.next.new.self = grind (arith, common_steps) in
    let here = rw c.str_of.ensures at c.in_ok-fault.ensures in
    rw (c.lesser_of-least.ensures, here) (sym (unknown-step c.loop-name.least c.args.known.now (text_of (view e.1) ∷ []) _) ∙ rw iter at same)
