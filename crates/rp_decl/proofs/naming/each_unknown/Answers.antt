use Rattle.std.proofs.Common.{◌≡◌, ◌∷◌, arith, sym, ◌∙◌}
use Rattle.std.proofs.lemmas.Grind.{common_steps}
use Rattle.toml.specs.View.{view}
use Rattle.toml.proofs.Views.{Entry}
use Rattle.rp_decl.proofs.Unknown.{unknown-step}
use Rattle.rp_decl.proofs.naming.each_unknown.Goals as goal

pub loop-key-preserved : goal.loop-key-preserved
loop-key-preserved g c =
    let same = c.loop-key.invariant in
    let e : Entry = (c.in-Some._key.now, c.in-Some.value.now) in
    let iter : c.loop-key._key-iterator ≡ e ∷ c.next.new.self = grind (arith, common_steps) in
    rw (c.lesser_of-least.ensures, c.in_ok-fault.ensures) (sym (unknown-step c.loop-key.least c.args.known.now (g.N.Naming.named c.args.naming.now (view e.1)) _) ∙ rw iter at same)
