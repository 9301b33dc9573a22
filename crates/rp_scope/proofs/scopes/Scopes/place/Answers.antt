use Rattle.std.proofs.Common.{◌≡◌, ◌+◌, ◌-◌, length, Some, None, ap, sym, ◌∙◌, arith, rules}
use Rattle.std.proofs.lemmas.Grind.{common_steps}
use Rattle.rp_scope.specs.Scopes.{found, block_at, scope_place}
use Rattle.rp_scope.proofs.Finds.{found_next}
use Rattle.rp_scope.proofs.scopes.Scopes.place.Goals as goal

pub blocks-2-preserved : goal.blocks-2-preserved
blocks-2-preserved c =
    let at : block_at c.args.self.now c.blocks-2.number ≡ Some c.in-Some.layout.now = first_of (search rules, grind arith, grind (arith, common_steps)) in
    let none : scope_place c.in-Some.layout.now c.blocks-2.outwards c.args.name ≡ None = sym c.place.ensures ∙ c.in_default-place.is in
    let around : c.layout.inside.around ≡ c.in-Some.layout.now.around = first_of (search rules, grind arith, grind (arith, common_steps)) in
    let long : c.len-outwards-end.result ≡ length c.args.self.now = first_of (search rules, grind arith, grind (arith, common_steps)) in
    let step : found (length c.args.self.now - c.blocks-2.outwards) c.args.self.now c.blocks-2.outwards c.blocks-2.number c.args.name ≡ found (length c.args.self.now - c.blocks-2.outwards - 1) c.args.self.now (c.blocks-2.outwards + 1) c.in-Some.layout.now.around c.args.name = found_next (length c.args.self.now - c.blocks-2.outwards) c.args.self.now c.blocks-2.outwards c.blocks-2.number c.args.name c.in-Some.layout.now (omega arith) at none in
    let fewer : length c.args.self.now - (c.blocks-2.outwards + 1) ≡ length c.args.self.now - c.blocks-2.outwards - 1 = omega arith in
    ap (λ k. found k c.args.self.now (c.blocks-2.outwards + 1) c.layout.inside.around c.args.name) fewer ∙ (ap (λ r. found (length c.args.self.now - c.blocks-2.outwards - 1) c.args.self.now (c.blocks-2.outwards + 1) r c.args.name) around ∙ (sym step ∙ c.blocks-2.invariant))
