use Rattle.std.proofs.Common.{◌≡◌, ℤ, Bool, ap, of_z, sym, to_z, ◌∙◌}
use Rattle.std.proofs.lemmas.Int.{to_z-of_z}
use Rattle.std.specs.Int.{w64}
use Rattle.rp_engine.specs.Does as does
use Rattle.rp_engine.specs.NumberSteps.{compared, in_three, truth}
use Rattle.rp_engine.proofs.WholeNumbers.{order_is}
use Rattle.rp_engine.proofs.machine.Machine.ordered.Goals as goal

pub returns-in-Some-Some : goal.returns-in-Some-Some
returns-in-Some-Some c =
    let m = c.args.self.now in
    let a = c.in-Some-Some.a in
    let b = c.in-Some-Some.b in
    let told : c.compared.result ≡ compared c.args.op a b = c.compared.ensures
    ∙ ap (λ (x : ℤ). compared c.args.op x (to_z w64 (of_z w64 b))) (to_z-of_z w64 a c.in-Some-Some.ensures.fits)
    ∙ ap (λ (y : ℤ). compared c.args.op a y) (to_z-of_z w64 b c.in-Some-Some.ensures'.fits) in
    λ base s same.
    order_is base m.units.now m.frame c.args.world.now.store.heap (does.expr c.args.first.now) (does.expr c.args.x.now) c.args.op a b
    (c.in-Some-Some.ensures.law base) (c.in-Some-Some.ensures'.law base) s same
    ∙ ap (λ (holds : Bool). in_three (truth holds) s) (sym told)
