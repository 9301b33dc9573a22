use Rattle.std.proofs.Common.{◌≡◌, ℤ, Ok, of_z, subst, to_z}
use Rattle.std.proofs.lemmas.Int.{to_z-of_z}
use Rattle.std.proofs.lemmas.Option.{IfSome_then}
use Rattle.std.specs.Int.{w64}
use Rattle.rp_ops.specs.Numbers.{computed}
use Rattle.rp_engine.specs.Does as does
use Rattle.rp_engine.proofs.WholeNumbers.{chain_is}
use Rattle.rp_engine.proofs.machine.Machine.operated.Goals as goal

pub returns-in-Some-Some-clause-law : goal.returns-in-Some-Some-clause-law
returns-in-Some-Some-clause-law c =
    let m = c.args.self.now in
    let a = c.in-Some-Some.a in
    let b = c.in-Some-Some.b in
    IfSome_then c.computed.result c.computed.ensures.value (λ n is base s same.
    chain_is base m.units.now m.frame c.args.world.now.store.heap (does.expr c.args.first.now) (does.expr c.args.x.now) c.args.op a b n
    (c.in-Some-Some.ensures.law base) (c.in-Some-Some.ensures'.law base)
    (subst (λ (y : ℤ). computed c.args.op a y ≡ Ok n) (to_z-of_z w64 b c.in-Some-Some.ensures'.fits)
    (subst (λ (x : ℤ). computed c.args.op x (to_z w64 (of_z w64 b)) ≡ Ok n) (to_z-of_z w64 a c.in-Some-Some.ensures.fits) is)) s same)
