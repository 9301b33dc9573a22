use Rattle.std.proofs.Common.{◌≡◌, Err, refl, rules, sym, ap, ◌∙◌}
use Rattle.std.proofs.lemmas.Int.{to_z-of_z}
use Rattle.std.specs.Int.{w64}
use Rattle.rp_access.specs.Moment.{state_of}
use Rattle.rp_engine.specs.NumberSteps.{int}
use Rattle.rp_engine.proofs.machine.Machine.chain.Goals as goal

pub returns-in_err-behind_steps-in-Some-clause-law : goal.returns-in_err-behind_steps-in-Some-clause-law
returns-in_err-behind_steps-in-Some-clause-law c =
    let e : c.from_residual.result ≡ Err c.in_err-behind_steps-in-Some.field-0.0 = search rules in
    let same : c.number_value.result ≡ int c.in-Some.number = c.number_value.ensures ∙ ap int (to_z-of_z w64 c.in-Some.number c.in-Some.ensures.fits) in
    λ base. rw (e, c.in-Some.ensures.law base (state_of c.args.world.now) refl, sym same) c.in_err-behind_steps-in-Some.ensures.law

pub returns-in_ok-behind_steps-in-Some-clause-law : goal.returns-in_ok-behind_steps-in-Some-clause-law
returns-in_ok-behind_steps-in-Some-clause-law c =
    let same : c.number_value.result ≡ int c.in-Some.number = c.number_value.ensures ∙ ap int (to_z-of_z w64 c.in-Some.number c.in-Some.ensures.fits) in
    λ base. rw (c.in-Some.ensures.law base (state_of c.args.world.now) refl, sym same) c.in_ok-behind_steps-in-Some.ensures.law
