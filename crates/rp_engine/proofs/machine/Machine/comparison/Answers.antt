use Rattle.std.proofs.Common.{◌≡◌, Err, refl, rules, sym}
use Rattle.rp_access.specs.Moment.{state_of}
use Rattle.rp_engine.proofs.machine.Machine.comparison.Goals as goal

pub returns-in_err-behind_steps-in-Some-clause-law : goal.returns-in_err-behind_steps-in-Some-clause-law
returns-in_err-behind_steps-in-Some-clause-law c =
    let e : c.from_residual.result ≡ Err c.in_err-behind_steps-in-Some.field-0.0 = search rules in
    λ base. rw (e, c.in-Some.ensures base (state_of c.args.world.now) refl, sym c.truth_value.ensures) c.in_err-behind_steps-in-Some.ensures.law

pub returns-in_ok-behind_steps-in-Some-clause-law : goal.returns-in_ok-behind_steps-in-Some-clause-law
returns-in_ok-behind_steps-in-Some-clause-law c =
    λ base. rw (c.in-Some.ensures base (state_of c.args.world.now) refl, sym c.truth_value.ensures) c.in_ok-behind_steps-in-Some.ensures.law
