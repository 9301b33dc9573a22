use Rattle.std.proofs.Common.{◌≡◌, Err, rules}
use Rattle.rp_engine.proofs.machine.Machine.known_name.Goals as goal

pub returns-in_err-name-clause-law : goal.returns-in_err-name-clause-law
returns-in_err-name-clause-law c =
    let e : c.from_residual.result ≡ Err c.in_err-name.field-0.0 = search rules in
    λ base. rw e (c.in_err-name.ensures.law base)

pub returns-clause-law : goal.returns-clause-law
returns-clause-law c = c.in_ok-name.ensures.law
