use Rattle.std.proofs.Common.{◌≡◌, Err, rules}
use Rattle.rp_meaning.specs.Frame.{through}
use Rattle.rp_meaning.specs.State.{heap_of}
use Rattle.rp_ops.specs.Outcome.{gives}
use Rattle.rp_proxy.specs.Taken.{taken}
use Rattle.rp_access.specs.CallSteps.{method_by}
use Rattle.rp_access.specs.Moment.{state_of}
use Rattle.rp_access.proofs.Going.{IsEnd-then}
use Rattle.rp_access.proofs.calls.bound.Goals as goal

pub returns-in_err-value-clause-law : goal.returns-in_err-value-clause-law
returns-in_err-value-clause-law c =
    let e : c.from_residual.result ≡ Err c.in_err-value.field-0.0 = search rules in
    rw e (IsEnd-then c.in_err-value.field-0.0 (state_of c.method.new.world) (method_by c.args.owner c.args.receiver c.args.id c.args.args.now (state_of c.args.world.now))
    (λ r s. gives (taken (heap_of s) c.args.side (through c.args.f.now r)) s) c.in_err-value.ensures.law)
