use Rattle.std.proofs.Common.{◌≡◌, Err, rules}
use Rattle.std.specs.Prelude.{not}
use Rattle.rp_ops.specs.Outcome.{gives}
use Rattle.rp_access.proofs.Decided.{negated_comes}
use Rattle.rp_access.proofs.Going.{IsEnd-then}
use Rattle.rp_access.proofs.Known.{none_negated}
use Rattle.rp_access.specs.Comparisons.{within_asked}
use Rattle.rp_access.specs.Moment.{state_of}
use Rattle.rp_access.proofs.comparing.is_without.Goals as goal

pub returns-in_err-within-clause-law : goal.returns-in_err-within-clause-law
returns-in_err-within-clause-law c =
    let e : c.from_residual.result ≡ Err c.in_err-within.field-0.0 = search rules in
    λ call. rw e (IsEnd-then c.in_err-within.field-0.0 (state_of c.is_within.new.world) (within_asked call c.args.value.now c.args.o.now (state_of c.args.world.now))
    (λ r s. gives (not r) s) (c.in_err-within.ensures.law call))

pub returns-clause-law : goal.returns-clause-law
returns-clause-law c = λ call.
    rw c.negated.ensures (negated_comes c.in_ok-within.within (state_of c.is_within.new.world) (within_asked call c.args.value.now c.args.o.now (state_of c.args.world.now)) (c.in_ok-within.ensures.law call))

pub returns-clause-special : goal.returns-clause-special
returns-clause-special c = rw c.negated.ensures (none_negated c.in_ok-within.within _ c.in_ok-within.ensures.special)
