use Rattle.std.proofs.Common.{◌≡◌, Err, true, refl, rules}
use Rattle.rp_native.specs.Counts.{is_called_here}
use Rattle.rp_access.specs.Moment.{state_of}
use Rattle.rp_access.proofs.Going.{IsEnd-same}
use Rattle.rp_access.proofs.NativeCalls.{plainly_applied}
use Rattle.rp_access.proofs.functions.applied.Goals as goal

pub returns-in_err-given-clause-law : goal.returns-in_err-given-clause-law
returns-in_err-given-clause-law c = λ call.
    let e : c.from_residual-in_err-given.result ≡ Err c.in_err-given.field-0.0 = search rules in
    let here : is_called_here c.args.id ≡ true = search rules in
    rw e (IsEnd-same c.in_err-given.field-0.0 (state_of c.given.new.world) _ _
    (plainly_applied call c.args.side c.args.id c.args.args.now (state_of c.args.world.now) here (c.has_length.ensures.plain c.if-has_length.false)) c.in_err-given.ensures.law)

pub returns-then-has_length-clause-left : goal.returns-then-has_length-clause-left
returns-then-has_length-clause-left c = (refl, c.has_length.ensures.length c.if-has_length.true)
