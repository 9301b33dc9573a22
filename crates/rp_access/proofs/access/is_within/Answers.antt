use Rattle.std.proofs.Common.{◌≡◌, Err, sym, ◌∙◌, rules}
use Rattle.rp_base.specs.declared.word.TheConstants.{CONTAINS}
use Rattle.rp_access.proofs.Decided.{within_plain}
use Rattle.rp_access.proofs.Going.{IsEnd-same, IsEnd-then}
use Rattle.rp_access.specs.Moment.{state_of}
use Rattle.rp_access.specs.Parts.{asking}
use Rattle.rp_access.proofs.access.is_within.Goals as goal

pub returns-then-has_method-clause-special : goal.returns-then-has_method-clause-special
returns-then-has_method-clause-special c = (c.in_ok-ask.ensures.law, sym c.has_method.ensures.known ∙ c.if-has_method.true)

pub returns-in_err-ask-clause-law : goal.returns-in_err-ask-clause-law
returns-in_err-ask-clause-law c =
    let e : c.from_residual.result ≡ Err c.in_err-ask.field-0.0 = search rules in
    λ call. rw e (IsEnd-then c.in_err-ask.field-0.0 (state_of c.ask.new.world) (asking CONTAINS c.args.o.now (state_of c.args.world.now)) _ c.in_err-ask.ensures.law)

pub returns-in_err-contains-clause-law : goal.returns-in_err-contains-clause-law
returns-in_err-contains-clause-law c =
    let e : c.from_residual-in_err-contains.result ≡ Err c.in_err-contains.field-0.0 = search rules in
    λ call. rw e (IsEnd-same c.in_err-contains.field-0.0 (state_of c.contains.new.world) _ _
    (within_plain call c.args.value.now c.args.o.now (state_of c.args.world.now) (state_of c.ask.new.world) c.in_ok-ask.ensures.law (c.has_method.ensures.none c.if-has_method.false)) c.in_err-contains.ensures.law)

pub returns-clause-law : goal.returns-clause-law
returns-clause-law c = λ call.
    within_plain call c.args.value.now c.args.o.now (state_of c.args.world.now) (state_of c.ask.new.world) c.in_ok-ask.ensures.law (c.has_method.ensures.none c.if-has_method.false)
    ∙ c.in_ok-contains.ensures.law
