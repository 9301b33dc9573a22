use Rattle.std.proofs.Common.{◌≡◌, Err, codes, rules}
use Rattle.std.specs.Str.{chars}
use Rattle.rp_base.specs.declared.kind.Kind.TheVariants.{TypeError}
use Rattle.rp_ops.specs.Outcome.{Raises}
use Rattle.rp_access.specs.Moment.{state_of}
use Rattle.rp_access.proofs.FunctionLaws.{uncalled_end}
use Rattle.rp_access.proofs.Known.{never_none}
use Rattle.rp_access.proofs.ObjectCalls.{asked_ends, code_left, method_comes, nothing_comes}
use Rattle.rp_access.proofs.calls.call_object.Goals as goal

pub returns-in_err-ask-clause-law : goal.returns-in_err-ask-clause-law
returns-in_err-ask-clause-law c =
    let u = c.ask.new.world in
    let e : c.from_residual.result ≡ Err c.in_err-ask.field-0.0 = search rules in
    rw e (asked_ends c.args.side c.args.f.now c.args.at c.args.args.now c.args.world.now u u c.requires.at c.in_err-ask.field-0.0 c.in_err-ask.ensures.law)

pub returns-in-Method-clause-law : goal.returns-in-Method-clause-law
returns-in-Method-clause-law c =
    let found = rw c.in-Method.is at c.in_ok-owner.ensures.called in
    method_comes c.args.side c.args.f.now c.args.at c.args.args.now c.args.world.now c.ask.new.world c.bound.new.world c.requires.at c.in_ok-ask.ensures.law
    c.in-Method.owner c.in-Method.receiver c.in-Method.id found c.bound.result c.bound.ensures.law

pub returns-in-Nothing-clause-law : goal.returns-in-Nothing-clause-law
unfolding chars
returns-in-Nothing-clause-law c =
    let u = c.ask.new.world in
    let found = rw c.in-Nothing.is at c.in_ok-owner.ensures.called in
    let h : Raises c.raised.result (record { kind = TypeError; text = codes "call" }) = c.raised.ensures in
    nothing_comes c.args.side c.args.f.now c.args.at c.args.args.now c.args.world.now u u c.requires.at c.in_ok-ask.ensures.law c.raised.result found (uncalled_end c.raised.result (state_of u) h)

pub returns-in-Method-clause-left : goal.returns-in-Method-clause-left
returns-in-Method-clause-left c = never_none c.bound.result _ c.bound.ensures.known

pub returns-in-Other-clause-left : goal.returns-in-Other-clause-left
returns-in-Other-clause-left c =
    code_left c.args.f.now c.args.at c.args.args.now (state_of c.args.world.now) (state_of c.ask.new.world) c.requires.at c.in_ok-ask.ensures.law
    (rw c.in-Other.is at c.in_ok-owner.ensures.called)
