use Rattle.std.proofs.Common.{◌≡◌, Err, codes, rules}
use Rattle.std.specs.Str.{chars}
use Rattle.rp_base.specs.declared.kind.Kind.TheVariants.{TypeError}
use Rattle.rp_ops.specs.Outcome.{Raises}
use Rattle.rp_access.specs.Moment.{state_of}
use Rattle.rp_access.proofs.NamedCalls.{asked_refused, method_refused, named_left, nothing_refused}
use Rattle.rp_access.proofs.named_calls.ask_object.Goals as goal

pub returns-in_err-ask-clause-refused : goal.returns-in_err-ask-clause-refused
returns-in_err-ask-clause-refused c =
    let e : c.from_residual.result ≡ Err c.in_err-ask.field-0.0 = search rules in
    rw e (asked_refused c.args.f.now c.args.at (state_of c.args.world.now) (state_of c.ask.new.world) c.requires.at c.in_err-ask.field-0.0 c.in_err-ask.ensures.law)

pub returns-in-Method-clause-refused : goal.returns-in-Method-clause-refused
returns-in-Method-clause-refused c =
    let found = rw c.in-Method.is at c.in_ok-called.ensures.called in
    method_refused c.args.f.now c.args.at (state_of c.args.world.now) (state_of c.ask.new.world) c.requires.at c.in_ok-ask.ensures.law
    c.method_refused.result c.in-Method._owner c.in-Method.receiver c.in-Method.id found c.method_refused.ensures

pub returns-in-Other-clause-left : goal.returns-in-Other-clause-left
returns-in-Other-clause-left c =
    named_left c.args.f.now c.args.at (state_of c.args.world.now) (state_of c.ask.new.world) c.requires.at c.in_ok-ask.ensures.law (rw c.in-Other.is at c.in_ok-called.ensures.called)

pub returns-in-Nothing-clause-refused : goal.returns-in-Nothing-clause-refused
unfolding chars
returns-in-Nothing-clause-refused c =
    let found = rw c.in-Nothing.is at c.in_ok-called.ensures.called in
    let h : Raises c.raised.result (record { kind = TypeError; text = codes "call" }) = c.raised.ensures in
    nothing_refused c.args.f.now c.args.at (state_of c.args.world.now) (state_of c.ask.new.world) c.requires.at c.in_ok-ask.ensures.law c.raised.result found h
