use Rattle.std.proofs.Common.{codes}
use Rattle.std.specs.Str.{chars}
use Rattle.rp_base.specs.declared.kind.Kind.TheVariants.{TypeError}
use Rattle.rp_ops.specs.Outcome.{Raises}
use Rattle.rp_access.proofs.Spreadings.{named_gives, named_wrong}
use Rattle.rp_access.specs.Moment.{state_of}
use Rattle.rp_access.proofs.spreading.spread_named.Goals as goal

pub returns-in-Some-clause-law : goal.returns-in-Some-clause-law
returns-in-Some-clause-law c =
    let named = rw c.in-Some.is at c.in_ok-named.ensures.named in
    named_gives c.args.side c.args.value.now (state_of c.args.world.now) (state_of c.ask.new.world) c.in_ok-ask.ensures.law c.in-Some.named.items named

pub returns-in-None-clause-law : goal.returns-in-None-clause-law
unfolding chars
returns-in-None-clause-law c =
    let none = rw c.in-None.is at c.in_ok-named.ensures.named in
    let h : Raises c.raised.result (record { kind = TypeError; text = codes "argument" }) = c.raised.ensures in
    named_wrong c.args.side c.args.value.now (state_of c.args.world.now) (state_of c.ask.new.world) c.in_ok-ask.ensures.law c.raised.result none h
