use Rattle.std.proofs.Common.{◌≡◌, Err, codes, rules}
use Rattle.std.specs.Str.{chars}
use Rattle.rp_base.specs.declared.kind.Kind.TheVariants.{TypeError}
use Rattle.rp_ops.specs.Outcome.{Raises}
use Rattle.rp_access.specs.Moment.{state_of}
use Rattle.rp_access.proofs.FunctionLaws.{uncalled_end}
use Rattle.rp_access.proofs.ObjectCalls.{kind_comes, kind_ends, rock_ends}
use Rattle.rp_access.proofs.calls.call_rock.Goals as goal

pub returns-in-Native-clause-law : goal.returns-in-Native-clause-law
returns-in-Native-clause-law c = rw c.in-Native.is c.native.ensures.law

pub returns-in_err-exception-in-Kind-clause-law : goal.returns-in_err-exception-in-Kind-clause-law
returns-in_err-exception-in-Kind-clause-law c =
    let e : c.from_residual.result ≡ Err c.in_err-exception-in-Kind.field-0.0 = search rules in
    rw (e, c.in-Kind.is) (kind_ends c.args.side c.in-Kind.kind c.args.args.now c.args.world.now c.exception.new.world c.in_err-exception-in-Kind.field-0.0 c.in_err-exception-in-Kind.ensures.law)

pub returns-in_ok-exception-in-Kind-clause-law : goal.returns-in_ok-exception-in-Kind-clause-law
returns-in_ok-exception-in-Kind-clause-law c =
    rw c.in-Kind.is (kind_comes c.args.side c.in-Kind.kind c.args.args.now c.args.world.now c.exception.new.world _ c.in_ok-exception-in-Kind.ensures.law)

pub returns-in_default-clause-law : goal.returns-in_default-clause-law
unfolding chars
returns-in_default-clause-law c =
    let w = c.args.world.now in
    let h : Raises c.raised.result (record { kind = TypeError; text = codes "call" }) = c.raised.ensures in
    rock_ends c.args.side c.args.rock.now c.args.args.now w c.raised.result c.in_default.not-Native c.in_default.not-Kind (uncalled_end c.raised.result (state_of w) h)

pub returns-in-Native-clause-left : goal.returns-in-Native-clause-left
returns-in-Native-clause-left c = rw c.in-Native.is c.native.ensures.left
