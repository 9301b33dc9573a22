use Rattle.std.proofs.Common.{codes}
use Rattle.std.specs.Str.{chars}
use Rattle.rp_base.specs.declared.kind.Kind.TheVariants.{TypeError}
use Rattle.rp_ops.specs.Outcome.{Raises}
use Rattle.rp_access.proofs.NamedCalls.{kind_refused, rock_uncalled}
use Rattle.rp_access.proofs.named_calls.rock_refused.Goals as goal

pub returns-in-Kind : goal.returns-in-Kind
unfolding chars
returns-in-Kind c =
    let h : Raises c.raised.result (record { kind = TypeError; text = codes "arguments" }) = c.raised.ensures in
    rw c.in-Kind.is (kind_refused c.in-Kind.field-0 c.raised.result h)

pub returns-in-Native : goal.returns-in-Native
returns-in-Native c = rw c.in-Native.is c.native_refused.ensures

pub returns-in_default : goal.returns-in_default
unfolding chars
returns-in_default c =
    let h : Raises c.raised-in_default.result (record { kind = TypeError; text = codes "call" }) = c.raised-in_default.ensures in
    rock_uncalled c.args.rock.now c.raised-in_default.result c.in_default.not-Native c.in_default.not-Kind h
