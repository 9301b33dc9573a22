use Rattle.std.proofs.Common.{List, codes}
use Rattle.std.specs.Str.{chars}
use Rattle.rp_base.specs.declared.kind.Kind.TheVariants.{ValueError}
use Rattle.rp_base.specs.declared.value.Value.{Value}
use Rattle.rp_ops.specs.Outcome.{Raises}
use Rattle.rp_access.proofs.Going.{raises_end}
use Rattle.rp_access.proofs.unpacking.wrong_count.Goals as goal

pub returns : goal.returns
unfolding chars
returns c = λ s.
    let h : Raises c.raised.result (record { kind = ValueError; text = codes "unpack" }) = c.raised.ensures in
    raises_end (List Value) c.raised.result (record { kind = ValueError; text = codes "unpack" }) s h
