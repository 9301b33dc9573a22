use Rattle.std.proofs.Common.{codes}
use Rattle.std.specs.Str.{chars}
use Rattle.rp_base.specs.declared.kind.Kind.TheVariants.{TypeError}
use Rattle.rp_meaning.specs.State.{Flow}
use Rattle.rp_ops.specs.Outcome.{Raises}
use Rattle.rp_access.proofs.Going.{raises_end}
use Rattle.rp_access.proofs.raising.raise_again.Goals as goal

pub returns : goal.returns
unfolding chars
returns c = λ s.
    let h : Raises c.raised.result (record { kind = TypeError; text = codes "raise" }) = c.raised.ensures in
    raises_end Flow c.raised.result (record { kind = TypeError; text = codes "raise" }) s h
