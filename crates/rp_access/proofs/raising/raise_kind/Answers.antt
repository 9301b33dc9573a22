use Rattle.std.proofs.Common.{[]}
use Rattle.std.specs.Str.{chars}
use Rattle.rp_meaning.specs.State.{Flow}
use Rattle.rp_ops.specs.Outcome.{Raises}
use Rattle.rp_access.proofs.Going.{raises_end}
use Rattle.rp_access.proofs.raising.raise_kind.Goals as goal

pub returns : goal.returns
unfolding chars
returns c = λ s.
    let h : Raises c.raised.result (record { kind = c.args.kind; text = [] }) = c.raised.ensures in
    raises_end Flow c.raised.result (record { kind = c.args.kind; text = [] }) s h
