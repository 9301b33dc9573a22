use Rattle.rp_compare.proofs.Rounds.{within-next, within-zero}
use Rattle.rp_compare.proofs.equality.inner_depth.Goals as goal

pub returns-then-depth-eq0-clause-none : goal.returns-then-depth-eq0-clause-none
returns-then-depth-eq0-clause-none c = within-zero c.args.depth c.if-depth-eq0.true

pub returns-clause-inner : goal.returns-clause-inner
returns-clause-inner c = within-next c.args.depth c.if-depth-eq0.false
