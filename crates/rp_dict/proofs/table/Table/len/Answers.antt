use Rattle.std.proofs.Common.{arith}
use Rattle.rp_dict.proofs.Live.{length-live}
use Rattle.rp_dict.proofs.table.Table.len.Goals as goal

pub overflow_sub-result : goal.overflow_sub-result
overflow_sub-result g c = omega (arith, c.len.ensures.len, c.self.invariant.counted, length-live _ _ c.self.invariant.kept)

pub returns-clause-value : goal.returns-clause-value
returns-clause-value g c = rw (← c.self.view_is) (omega (arith, c.len.ensures.len, c.self.invariant.counted, length-live _ _ c.self.invariant.kept))
