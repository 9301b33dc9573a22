use Rattle.std.proofs.Common.{ap, arith, length, sym}
use Rattle.rp_engine.proofs.Beyond.{no_locals}
use Rattle.rp_engine.proofs.units.local_count.Goals as goal

pub returns-then-block-count : goal.returns-then-block-count
returns-then-block-count c = sym (ap length (no_locals c.args.program.now.layouts c.args.block (omega (arith, c.len-count.ensures))))

pub locals-requires : goal.locals-requires
locals-requires c = omega (arith, c.len-count.ensures)

pub returns : goal.returns
returns c = ap length c.locals.ensures
