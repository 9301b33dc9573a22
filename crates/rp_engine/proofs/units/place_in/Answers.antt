use Rattle.std.proofs.Common.{arith, sym}
use Rattle.rp_engine.proofs.Beyond.{no_place}
use Rattle.rp_engine.proofs.units.place_in.Goals as goal

pub returns-then-block-count : goal.returns-then-block-count
returns-then-block-count c = sym (no_place c.args.program.now.layouts c.args.block (omega (arith, c.len-count.ensures)) c.args.name)

pub place-requires : goal.place-requires
place-requires c = omega (arith, c.len-count.ensures)
