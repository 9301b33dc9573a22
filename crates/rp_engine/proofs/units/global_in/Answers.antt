use Rattle.std.proofs.Common.{ap, arith, sym}
use Rattle.std.specs.Prelude.{position}
use Rattle.rp_engine.proofs.Beyond.{no_locals}
use Rattle.rp_scope.specs.Scopes.{same_name}
use Rattle.rp_engine.proofs.units.global_in.Goals as goal

pub returns-then-count-eq0 : goal.returns-then-count-eq0
returns-then-count-eq0 c = sym (ap (position (same_name c.args.name)) (no_locals c.args.program.now.layouts 0 (omega (arith, c.len-count.ensures))))

pub global-requires : goal.global-requires
global-requires c = omega (arith, c.len-count.ensures)
