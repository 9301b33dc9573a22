use Rattle.std.proofs.Common.{sym}
use Rattle.rp_engine.proofs.Equations.{expr_out}
use Rattle.rp_engine.proofs.machine.Machine.number.Goals as goal

pub returns-clause-law : goal.returns-clause-law
returns-clause-law c = rw (expr_out c.args.x.now, sym c.deref.ensures) c.form_number.ensures.law
