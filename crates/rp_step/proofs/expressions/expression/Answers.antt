use Rattle.std.proofs.Common.{sym}
use Rattle.rp_engine.proofs.Equations.{expr_out}
use Rattle.rp_engine.proofs.Weights as weights
use Rattle.rp_step.proofs.expressions.expression.Goals as goal

pub returns-clause-law : goal.returns-clause-law
returns-clause-law c = rw (expr_out c.args.x.now, sym c.deref.ensures) c.form.ensures.law

pub returns-clause-less : goal.returns-clause-less
returns-clause-less c = rw (weights.inside_is c.args.x.now, sym c.deref.ensures) c.form.ensures.less
