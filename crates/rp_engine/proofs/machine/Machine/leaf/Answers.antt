use Rattle.std.proofs.Common.{sym}
use Rattle.rp_engine.proofs.Equations.{expr_out}
use Rattle.rp_engine.proofs.Worlds.{IsReady-stored}
use Rattle.rp_engine.proofs.machine.Machine.leaf.Goals as goal

pub returns-clause-law : goal.returns-clause-law
returns-clause-law c = λ base. rw (expr_out c.args.x.now, sym c.deref.ensures) (c.leaf_form.ensures.law base)

pub returns-clause-ready : goal.returns-clause-ready
returns-clause-ready c = IsReady-stored _ _ _ c.args.world.now c.leaf_form.new.world c.requires.ready c.leaf_form.ensures.store c.leaf_form.ensures.faithful
