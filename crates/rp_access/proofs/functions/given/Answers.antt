use Rattle.rp_access.proofs.Growing.{IsFaithful-gained}
use Rattle.rp_access.proofs.functions.given.Goals as goal

pub returns-clause-faithful : goal.returns-clause-faithful
returns-clause-faithful c =
    IsFaithful-gained c.args.world.now c.call_native.new.store c.call_native.new.meter c.args.side c.call_native.ensures.grown c.requires.faithful
