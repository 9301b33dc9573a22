use Rattle.rp_access.proofs.Growing.{IsFaithful-kept_classes}
use Rattle.rp_access.proofs.methods.plain_method.Goals as goal

pub returns-clause-faithful : goal.returns-clause-faithful
returns-clause-faithful c =
    IsFaithful-kept_classes c.args.world.now c.call_method.new.store c.call_method.new.meter c.call_method.ensures.shape c.call_method.ensures.classes c.requires.faithful
