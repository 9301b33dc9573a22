use Rattle.rp_meaning.specs.Access as access
use Rattle.rp_targets.proofs.Resumings.{resumes_with}
use Rattle.rp_targets.proofs.deleting.after_deleted_key.Goals as goal

pub returns-clause-law : goal.returns-clause-law
returns-clause-law c =
    resumes_with c.args.machine.now c.at_hand-o.new.self c.del_item.new.machine c.args.world.now c.del_item.new.world c.del_item.result
    (λ x. access.del_item x c.args.i) c.at_hand-o.result c.at_hand-o.ensures.left c.at_hand-o.ensures.value c.del_item.ensures.law
