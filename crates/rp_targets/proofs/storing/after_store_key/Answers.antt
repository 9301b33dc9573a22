use Rattle.rp_meaning.specs.Access as access
use Rattle.rp_targets.proofs.Resumings.{resumes_with_two}
use Rattle.rp_targets.proofs.storing.after_store_key.Goals as goal

pub returns-clause-law : goal.returns-clause-law
returns-clause-law c =
    resumes_with_two c.args.machine.now c.at_hand-o.new.self c.at_hand-value.new.self c.set_item.new.machine c.args.world.now c.set_item.new.world c.set_item.result
    (λ x y. access.set_item x c.args.i y) c.at_hand-o.result c.at_hand-value.result c.at_hand-o.ensures.left c.at_hand-value.ensures.left c.at_hand-o.ensures.value c.at_hand-value.ensures.value
    c.set_item.ensures.law
