use Rattle.rp_meaning.specs.Access as access
use Rattle.rp_targets.proofs.Resumings.{resumes_with}
use Rattle.rp_targets.proofs.storing.after_object.Goals as goal

pub returns-clause-law : goal.returns-clause-law
returns-clause-law c =
    resumes_with c.args.machine.now c.at_hand-value.new.self c.set_attribute.new.machine c.args.world.now c.set_attribute.new.world c.set_attribute.result
    (λ x. access.set_attribute c.args.o c.args.name x) c.at_hand-value.result c.at_hand-value.ensures.left c.at_hand-value.ensures.value c.set_attribute.ensures.law
