use Rattle.rp_meaning.specs.Access as access
use Rattle.rp_meaning.specs.Statements as forms
use Rattle.rp_engine.specs.Does as does
use Rattle.rp_targets.proofs.Resumings.{resumes_with}
use Rattle.rp_targets.proofs.storing.after_container.Goals as goal

pub returns-clause-law : goal.returns-clause-law
returns-clause-law c =
    resumes_with c.args.machine.now c.at_hand-value.new.self c.store_key.new.machine c.args.world.now c.store_key.new.world c.store_key.result
    (λ x. forms.assign (does.expr c.args.key.now) (λ i. access.set_item c.args.o i x)) c.at_hand-value.result c.at_hand-value.ensures.left c.at_hand-value.ensures.value c.store_key.ensures.law
