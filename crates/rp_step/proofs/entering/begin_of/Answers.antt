use Rattle.std.proofs.Common.{ap, ◌∙◌}
use Rattle.rp_meaning.specs.Running.{value_of_code}
use Rattle.rp_codes.specs.Codes.{code_view}
use Rattle.rp_step.specs.RunLoads.{code_weight}
use Rattle.rp_step.specs.Running.{given}
use Rattle.std.proofs.Common.{sym}
use Rattle.rp_step.proofs.Runs.{begins_def, begins_lambda}
use Rattle.rp_step.proofs.entering.begin_of.Goals as goal

pub returns-in-Def-clause-means : goal.returns-in-Def-clause-means
returns-in-Def-clause-means c = λ base b f end s.
    begins_def c.in-Def.field-0.now c.in-Def.body.now base b f s ∙ ap (λ code. given base b (value_of_code (code_view code) f s)) (sym c.in-Def.is)

pub returns-in-Lambda-clause-means : goal.returns-in-Lambda-clause-means
returns-in-Lambda-clause-means c = λ base b f end s.
    begins_lambda c.in-Lambda.field-0.now c.in-Lambda.body.now base b f s ∙ ap (λ code. given base b (value_of_code (code_view code) f s)) (sym c.in-Lambda.is)

pub returns-in-Def-clause-weight : goal.returns-in-Def-clause-weight
returns-in-Def-clause-weight c = ap code_weight (sym c.in-Def.is)

pub returns-in-Lambda-clause-weight : goal.returns-in-Lambda-clause-weight
returns-in-Lambda-clause-weight c = ap code_weight (sym c.in-Lambda.is)
