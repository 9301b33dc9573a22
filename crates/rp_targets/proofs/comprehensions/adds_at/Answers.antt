use Rattle.std.proofs.Common.{ap, sym}
use Rattle.rp_frame.specs.declared.spot.Made.{Made}
use Rattle.rp_engine.specs.ComprehensionSteps.{does_made}
use Rattle.rp_targets.proofs.comprehensions.adds_at.Goals as goal

pub returns-in-List : goal.returns-in-List
returns-in-List c = sym (ap (λ (made : Made). (does_made made).1 c.args.at) c.in-List.is)

pub returns-in-Dict : goal.returns-in-Dict
returns-in-Dict c = sym (ap (λ (made : Made). (does_made made).1 c.args.at) c.in-Dict.is)
