use Rattle.std.proofs.Common.{Option, ap, sym, ◌∙◌}
use Rattle.rp_base.specs.declared.value.Name.{Name}
use Rattle.rp_access.specs.Moment.{state_of}
use Rattle.rp_engine.specs.Handling as steps
use Rattle.rp_engine.specs.Law.{frame_in}
use Rattle.rp_statements.proofs.handling.unbind_as.Goals as goal

pub returns-in-Some-clause-law : goal.returns-in-Some-clause-law
returns-in-Some-clause-law c = λ base.
    c.clear.ensures.law base ∙ ap (λ (n : Option Name). steps.without_as n (frame_in base c.args.machine.now) (state_of c.args.world.now)) (sym c.in-Some.is)
