use Rattle.rp_ops.specs.Outcome.{gives}
use Rattle.rp_engine.proofs.Moves.{end_ok, goes_ok}
use Rattle.rp_meaning.specs.Expressions as forms
use Rattle.rp_step.proofs.forms.name_form.Goals as goal

pub returns-in-Ok-clause-law : goal.returns-in-Ok-clause-law
returns-in-Ok-clause-law c =
    goes_ok c.args.machine.now c.back.new.self c.args.world.now c.name.new.world c.back.result (forms.name c.args.name) (λ f s. gives c.in-Ok.value s) c.in-Ok.ensures.law
    c.back.ensures.law

pub returns-in-Err-clause-law : goal.returns-in-Err-clause-law
returns-in-Err-clause-law c =
    end_ok c.args.machine.now c.no_value.new.self c.args.world.now c.name.new.world c.no_value.result (forms.name c.args.name) c.in-Err.end c.in-Err.ensures.law
    c.no_value.ensures.law
