use Rattle.std.proofs.Common.{◌≡◌, sym, ap, ◌∙◌}
use Rattle.rp_meaning.specs.Frame.{Run}
use Rattle.rp_ops.specs.Outcome.{gives}
use Rattle.rp_access.specs.Moment.{state_of}
use Rattle.rp_engine.proofs.Moves.{on_ok}
use Rattle.rp_step.proofs.Runs.{gives_plain}
use Rattle.rp_engine.specs.Rest.{rest}
use Rattle.rp_step.specs.Running.{given, got, unwound, whole_of}
use Rattle.rp_step.proofs.runner.Runner.give_called.Goals as goal

pub returns-in-None-clause-law : goal.returns-in-None-clause-law
returns-in-None-clause-law c =
    let s = state_of c.args.world.now in
    let cs = c.args.self.now.callers.items in
    on_ok c.give_value.result ((base : Run) → whole_of base c.give_value.new.self s ≡ unwound base cs (rest c.args.caller.tasks (got base c.args.caller c.args.value s)))
    ((base : Run) → whole_of base c.give_value.new.self s ≡ unwound base cs (rest c.args.caller.tasks (given base c.args.caller (gives c.args.value s))))
    (λ law base. law base ∙ ap (λ h. unwound base cs (rest c.args.caller.tasks h)) (sym (gives_plain base c.args.caller c.args.value s c.requires.call c.in-None.is))) c.give_value.ensures.law

pub returns-in-Some-clause-law : goal.returns-in-Some-clause-law
returns-in-Some-clause-law c =
    let s = state_of c.args.world.now in
    let cs = c.args.self.now.callers.items in
    on_ok c.give_made.result ((base : Run) → whole_of base c.give_made.new.self s ≡ unwound base cs (rest c.args.caller.tasks (given base c.args.caller (gives c.args.value s))))
    ((base : Run) → whole_of base c.give_made.new.self s ≡ unwound base cs (rest c.args.caller.tasks (given base c.args.caller (gives c.args.value s))))
    (λ law base. law base) c.give_made.ensures.law
