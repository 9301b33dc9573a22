use Rattle.std.proofs.Common.{◌≡◌, sym, ap, ◌∙◌}
use Rattle.rp_base.specs.declared.value.Value.TheVariants as value
use Rattle.rp_meaning.specs.Frame.{Run}
use Rattle.rp_meaning.specs.State.{State}
use Rattle.rp_ops.specs.Outcome.{gives}
use Rattle.rp_access.specs.Moment.{state_of}
use Rattle.rp_engine.proofs.Doings.{always}
use Rattle.rp_engine.proofs.Moves.{on_ok}
use Rattle.rp_step.proofs.Runs.{gives_filled}
use Rattle.rp_engine.specs.Moment.{frame_of, run_of}
use Rattle.rp_engine.specs.Rest.{gave, rest}
use Rattle.rp_step.specs.Running.{given, unwound, whole_of}
use Rattle.rp_step.proofs.runner.Runner.give.Goals as goal

pub returns-in-Some-clause-law : goal.returns-in-Some-clause-law
returns-in-Some-clause-law c =
    let s = state_of c.args.world.now in
    let cs = c.args.self.now.callers.items in
    let k = c.args.caller in
    on_ok c.give_filled.result ((base : Run) (s : State) → whole_of base c.give_filled.new.self s
    ≡ unwound base cs (rest k.tasks (gave (frame_of (run_of base k.units.now) k.frame) k.values (gives (value.Ref c.in-Some.at) s))))
    ((base : Run) → whole_of base c.give_filled.new.self s ≡ unwound base cs (rest k.tasks (given base k (gives c.args.value s))))
    (λ law base. law base s ∙ ap (λ h. unwound base cs (rest k.tasks h)) (sym (gives_filled base k c.args.value s c.in-Some.at c.in-Some.is))) c.give_filled.ensures.law

pub returns-in-Some-clause-ready : goal.returns-in-Some-clause-ready
returns-in-Some-clause-ready c = always c.give_filled.result _ (c.give_filled.ensures.ready c.args.world.now c.requires.ready c.requires.caller c.in-Some.is)

pub returns-in-None-clause-law : goal.returns-in-None-clause-law
returns-in-None-clause-law c =
    let s = state_of c.args.world.now in
    let cs = c.args.self.now.callers.items in
    on_ok c.give_called.result ((base : Run) → whole_of base c.give_called.new.self s ≡ unwound base cs (rest c.args.caller.tasks (given base c.args.caller (gives c.args.value s))))
    ((base : Run) → whole_of base c.give_called.new.self s ≡ unwound base cs (rest c.args.caller.tasks (given base c.args.caller (gives c.args.value s))))
    (λ law base. law base) c.give_called.ensures.law
