use Rattle.std.proofs.Common.{◌≡◌, sym, ap, ◌∙◌}
use Rattle.std.specs.Prelude.{codes}
use Rattle.rp_base.specs.declared.kind.Kind.TheVariants.{TypeError}
use Rattle.rp_base.specs.declared.value.Value.TheVariants as value
use Rattle.rp_meaning.specs.Frame.{Run}
use Rattle.rp_meaning.specs.State.{State}
use Rattle.rp_ops.specs.Outcome.{gives, raises}
use Rattle.rp_access.specs.Moment.{state_of}
use Rattle.rp_engine.proofs.Doings.{always}
use Rattle.rp_engine.proofs.Moves.{on_ok}
use Rattle.rp_step.proofs.Runs.{gives_made, gives_other, made_sound}
use Rattle.rp_engine.specs.Moment.{frame_of, run_of}
use Rattle.rp_engine.specs.Rest.{gave, rest}
use Rattle.rp_step.specs.Running.{given, got, unwound, whole_of}
use Rattle.rp_step.proofs.runner.Runner.give_made.Goals as goal

pub returns-then-is_none-clause-law : goal.returns-then-is_none-clause-law
returns-then-is_none-clause-law c =
    let s = state_of c.args.world.now in
    let cs = c.args.self.now.callers.items in
    on_ok c.give_value.result ((base : Run) → whole_of base c.give_value.new.self s ≡ unwound base cs (rest c.args.caller.tasks (got base c.args.caller (value.Ref c.args.at) s)))
    ((base : Run) → whole_of base c.give_value.new.self s ≡ unwound base cs (rest c.args.caller.tasks (given base c.args.caller (gives c.args.value s))))
    (λ law base. law base ∙ ap (λ h. unwound base cs (rest c.args.caller.tasks h))
    (sym (gives_made base c.args.caller c.args.value s c.args.at c.requires.call c.requires.made (sym c.is_none.ensures ∙ c.if-is_none.true)))) c.give_value.ensures.law

pub give_value-requires-clause-value : goal.give_value-requires-clause-value
give_value-requires-clause-value c = made_sound c.args.world.now.store.heap c.args.caller.made c.args.at c.requires.made c.requires.caller.made

pub returns-clause-law : goal.returns-clause-law
returns-clause-law c =
    let s = state_of c.args.world.now in
    let cs = c.args.self.now.callers.items in
    let k = c.args.caller in
    on_ok c.refuse_init.result ((base : Run) (s : State) → whole_of base c.refuse_init.new.self s
    ≡ unwound base cs (rest k.tasks (gave (frame_of (run_of base k.units.now) k.frame) k.values (raises TypeError (codes "init") s))))
    ((base : Run) → whole_of base c.refuse_init.new.self s ≡ unwound base cs (rest k.tasks (given base k (gives c.args.value s))))
    (λ law base. law base s ∙ ap (λ h. unwound base cs (rest k.tasks h))
    (sym (gives_other base k c.args.value s c.args.at c.requires.call c.requires.made (sym c.is_none.ensures ∙ c.if-is_none.false)))) c.refuse_init.ensures.law

pub returns-clause-ready : goal.returns-clause-ready
returns-clause-ready c = always c.refuse_init.result _ (c.refuse_init.ensures.ready c.args.world.now c.requires.ready c.requires.caller)
