use Rattle.std.proofs.Common.{◌≡◌, [], Option, Some, sym, ap, ◌∙◌}
use Rattle.std.specs.Str.{chars}
use Rattle.rp_base.specs.declared.kind.Kind.TheVariants.{AssertionError}
use Rattle.rp_meaning.specs.Frame.{Doing, Run}
use Rattle.rp_meaning.specs.State.{Flow, Outcome, State}
use Rattle.rp_meaning.specs.Statements as forms
use Rattle.rp_ops.specs.Outcome.{Raises}
use Rattle.rp_proxy.specs.declared.world.World.{World}
use Rattle.rp_tree.specs.declared.expr.Expr.{Expr}
use Rattle.rp_access.proofs.Going.{raises_end}
use Rattle.rp_engine.proofs.Moves.{on_ok}
use Rattle.rp_access.specs.Comes.{IsEnd}
use Rattle.rp_engine.specs.Does as does
use Rattle.rp_engine.specs.Law.{Executes, frame_in, rest_of}
use Rattle.rp_access.specs.Moment.{state_of}
use Rattle.rp_engine.specs.Rest.{did, rest}
use Rattle.rp_statements.proofs.asserting.fail.Goals as goal

pub returns-in-None-clause-law : goal.returns-in-None-clause-law
unfolding chars
returns-in-None-clause-law c =
    let m = c.args.machine.now in
    let n = c.cut_off.new.self in
    let message = c.args.message.now in
    let h : Raises c.raised.result (record { kind = AssertionError; text = [] }) = c.raised.ensures in
    on_ok c.cut_off.result ((base : Run) (s : State) (o : Outcome Flow) → IsEnd c.raised.result s o → rest_of base n s ≡ rest m.tasks (did (frame_in base m) m.values o))
    ((w : World) → Executes (forms.failed (does.maybe message)) m w n w)
    (λ law w base. law base (state_of w) (forms.failed (does.maybe message) (frame_in base m) (state_of w))
    (rw c.in-None.is (raises_end Flow c.raised.result (record { kind = AssertionError; text = [] }) (state_of w) h))) c.cut_off.ensures.law

pub returns-in-Some-clause-law : goal.returns-in-Some-clause-law
returns-in-Some-clause-law c =
    let m = c.args.machine.now in
    let n = c.wait.new.self in
    let E : Doing = forms.failed (does.maybe (Some c.in-Some.message)) in
    on_ok c.wait.result ((base : Run) (s : State) → rest_of base n s ≡ rest m.tasks (did (frame_in base m) m.values (E (frame_in base m) s)))
    ((w : World) → Executes (forms.failed (does.maybe c.args.message.now)) m w n w)
    (λ law w base. law base (state_of w) ∙ ap (λ (x : Option Expr). rest m.tasks (did (frame_in base m) m.values (forms.failed (does.maybe x) (frame_in base m) (state_of w)))) (sym c.in-Some.is))
    c.wait.ensures.law
