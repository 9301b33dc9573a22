use Rattle.std.proofs.Common.{◌≡◌, List, ap, ◌∙◌}
use Rattle.rp_base.specs.declared.value.Value.{Value}
use Rattle.rp_frame.specs.Top.{below, top}
use Rattle.rp_meaning.specs.Access as access
use Rattle.rp_meaning.specs.Frame.{Run}
use Rattle.rp_meaning.specs.State.{State}
use Rattle.rp_ops.specs.Outcome.{on_value}
use Rattle.rp_proxy.specs.declared.world.World.{World}
use Rattle.rp_engine.proofs.Moves.{on_ok}
use Rattle.rp_meaning.specs.Statements as forms
use Rattle.rp_engine.specs.Does as does
use Rattle.rp_engine.specs.Law.{Executes, frame_in, rest_of}
use Rattle.rp_access.specs.Moment.{state_of}
use Rattle.rp_engine.specs.Rest.{Held, did, rest}
use Rattle.rp_targets.proofs.storing.wait_for_key.Goals as goal

pub returns-clause-law : goal.returns-clause-law
returns-clause-law c =
    let m = c.args.machine.now in
    let n = c.wait_with.new.self in
    let k = does.expr c.args.key.now in
    let held : Run → State → List Value → Held = λ base s vs.
    did (frame_in base m) (below vs) (on_value (k (frame_in base m) s) (λ i s. access.set_item c.args.o i (top vs) (frame_in base m) s)) in
    on_ok c.wait_with.result ((base : Run) (s : State) → rest_of base n s ≡ rest m.tasks (held base s c.push.new.self))
    ((w : World) → Executes (forms.assign k (λ i. access.set_item c.args.o i c.args.value)) m w n w)
    (λ law w base. law base (state_of w) ∙ ap (λ vs. rest m.tasks (held base (state_of w) vs)) c.in_ok-push.ensures.pushed) c.wait_with.ensures.law
