use Rattle.std.proofs.Common.{◌≡◌, ◌∷◌, List, subst}
use Rattle.std.specs.Prelude.{OnOk}
use Rattle.rp_base.specs.declared.value.Value.{Value}
use Rattle.rp_meaning.specs.Frame.{Run}
use Rattle.rp_meaning.specs.State.{State}
use Rattle.rp_engine.specs.Law.{frame_in, rest_of}
use Rattle.rp_engine.specs.Rest.{after, begun, rest}
use Rattle.rp_engine.proofs.machine.Machine.wait_with_three.Goals as goal

pub returns-clause-law : goal.returns-clause-law
returns-clause-law c =
    let m = c.args.self.now in
    subst (λ (vs : List Value). OnOk c.wait_with_two.result ((base : Run) (s : State) → rest_of base c.wait_with_two.new.self s
    ≡ rest m.tasks (after c.args.task (begun (frame_in base m) c.args.control (c.args.third ∷ c.args.second ∷ vs) m.end s))))
    c.in_ok-push.ensures.pushed c.wait_with_two.ensures.law
