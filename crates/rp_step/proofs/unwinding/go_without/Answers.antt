use Rattle.std.proofs.Common.{◌≡◌, List, subst}
use Rattle.rp_base.specs.declared.value.Value.{Value}
use Rattle.rp_engine.proofs.Passing.{ready_less}
use Rattle.rp_engine.specs.Law.{frame_in, rest_of}
use Rattle.rp_engine.specs.Rest.{begun, rest}
use Rattle.rp_step.proofs.unwinding.go_without.Goals as goal

pub returns-clause-law : goal.returns-clause-law
returns-clause-law c = λ base s.
    let m = c.args.machine.now in
    subst (λ (vs : List Value). rest_of base c.go.new.self s ≡ rest m.tasks (begun (frame_in base m) c.args.control vs m.end s)) c.pop-value.ensures.left (c.go.ensures.law base s)

pub returns-clause-ready : goal.returns-clause-ready
returns-clause-ready c = λ w h. c.go.ensures.ready w (ready_less c.args.machine.now c.pop-value.new.self c.pop-value.ensures.left w h)
