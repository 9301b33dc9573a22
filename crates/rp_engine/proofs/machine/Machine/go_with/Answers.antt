use Rattle.std.proofs.Common.{List, ap}
use Rattle.rp_base.specs.declared.value.Value.{Value}
use Rattle.rp_engine.specs.Law.{frame_in}
use Rattle.rp_engine.specs.Rest.{begun, rest}
use Rattle.rp_engine.proofs.machine.Machine.go_with.Goals as goal

pub returns-clause-law : goal.returns-clause-law
returns-clause-law c = λ base s.
    let m = c.args.self.now in
    ap (λ (vs : List Value). rest m.tasks (begun (frame_in base m) c.args.control vs m.end s)) c.in_ok-push.ensures.pushed
