use Rattle.std.proofs.Common.{subst}
use Rattle.std.specs.Prelude.{OnOk}
use Rattle.rp_engine.proofs.Gatherings.{gathers_next}
use Rattle.rp_engine.specs.Does as does
use Rattle.rp_engine.specs.GatheringSteps.{Gathers}
use Rattle.rp_engine.specs.declared.machine.Machine.{Machine}
use Rattle.rp_expressions.proofs.displays.after_item.Goals as goal

pub returns-clause-law : goal.returns-clause-law
returns-clause-law c =
    let w = c.args.world.now in
    let n = c.gather.new.machine in
    let v = c.gather.new.world in
    let r = c.gather.result in
    let ms = does.exprs c.args.rest.now in
    let more = c.in_ok-count.count in
    gathers_next c.args.machine.now n w v r c.args.kind c.args.count ms c.args.value more c.in_ok-count.ensures
    (subst (λ (z : Machine). OnOk r (Gathers c.args.kind more ms z w n v)) c.in_ok-hold.ensures.held c.gather.ensures.law)
