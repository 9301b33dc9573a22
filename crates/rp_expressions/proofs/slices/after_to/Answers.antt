use Rattle.std.proofs.Common.{ap, ◌∙◌, subst}
use Rattle.std.specs.Prelude.{OnOk}
use Rattle.rp_base.specs.declared.value.Value.{Value}
use Rattle.rp_frame.specs.Top.{below, top}
use Rattle.rp_meaning.specs.Frame.{Meaning}
use Rattle.rp_expressions.proofs.Slicings.{less, resumes}
use Rattle.rp_engine.specs.Does as does
use Rattle.rp_engine.specs.Law.{Evaluates}
use Rattle.rp_engine.specs.SliceSteps.{from_stride}
use Rattle.rp_engine.specs.declared.machine.Machine.{Machine}
use Rattle.rp_expressions.proofs.slices.after_to.Goals as goal

pub returns-clause-law : goal.returns-clause-law
returns-clause-law c =
    let m = c.args.machine.now in
    let z = c.at_hand-value.new.self in
    let n = c.stride.new.machine in
    let w = c.args.world.now in
    let v = c.stride.new.world in
    let r = c.stride.result in
    let vs = m.values in
    let first = c.at_hand-from.ensures.left in
    let x = c.at_hand-from.result in
    let M : Value → Value → Meaning = λ o x. from_stride o x (does.maybe c.args.stride.now) (does.trailers c.args.rest.now) c.args.to in
    resumes m z n w v r (below (below vs)) (M (top (below vs)) (top vs)) (less m c.at_hand-from.new.self z (below vs) first c.at_hand-value.ensures.left)
    (subst (λ (x : Value). OnOk r (Evaluates (M (top (below vs)) x) z w n v)) c.at_hand-from.ensures.value
    (subst (λ (o : Value). OnOk r (Evaluates (M o x) z w n v)) (c.at_hand-value.ensures.value ∙ ap (λ (z : Machine). top z.values) first) c.stride.ensures.law))
