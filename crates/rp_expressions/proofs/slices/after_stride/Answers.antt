use Rattle.std.proofs.Common.{ap, ◌∙◌, subst}
use Rattle.std.specs.Prelude.{OnOk}
use Rattle.rp_base.specs.declared.value.Value.{Value}
use Rattle.rp_frame.specs.Top.{below, top}
use Rattle.rp_meaning.specs.Frame.{Meaning}
use Rattle.rp_expressions.proofs.Slicings.{less, resumes}
use Rattle.rp_engine.specs.Does as does
use Rattle.rp_engine.specs.Law.{Evaluates}
use Rattle.rp_engine.specs.SliceSteps.{with_slice}
use Rattle.rp_engine.specs.declared.machine.Machine.{Machine}
use Rattle.rp_expressions.proofs.slices.after_stride.Goals as goal

pub returns-clause-law : goal.returns-clause-law
returns-clause-law c =
    let m = c.args.machine.now in
    let z = c.at_hand-value.new.self in
    let n = c.slice_of.new.machine in
    let w = c.args.world.now in
    let v = c.slice_of.new.world in
    let r = c.slice_of.result in
    let vs = m.values in
    let first = c.at_hand-to.ensures.left in
    let second = less m c.at_hand-to.new.self c.at_hand-from.new.self (below vs) first c.at_hand-from.ensures.left in
    let y = c.at_hand-to.result in
    let x = c.at_hand-from.result in
    let M : Value → Value → Value → Meaning = λ o x y. with_slice o x y (does.trailers c.args.rest.now) c.args.stride in
    resumes m z n w v r (below (below (below vs))) (M (top (below (below vs))) (top (below vs)) (top vs)) (less m c.at_hand-from.new.self z (below (below vs)) second c.at_hand-value.ensures.left)
    (subst (λ (y : Value). OnOk r (Evaluates (M (top (below (below vs))) (top (below vs)) y) z w n v)) c.at_hand-to.ensures.value
    (subst (λ (x : Value). OnOk r (Evaluates (M (top (below (below vs))) x y) z w n v)) (c.at_hand-from.ensures.value ∙ ap (λ (z : Machine). top z.values) first)
    (subst (λ (o : Value). OnOk r (Evaluates (M o x y) z w n v)) (c.at_hand-value.ensures.value ∙ ap (λ (z : Machine). top z.values) second) c.slice_of.ensures.law)))
