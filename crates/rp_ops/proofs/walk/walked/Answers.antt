use Rattle.std.proofs.lemmas.List.Elements.{All-same}
use Rattle.rp_store.specs.Kept.{IsSound}
use Rattle.rp_ops.specs.View.{elements_of}
use Rattle.rp_ops.proofs.CallerLemmas.{AreSound-elements, length-elements}
use Rattle.rp_ops.proofs.Walks.{walked-gives, walked-stops}
use Rattle.rp_ops.proofs.walk.walked.Goals as goal

pub returns-in_err-steps-clause-plain : goal.returns-in_err-steps-clause-plain
returns-in_err-steps-clause-plain c =
    let s = c.args.store.now in
    let size = length-elements s.heap c.args.x c.elements_at-count.result.now c.elements_at-count.ensures.value in
    walked-stops (elements_of s.heap c.args.x) s _ c.args.meter.now.left c.steps.new.meter.left c.from_residual.result c.in_err-steps.field-0.0
    c.from_residual.ensures.1 c.in_err-steps.ensures.stopped size c.in_err-steps.ensures.short c.in_err-steps.ensures.none

pub returns-clause-plain : goal.returns-clause-plain
returns-clause-plain c =
    let s = c.args.store.now in
    let size = length-elements s.heap c.args.x c.elements_at-count.result.now c.elements_at-count.ensures.value in
    walked-gives (elements_of s.heap c.args.x) c.in_ok-values.values.items s _ c.args.meter.now.left c.steps.new.meter.left c.in_ok-values.ensures size
    c.in_ok-steps.ensures.taken

pub returns-clause-sound : goal.returns-clause-sound
returns-clause-sound c =
    let heap = c.args.store.now.heap in
    All-same (IsSound heap) c.in_ok-values.values.items (elements_of heap c.args.x) c.in_ok-values.ensures
    (AreSound-elements heap c.args.x.at c.args.x.lent c.elements_at-count.ensures.kept)
