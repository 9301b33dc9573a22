use Rattle.std.proofs.Common.{◌++◌, ◌∙◌, ap}
use Rattle.rp_ops.specs.View.{elements_of}
use Rattle.rp_ops.proofs.CallerLemmas.{length-elements}
use Rattle.rp_ops.proofs.Bytes.{repeat-nil, repeat-push}
use Rattle.rp_ops.proofs.sequences.copied.Goals as goal

pub returns-then-size-eq0 : goal.returns-then-size-eq0
returns-then-size-eq0 c =
    c.in_ok-all.ensures.items
    ∙ repeat-nil c.args.copies (elements_of c.args.store.now.heap c.args.x)
    (length-elements c.args.store.now.heap c.args.x c.elements_at-size.result.now c.elements_at-size.ensures.value ∙ c.if-size-eq0.true)

pub loop-preserved : goal.loop-preserved
loop-preserved c =
    let xs = elements_of c.args.store.now.heap c.args.x in
    c.in_ok-append.ensures ∙ ap (λ l. l ++ xs) c.loop.invariant ∙ repeat-push c.loop.counter xs
