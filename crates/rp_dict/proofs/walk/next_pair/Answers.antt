use Rattle.std.proofs.Common.{◌∙◌, ◌+◌, sym, ap, arith, drop}
use Rattle.rp_dict.specs.Places.{live}
use Rattle.rp_dict.proofs.Live.{drop_at}
use Rattle.rp_dict.proofs.walk.next_pair.Goals as goal

pub returns-in-Some-pair : goal.returns-in-Some-pair
returns-in-Some-pair g c =
    let es = c.args.map.now.entries in
    let i = c.loop-at.at in
    sym c.loop-at.invariant ∙ ap live (drop_at es i (i + 1) _ (omega arith) (sym c.in-Some.ensures.entry)) ∙ c.in-Some-pair.ensures.pairs (live (drop (i + 1) es))

pub loop-at-preserved : goal.loop-at-preserved
loop-at-preserved g c =
    let es = c.args.map.now.entries in
    let i = c.loop-at.at in
    sym (ap live (drop_at es i (i + 1) _ (omega arith) (sym c.in-Some.ensures.entry)) ∙ c.in_default-pair.ensures.pairs (live (drop (i + 1) es))) ∙ c.loop-at.invariant
