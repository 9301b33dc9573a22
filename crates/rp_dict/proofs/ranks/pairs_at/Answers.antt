use Rattle.std.proofs.Common.{◌+◌, ◌∙◌, ap, sym}
use Rattle.rp_dict.specs.Ranks.{rank}
use Rattle.rp_dict.proofs.Blocks.{plus_one, rank_next}
use Rattle.rp_dict.proofs.ranks.pairs_at.Goals as goal

pub returns-clause-counted : goal.returns-clause-counted
returns-clause-counted g c =
    let es = c.args.map.now.entries in
    ap (λ n. rank es c.args.place + n) c.pairs_of.ensures.counted
    ∙ rank_next es c.args.place _ (sym c.in-Some.ensures.entry)
    ∙ ap (rank es) (sym (plus_one c.args.place))
