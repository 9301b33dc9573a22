use Rattle.std.proofs.Common.{◌+◌, ◌-◌, arith}
use Rattle.rp_dict.proofs.Blocks.{place_behind, rank_grows}
use Rattle.rp_dict.proofs.ranks.lower.Goals as goal

pub overflow_sub-ranks : goal.overflow_sub-ranks
overflow_sub-ranks g c =
    let es = c.args.map.now.entries in
    omega (arith, c.requires.pair, c.requires.stand.ranked, rank_grows es (c.args.place + 1) c.args.ranks.now.place (omega (arith, c.if-place-ranks.true)))

pub returns-then-place-ranks-clause-stand : goal.returns-then-place-ranks-clause-stand
returns-then-place-ranks-clause-stand g c mark =
    place_behind c.args.ranks.now.index (c.args.ranks.now.index - 1) c.args.ranks.now.place c.args.map.now.entries c.args.place mark c.requires.stand c.requires.pair c.if-place-ranks.true
    (omega (arith, c.requires.pair, c.requires.stand.ranked, rank_grows c.args.map.now.entries (c.args.place + 1) c.args.ranks.now.place (omega (arith, c.if-place-ranks.true))))
