use Rattle.std.proofs.Common.{◌<◌, length, ◌+◌, ◌-◌, ◌*◌, ◌/◌, arith}
use Rattle.rp_dict.proofs.Blocks.{any_default, blocks_lowered, in_block, rank_grows}
use Rattle.rp_dict.proofs.ranks.lower_block.Goals as goal

pub overflow_sub-index_mut : goal.overflow_sub-index_mut
overflow_sub-index_mut g c =
    let es = c.args.map.now.entries in
    let p = c.args.place in
    let j = c.args.place / 1024 in
    let b = in_block p in
    let inside : j < length c.args.counts.now.items = omega (arith, c.if-block-len.true, c.len.ensures) in
    omega (arith, any_default c.args.counts.now.items j c.index_mut.result.now 0 inside, c.index_mut.ensures.value, c.requires.pair, c.requires.blocks.counted j inside, rank_grows es (j * 1024) p b.0, rank_grows es (p + 1) (j * 1024 + 1024) (omega (arith, b.1)))

pub returns-then-block-len : goal.returns-then-block-len
returns-then-block-len g c mark =
    let es = c.args.map.now.entries in
    let p = c.args.place in
    let j = c.args.place / 1024 in
    let b = in_block p in
    let inside : j < length c.args.counts.now.items = omega (arith, c.if-block-len.true, c.len.ensures) in
    blocks_lowered c.args.counts.now.items es p j (c.index_mut.result.now - 1) mark c.requires.blocks c.requires.pair b.0 b.1 inside
    (omega (arith, any_default c.args.counts.now.items j c.index_mut.result.now 0 inside, c.index_mut.ensures.value, c.requires.pair, c.requires.blocks.counted j inside, rank_grows es (j * 1024) p b.0, rank_grows es (p + 1) (j * 1024 + 1024) (omega (arith, b.1))))
