use Rattle.std.proofs.Common.{ap, length, arith, take}
use Rattle.std.specs.List.{sum}
use Rattle.rp_dict.proofs.Blocks.{blocks_sum}
use Rattle.rp_dict.proofs.ranks.near.Goals as goal

pub returns-clause-passed : goal.returns-clause-passed
returns-clause-passed g c =
    let block = c.block_of-block.result.0 in
    let whole = ap length c.as_slice.ensures.value in
    let sums = ap (λ l. sum (take block l)) c.as_slice.ensures.value in
    omega (arith, c.block_of-block.ensures.passed, sums, blocks_sum c.args.ranks.now.counts.items c.args.map.now.entries block c.requires.blocks (omega (arith, c.block_of-block.ensures.within, whole)))
