use Rattle.std.proofs.Common.{◌≡◌, length}
use Rattle.rp_dict.specs.Ranks.{AreBlocks}
use Rattle.rp_dict.proofs.ranks.count_blocks.Given as goal

abbrev pub invariant-loop-block : goal.invariant-loop-block
invariant-loop-block g l = (length l.counts.items ≡ l.block) × AreBlocks l.counts.items l.map.entries
