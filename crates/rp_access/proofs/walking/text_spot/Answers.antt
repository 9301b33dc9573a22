use Rattle.std.proofs.Common.{ap}
use Rattle.rp_ops.specs.Walk.{characters_from}
use Rattle.rp_access.proofs.Letters.{from_start}
use Rattle.rp_access.proofs.walking.text_spot.Goals as goal

pub returns : goal.returns
returns c = ap characters_from (from_start c.as_str-letters.result.now c.args.text.now c.as_str-letters.utf8 c.as_str-letters.ensures)
