use Rattle.std.proofs.Common.{◌∙◌, sym, ap}
use Rattle.rp_dict.specs.Places.{live}
use Rattle.rp_dict.proofs.Live.{set}
use Rattle.rp_dict.proofs.table.put.Goals as goal

pub returns-clause-added : goal.returns-clause-added
returns-clause-added g c =
    ap live c.add.ensures.added ∙ (set g.K.PartialEq.eq c.args.key c.args.value 0 c.args.map.now.entries c.requires.counted.kept).pairs

pub returns-clause-counted : goal.returns-clause-counted
returns-clause-counted g c =
    let s = set g.K.PartialEq.eq c.args.key c.args.value 0 c.args.map.now.entries c.requires.counted.kept in
    rw c.add.ensures.added (record { kept = s.kept; counted = c.requires.counted.counted ∙ sym s.counted })
