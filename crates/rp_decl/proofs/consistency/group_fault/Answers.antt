use Rattle.toml.specs.View.{members_view}
use Rattle.rp_decl.proofs.Named.{groups-at}
use Rattle.rp_decl.proofs.consistency.group_fault.Goals as goal

pub returns : goal.returns
returns c = rw (groups-at (members_view c.args.document.now.entries), ← c.requires) c.unknown_at.ensures
