use Rattle.toml.proofs.Views.{view-Table}
use Rattle.rp_decl.proofs.members.like_of.Goals as goal

pub returns-in-Table-clause-like : goal.returns-in-Table-clause-like
returns-in-Table-clause-like c = rw (c.in-Table.is, view-Table) c.like_at.ensures.like

pub returns-in-Table-clause-interned : goal.returns-in-Table-clause-interned
returns-in-Table-clause-interned c = rw (c.in-Table.is, view-Table) c.like_at.ensures.interned
