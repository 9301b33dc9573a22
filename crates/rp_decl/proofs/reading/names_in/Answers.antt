use Rattle.toml.proofs.Views.{view-Array}
use Rattle.rp_decl.proofs.reading.names_in.Goals as goal

pub returns-in-Array-clause-shown : goal.returns-in-Array-clause-shown
returns-in-Array-clause-shown c = rw (c.in-Array.is, view-Array) c.each_name.ensures.shown

pub returns-in-Array-clause-interned : goal.returns-in-Array-clause-interned
returns-in-Array-clause-interned c = rw (c.in-Array.is, view-Array) c.each_name.ensures.interned
