use Rattle.rp_decl.proofs.decl.Decl.classes.Goals as goal

pub returns-clause-within : goal.returns-clause-within
returns-clause-within c = rw (c.list.ensures, ← c.self.view_is) c.self.invariant.classes
