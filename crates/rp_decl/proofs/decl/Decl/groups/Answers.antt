use Rattle.rp_decl.proofs.decl.Decl.groups.Goals as goal

pub returns-clause-within : goal.returns-clause-within
returns-clause-within c = rw (c.as_slice.ensures.value, ← c.self.view_is) c.self.invariant.groups
