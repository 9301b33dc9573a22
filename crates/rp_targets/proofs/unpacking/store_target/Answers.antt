use Rattle.std.proofs.Common.{sym}
use Rattle.rp_targets.proofs.PlaceEquations.{target_group, target_place}
use Rattle.rp_engine.proofs.Weights as weights
use Rattle.rp_targets.proofs.unpacking.store_target.Goals as goal

pub returns-in-Place-clause-law : goal.returns-in-Place-clause-law
returns-in-Place-clause-law c = rw (c.in-Place.is, target_place) c.store.ensures.law

pub returns-in-Group-clause-law : goal.returns-in-Group-clause-law
returns-in-Group-clause-law c = rw (c.in-Group.is, target_group, sym c.deref.ensures.value) c.unpack.ensures.law

pub returns-in-Place-clause-less : goal.returns-in-Place-clause-less
returns-in-Place-clause-less c = rw (c.in-Place.is, weights.target_place) c.store.ensures.less

pub returns-in-Group-clause-less : goal.returns-in-Group-clause-less
returns-in-Group-clause-less c = rw (c.in-Group.is, weights.target_group, sym c.deref.ensures.value) c.unpack.ensures.less
