use Rattle.rp_targets.proofs.PlaceEquations.{target_place}
use Rattle.rp_targets.proofs.looping.name_of.Goals as goal

pub returns-in-Place : goal.returns-in-Place
returns-in-Place c = rw (c.in-Place.is, target_place c.in-Place.place) c.place_name.ensures
