use Rattle.rp_engine.proofs.Equations.{place_name}
use Rattle.rp_targets.proofs.looping.place_name.Goals as goal

pub returns-in-Name : goal.returns-in-Name
returns-in-Name c = rw (c.in-Name.is) (place_name c.in-Name.name)
