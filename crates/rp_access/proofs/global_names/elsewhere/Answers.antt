use Rattle.rp_access.proofs.Exposed.{rock_fit}
use Rattle.rp_access.proofs.global_names.elsewhere.Goals as goal

pub returns-in-None-clause-fit : goal.returns-in-None-clause-fit
returns-in-None-clause-fit c = rock_fit c.args.world.now.store.heap c.args.side c.built_in.result c.built_in.ensures.rock
