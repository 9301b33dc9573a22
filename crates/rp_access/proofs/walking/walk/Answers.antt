use Rattle.rp_access.proofs.Walked.{walk_comes}
use Rattle.rp_access.specs.Moment.{state_of}
use Rattle.rp_access.specs.Spots.{walk_at}
use Rattle.rp_access.proofs.walking.walk.Goals as goal

pub returns-clause-law : goal.returns-clause-law
returns-clause-law c =
    walk_comes c.args.value.now (state_of c.args.world.now) (state_of c.ask.new.world) (walk_at c.args.value.now c.first_spot.result) c.in_ok-ask.ensures.law c.first_spot.ensures
