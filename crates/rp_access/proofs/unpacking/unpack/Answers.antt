use Rattle.std.proofs.Common.{◌≡◌, Err, rules}
use Rattle.rp_access.proofs.Unpacked.{unpacked_comes, unpacked_ends}
use Rattle.rp_access.specs.Moment.{state_of}
use Rattle.rp_access.specs.Spots.{cursor_at}
use Rattle.rp_access.specs.Unpacking.{items_of}
use Rattle.rp_access.proofs.unpacking.unpack.Goals as goal

pub returns-in_err-spot-clause-law : goal.returns-in_err-spot-clause-law
returns-in_err-spot-clause-law c =
    let e : c.from_residual.result ≡ Err c.in_err-spot.field-0.0 = search rules in
    λ frame is. rw e (unpacked_ends frame c.args.count c.args.value.now (state_of c.args.world.now) (state_of c.walk.new.world) c.in_err-spot.field-0.0 c.in_err-spot.ensures.law)

pub returns-clause-law : goal.returns-clause-law
returns-clause-law c =
    λ frame is. unpacked_comes frame c.args.count c.args.value.now (state_of c.args.world.now) (state_of c.walk.new.world) (state_of c.all_elements.new.world) (items_of c.all_elements.result)
    (cursor_at c.args.value.now c.in_ok-spot.spot) c.in_ok-spot.ensures.law (c.all_elements.ensures.law frame is)
