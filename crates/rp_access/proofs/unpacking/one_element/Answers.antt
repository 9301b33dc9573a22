use Rattle.std.proofs.Common.{◌≡◌, Err, rules}
use Rattle.rp_access.proofs.Going.{IsEnd-same}
use Rattle.rp_access.proofs.Unpacked.{one_ends, one_gives, one_none}
use Rattle.rp_access.specs.Moment.{state_of}
use Rattle.rp_access.specs.Spots.{cursor_at}
use Rattle.rp_access.proofs.unpacking.one_element.Goals as goal

pub returns-in_err-found-clause-law : goal.returns-in_err-found-clause-law
returns-in_err-found-clause-law c =
    let e : c.from_residual.result ≡ Err c.in_err-found.field-0.0 = search rules in
    λ vs n frame is. rw e (one_ends frame c.args.side is (cursor_at c.args.value.now c.args.spot) (state_of c.args.world.now) vs n c.in_err-found.field-0.0
    (state_of c.next_element.new.world) c.in_err-found.ensures.law)

pub returns-in-Some-clause-law : goal.returns-in-Some-clause-law
returns-in-Some-clause-law c =
    let found = rw c.in-Some.is at c.in_ok-found.ensures.law in
    λ vs n frame is. one_gives frame c.args.side is (cursor_at c.args.value.now c.args.spot) (state_of c.args.world.now) vs n c.in-Some.found.0
    (cursor_at c.args.value.now c.in-Some.found.1) (state_of c.next_element.new.world) found

pub returns-in-None-clause-law : goal.returns-in-None-clause-law
returns-in-None-clause-law c =
    let t = state_of c.next_element.new.world in
    let found = rw c.in-None.is at c.in_ok-found.ensures.law in
    λ vs n frame is. IsEnd-same c.wrong_count.result t _ _
    (one_none frame c.args.side is (cursor_at c.args.value.now c.args.spot) (state_of c.args.world.now) vs n t found) (c.wrong_count.ensures t)
