use Rattle.std.proofs.Common.{◌≡◌, Err, sym, ◌∙◌, rules}
use Rattle.rp_access.proofs.Going.{IsEnd-same}
use Rattle.rp_access.proofs.Unpacked.{last_ends, last_is_none, last_some}
use Rattle.rp_access.specs.Moment.{state_of}
use Rattle.rp_access.specs.Spots.{cursor_at}
use Rattle.rp_access.proofs.unpacking.no_element.Goals as goal

pub returns-in_err-found-clause-law : goal.returns-in_err-found-clause-law
returns-in_err-found-clause-law c =
    let e : c.from_residual.result ≡ Err c.in_err-found.field-0.0 = search rules in
    λ vs frame is. rw e (last_ends frame c.args.side is (cursor_at c.args.value.now c.args.spot) (state_of c.args.world.now) vs c.in_err-found.field-0.0
    (state_of c.next_element.new.world) c.in_err-found.ensures.law)

pub returns-then-is_some-clause-law : goal.returns-then-is_some-clause-law
returns-then-is_some-clause-law c =
    let t = state_of c.next_element.new.world in
    let some = sym c.is_some.ensures ∙ c.if-is_some.true in
    λ vs frame is. IsEnd-same c.wrong_count.result t _ _
    (last_some frame c.args.side is (cursor_at c.args.value.now c.args.spot) (state_of c.args.world.now) vs c.args.value.now c.in_ok-found.found t some c.in_ok-found.ensures.law) (c.wrong_count.ensures t)

pub returns-clause-law : goal.returns-clause-law
returns-clause-law c =
    let none = sym c.is_some.ensures ∙ c.if-is_some.false in
    λ vs frame is. last_is_none frame c.args.side is (cursor_at c.args.value.now c.args.spot) (state_of c.args.world.now) vs c.args.value.now c.in_ok-found.found
    (state_of c.next_element.new.world) none c.in_ok-found.ensures.law
