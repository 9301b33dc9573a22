use Rattle.std.proofs.Common.{◌≡◌, ap, arith, length}
use Rattle.rp_checker.specs.Plan.{HasPlacesWithin}
use Rattle.rp_checker.proofs.Plans.{followed-push, chain-done, chain-full}
use Rattle.rp_checker.proofs.plan.Plan.chain.Goals as goal
use Rattle.rp_checker.proofs.plan.Plan.chain.Goals.{then-done-place-via-then-done-place, then-done-place-via-else-done-place+then-len-self}

pub returns-then-done-place : goal.returns-then-done-place
returns-then-done-place c =
    let followed = rw c.in-Some.is at c.loop-next.invariant in
    let seen : length c.self.inside.classes.now ≡ length c.args.self.now.classes = ap (λ p. length p.classes) c.self.view_is in
    elim c.then-done-place.branch [ then-done-place-via-then-done-place w ↦ chain-done _ _ _ _ _ followed w.if-done-place.true | then-done-place-via-else-done-place+then-len-self w ↦ chain-full _ _ _ _ _ c.requires.within followed (omega arith) ]

pub loop-next-preserved : goal.loop-next-preserved
loop-next-preserved c =
    let followed = rw c.in-Some.is at c.loop-next.invariant in
    let seen : length c.self.inside.classes.now ≡ length c.args.self.now.classes = ap (λ p. length p.classes) c.self.view_is in
    let places : HasPlacesWithin c.args.self.now = rw (← c.self.view_is) c.self.invariant in
    rw (c.in_ok-push.ensures.items, c.like-next.ensures) (followed-push _ _ _ _ places (omega arith) followed)
