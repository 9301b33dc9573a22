use Rattle.std.proofs.Common.{◌≡◌, ◌<◌, ◌+◌, ◌&&◌, ◌∙◌, ℕ, true, ap, get_or, length, nat_lt, subst, sym}
use Rattle.std.proofs.lemmas.Bool.{and_parts, ltb-true}
use Rattle.rp_decl.proofs.RingLinks.{raised-at, raised-not}
use Rattle.rp_decl.proofs.ring.raise.Goals as goal

pub returns-then-not-has_room-clause-counted : goal.returns-then-not-has_room-clause-counted
returns-then-not-has_room-clause-counted c = λ other inside.
    raised-not c.args.waits.now c.args.place other c.args.most inside
    (sym c.has_room.ensures ∙ c.if-not-has_room.true)

pub one_more-requires : goal.one_more-requires
one_more-requires c =
    let waits = c.args.waits.now in
    let place = c.args.place in
    let room : (nat_lt place (length waits) && nat_lt (get_or waits place 0) c.args.most) ≡ true =
    sym c.has_room.ensures ∙ c.if-not-has_room.false in
    let free = (and_parts (nat_lt place (length waits)) (nat_lt (get_or waits place 0) c.args.most) room).1 in
    subst (λ (n : ℕ). n < c.args.most) (sym c.wait_at.ensures) (ltb-true (get_or waits place 0) c.args.most free)

pub bounds-waits-place : goal.bounds-waits-place
bounds-waits-place c =
    let waits = c.args.waits.now in
    let place = c.args.place in
    let room : (nat_lt place (length waits) && nat_lt (get_or waits place 0) c.args.most) ≡ true =
    sym c.has_room.ensures ∙ c.if-not-has_room.false in
    ltb-true place (length waits)
    (and_parts (nat_lt place (length waits)) (nat_lt (get_or waits place 0) c.args.most) room).0

pub returns-clause-counted : goal.returns-clause-counted
returns-clause-counted c = λ other inside.
    let waits = c.args.waits.now in
    let place = c.args.place in
    let room : (nat_lt place (length waits) && nat_lt (get_or waits place 0) c.args.most) ≡ true =
    sym c.has_room.ensures ∙ c.if-not-has_room.false in
    let parts = and_parts (nat_lt place (length waits)) (nat_lt (get_or waits place 0) c.args.most) room in
    raised-at waits place other c.one_more.result c.args.most (ltb-true place (length waits) parts.0)
    (c.one_more.ensures ∙ ap (λ (n : ℕ). n + 1) c.wait_at.ensures) parts.1
