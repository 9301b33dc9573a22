use Rattle.std.proofs.Common.{◌-◌, ◌∙◌, ℕ, ap, length, sym}
use Rattle.std.proofs.lemmas.Bool.{ltb-false, ltb-true}
use Rattle.rp_decl.proofs.RingLinks.{lowered-at, lowered-not}
use Rattle.rp_decl.proofs.ring.lower.Goals as goal

pub returns-then-not-has_place : goal.returns-then-not-has_place
returns-then-not-has_place c = λ other.
    lowered-not c.args.waits.now c.args.place other
    (ltb-false c.args.place (length c.args.waits.now) (sym c.has_place.ensures ∙ c.if-not-has_place.true))

pub bounds-waits-place : goal.bounds-waits-place
bounds-waits-place c =
    ltb-true c.args.place (length c.args.waits.now) (sym c.has_place.ensures ∙ c.if-not-has_place.false)

pub returns : goal.returns
returns c = λ other.
    lowered-at c.args.waits.now c.args.place other c.one_less.result
    (ltb-true c.args.place (length c.args.waits.now) (sym c.has_place.ensures ∙ c.if-not-has_place.false))
    (c.one_less.ensures ∙ ap (λ (n : ℕ). n - 1) c.wait_at.ensures)
