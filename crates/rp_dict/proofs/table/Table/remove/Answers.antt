use Rattle.std.proofs.Common.{refl, sym, ap, ◌∙◌, ◌+◌, None, Option, get_or, arith}
use Rattle.rp_dict.specs.declared.slot.Slot.{Slot}
use Rattle.rp_dict.specs.declared.slot.Slot.TheVariants.{Live, Dead}
use Rattle.rp_dict.specs.Slot.{sought}
use Rattle.rp_dict.specs.Ranks.{rank}
use Rattle.rp_dict.proofs.Blocks.{no_blocks, no_place, plus_one}
use Rattle.rp_dict.proofs.Live.{absent-live, closed, fresh, length-live, remove_entry-missing, taken_at}
use Rattle.rp_dict.proofs.table.Table.remove.Goals as goal

pub returns-in_err-place-clause-removed : goal.returns-in_err-place-clause-removed
returns-in_err-place-clause-removed g c =
    let none = absent-live g.K.PartialEq.eq c.args.key.now (sought g.K.PartialEq.eq (Live c.args.key)) (λ b. refl) (λ m. refl) _ _ c.self.invariant.kept c.in_err-place.ensures.found in
    rw (← c.self.view_is) (sym (remove_entry-missing (g.K.PartialEq.eq c.args.key.now) _ none))

pub returns-in_err-place-clause-held : goal.returns-in_err-place-clause-held
returns-in_err-place-clause-held g c =
    let none = absent-live g.K.PartialEq.eq c.args.key.now (sought g.K.PartialEq.eq (Live c.args.key)) (λ b. refl) (λ m. refl) _ _ c.self.invariant.kept c.in_err-place.ensures.found in
    rw (← c.self.view_is) (c.from_residual.ensures ∙ sym none)

pub invariant_of-self : goal.invariant_of-self
invariant_of-self g c =
    let t = taken_at g.K.PartialEq.eq c.args.key.now (sought g.K.PartialEq.eq (Live c.args.key)) (λ b. refl) (λ m. refl) _ _ c.in_ok-place.place c.self.invariant.kept (sym c.in_ok-place.ensures.index) in
    rw c.taken_away.ensures.removed (record { kept = t.removed-kept; counted = c.self.invariant.counted ∙ sym t.removed-counted; blocks = rw c.reset.ensures.counts (no_blocks _); stand = rw (c.reset.ensures.index, c.reset.ensures.place) (no_place _) })

pub returns-then-self-clause-removed : goal.returns-then-self-clause-removed
returns-then-self-clause-removed g c =
    let t = taken_at g.K.PartialEq.eq c.args.key.now (sought g.K.PartialEq.eq (Live c.args.key)) (λ b. refl) (λ m. refl) _ _ c.in_ok-place.place c.self.invariant.kept (sym c.in_ok-place.ensures.index) in
    rw (← c.self.view_is, c.taken_away.ensures.removed) t.removed

pub returns-then-self-clause-held : goal.returns-then-self-clause-held
returns-then-self-clause-held g c =
    let t = taken_at g.K.PartialEq.eq c.args.key.now (sought g.K.PartialEq.eq (Live c.args.key)) (λ b. refl) (λ m. refl) _ _ c.in_ok-place.place c.self.invariant.kept (sym c.in_ok-place.ensures.index) in
    rw (← c.self.view_is) (c.taken_away.ensures.value (Dead 0, None) ∙ t.value)

pub marked-requires-clause-fresh : goal.marked-requires-clause-fresh
marked-requires-clause-fresh g c = fresh g.K.PartialEq.eq _ _ c.self.invariant.kept

pub overflow_add-self-in-Ok : goal.overflow_add-self-in-Ok
overflow_add-self-in-Ok g c = omega (arith, c.self.invariant.counted, length-live _ _ c.self.invariant.kept, c.len-half.ensures.len, c.len-half.ensures.small)

pub invariant_of-self-then-self-half : goal.invariant_of-self-then-self-half
invariant_of-self-then-self-half g c =
    let t = taken_at g.K.PartialEq.eq c.args.key.now (sought g.K.PartialEq.eq (Live c.args.key)) (λ b. refl) (λ m. refl) _ _ c.in_ok-place.place c.self.invariant.kept (sym c.in_ok-place.ensures.index) in
    let s = closed (c.self.inside.next + 1) _ t.marked-kept in
    rw (c.unmark.ensures, c.in-Ok.ensures.marked) (record { kept = s.kept; counted = sym s.counted; blocks = rw (← c.in-Ok.ensures.marked, ← c.unmark.ensures) c.count_blocks.ensures; stand = rw (c.reset-then-self-half.ensures.index, c.reset-then-self-half.ensures.place) (no_place _) })

pub invariant_of-self-else-self-half : goal.invariant_of-self-else-self-half
invariant_of-self-else-self-half g c =
    let t = taken_at g.K.PartialEq.eq c.args.key.now (sought g.K.PartialEq.eq (Live c.args.key)) (λ b. refl) (λ m. refl) _ _ c.in_ok-place.place c.self.invariant.kept (sym c.in_ok-place.ensures.index) in
    rw c.in-Ok.ensures.marked (record { kept = t.marked-kept; counted = ap (λ x. x + 1) c.self.invariant.counted ∙ sym t.marked-counted; blocks = c.lower.ensures.blocks c.self.inside.next; stand = c.lower.ensures.stand c.self.inside.next })

pub invariant_of-self-in-Err : goal.invariant_of-self-in-Err
invariant_of-self-in-Err g c =
    let t = taken_at g.K.PartialEq.eq c.args.key.now (sought g.K.PartialEq.eq (Live c.args.key)) (λ b. refl) (λ m. refl) _ _ c.in_ok-place.place c.self.invariant.kept (sym c.in_ok-place.ensures.index) in
    rw (c.taken_away-in-Err.ensures.removed, c.in-Err.ensures.same) (record { kept = t.removed-kept; counted = c.self.invariant.counted ∙ sym t.removed-counted; blocks = rw c.reset-in-Err.ensures.counts (no_blocks _); stand = rw (c.reset-in-Err.ensures.index, c.reset-in-Err.ensures.place) (no_place _) })

pub returns-then-self-half-clause-removed : goal.returns-then-self-half-clause-removed
returns-then-self-half-clause-removed g c =
    let t = taken_at g.K.PartialEq.eq c.args.key.now (sought g.K.PartialEq.eq (Live c.args.key)) (λ b. refl) (λ m. refl) _ _ c.in_ok-place.place c.self.invariant.kept (sym c.in_ok-place.ensures.index) in
    let s = closed (c.self.inside.next + 1) _ t.marked-kept in
    rw (← c.self.view_is, c.unmark.ensures, c.in-Ok.ensures.marked) (s.pairs ∙ t.marked)

pub returns-then-self-half-clause-held : goal.returns-then-self-half-clause-held
returns-then-self-half-clause-held g c =
    let t = taken_at g.K.PartialEq.eq c.args.key.now (sought g.K.PartialEq.eq (Live c.args.key)) (λ b. refl) (λ m. refl) _ _ c.in_ok-place.place c.self.invariant.kept (sym c.in_ok-place.ensures.index) in
    rw (← c.self.view_is) (c.in-Ok.ensures.value (Dead 0, None) ∙ t.value)

pub returns-else-self-half-clause-removed : goal.returns-else-self-half-clause-removed
returns-else-self-half-clause-removed g c =
    let t = taken_at g.K.PartialEq.eq c.args.key.now (sought g.K.PartialEq.eq (Live c.args.key)) (λ b. refl) (λ m. refl) _ _ c.in_ok-place.place c.self.invariant.kept (sym c.in_ok-place.ensures.index) in
    rw (← c.self.view_is, c.in-Ok.ensures.marked) t.marked

pub returns-else-self-half-clause-held : goal.returns-else-self-half-clause-held
returns-else-self-half-clause-held g c =
    let t = taken_at g.K.PartialEq.eq c.args.key.now (sought g.K.PartialEq.eq (Live c.args.key)) (λ b. refl) (λ m. refl) _ _ c.in_ok-place.place c.self.invariant.kept (sym c.in_ok-place.ensures.index) in
    rw (← c.self.view_is) (c.in-Ok.ensures.value (Dead 0, None) ∙ t.value)

pub returns-in-Err-clause-removed : goal.returns-in-Err-clause-removed
returns-in-Err-clause-removed g c =
    let t = taken_at g.K.PartialEq.eq c.args.key.now (sought g.K.PartialEq.eq (Live c.args.key)) (λ b. refl) (λ m. refl) _ _ c.in_ok-place.place c.self.invariant.kept (sym c.in_ok-place.ensures.index) in
    rw (← c.self.view_is, c.taken_away-in-Err.ensures.removed, c.in-Err.ensures.same) t.removed

pub returns-in-Err-clause-held : goal.returns-in-Err-clause-held
returns-in-Err-clause-held g c =
    let t = taken_at g.K.PartialEq.eq c.args.key.now (sought g.K.PartialEq.eq (Live c.args.key)) (λ b. refl) (λ m. refl) _ _ c.in_ok-place.place c.self.invariant.kept (sym c.in_ok-place.ensures.index) in
    let d : Slot g.row.K.Denot × Option g.row.V.Denot = (Dead 0, None) in
    rw (← c.self.view_is) (c.taken_away-in-Err.ensures.value (Dead 0, None) ∙ (λ j. (get_or (c.in-Err.ensures.same j) c.in_ok-place.place d).1) ∙ t.value)

pub lower-requires-clause-pair : goal.lower-requires-clause-pair
lower-requires-clause-pair g c =
    let t = taken_at g.K.PartialEq.eq c.args.key.now (sought g.K.PartialEq.eq (Live c.args.key)) (λ b. refl) (λ m. refl) _ _ c.in_ok-place.place c.self.invariant.kept (sym c.in_ok-place.ensures.index) in
    t.pair ∙ ap (rank c.self.inside.map.entries) (sym (plus_one c.in_ok-place.place))
