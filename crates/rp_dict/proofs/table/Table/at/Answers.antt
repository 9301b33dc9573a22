use Rattle.std.proofs.Common.{◌∙◌, ap, slice_get, sym}
use Rattle.rp_dict.specs.Places.{live}
use Rattle.rp_dict.proofs.Blocks.{found_from}
use Rattle.rp_dict.proofs.Live.{unmarked_at, unmarked_past}
use Rattle.rp_dict.proofs.table.Table.at.Goals as goal

pub returns-in_err-slot : goal.returns-in_err-slot
returns-in_err-slot g c =
    rw (← c.self.view_is, c.from_residual.ensures)
    (sym (unmarked_past c.self.inside.next c.self.inside.map.entries c.args.i c.self.invariant.kept c.in_err-slot.ensures.entry))

pub returns-then-self-eq0 : goal.returns-then-self-eq0
returns-then-self-eq0 g c =
    rw (← c.self.view_is)
    (c.pair.ensures.first ∙ unmarked_at c.self.inside.next c.self.inside.map.entries c.args.i c.self.invariant.kept (sym c.self.invariant.counted ∙ c.if-self-eq0.true) _ (sym c.in_ok-slot.ensures.entry))

pub returns : goal.returns
returns g c =
    let es = c.self.inside.map.entries in
    rw (← c.self.view_is)
    (c.walked_at.ensures ∙ ap (λ l. slice_get l c.near-place.result.1) c.of_places.ensures ∙ found_from es c.near-place.result.0 c.near-place.result.1 ∙ ap (slice_get (live es)) c.near-place.ensures.passed)
