use Rattle.std.proofs.Common.{ap, sym, ◌∙◌}
use Rattle.std.proofs.lemmas.Option.{IfSome_then}
use Rattle.rp_meaning.specs.Scopes as scopes
use Rattle.rp_meaning.specs.Scopes.{held}
use Rattle.rp_scope.specs.declared.place.Place2.{Place2}
use Rattle.std.specs.Prelude.{Option}
use Rattle.rp_engine.specs.Law.{frame_in}
use Rattle.rp_engine.specs.Moment.{program_at}
use Rattle.rp_engine.specs.NumberSteps.{int}
use Rattle.rp_engine.specs.Slots.{slot_found}
use Rattle.rp_engine.proofs.WholeNumbers.{name_read}
use Rattle.rp_engine.proofs.machine.Machine.number_named.Goals as goal

pub returns-clause-law : goal.returns-clause-law
returns-clause-law c =
    let m = c.args.self.now in
    let heap = c.args.world.now.store.heap in
    let table = (program_at m.units.now m.frame.side).layouts in
    IfSome_then c.number_in.result c.number_in.ensures.value (λ n is base s same. name_read (frame_in base m) c.args.name heap (int n)
    (ap (λ (place : Place2). held heap (slot_found table heap m.frame.scope place c.args.name)) (sym c.place-place.ensures)
    ∙ ap (λ (slot : Option scopes.Slot). held heap slot) (sym c.slot-slot.ensures.slot) ∙ is) s same)
