use Rattle.std.proofs.Common.{sym, subst}
use Rattle.rp_base.specs.declared.value.Rock.{Rock}
use Rattle.rp_ops.specs.Outcome.{Meets, state_of}
use Rattle.rp_items.specs.Slices.{rock_slice, span_named}
use Rattle.rp_items.proofs.slices.rock_slice.Goals as goal

pub returns-in-Text-clause-plain : goal.returns-in-Text-clause-plain
returns-in-Text-clause-plain c =
    let parts = span_named c.args.parts.from.now c.args.parts.to.now c.args.parts.step.now in
    (λ steps. subst (λ (r : Rock). Meets c.text_slice.result (state_of c.text_slice.new.store steps) (rock_slice r parts (state_of c.args.store.now steps)))
    (sym c.in-Text.is) (c.text_slice.ensures.plain steps))
