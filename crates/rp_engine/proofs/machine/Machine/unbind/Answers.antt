use Rattle.std.proofs.Common.{None, sym, ap, subst, ◌∙◌}
use Rattle.std.specs.Prelude.{is_some}
use Rattle.rp_meaning.specs.Scopes.{held, with_slot_set}
use Rattle.rp_meaning.specs.State.{next}
use Rattle.rp_ops.specs.Outcome.{gives}
use Rattle.rp_access.proofs.Going.{IsEnd-same}
use Rattle.rp_proxy.specs.Faithful.{IsFaithful}
use Rattle.rp_proxy.specs.declared.world.World.{World}
use Rattle.rp_engine.proofs.Unbinding.{bound, unbound}
use Rattle.rp_engine.proofs.Worlds.{left_same, shape_stored}
use Rattle.rp_engine.specs.Law.{frame_in}
use Rattle.rp_engine.specs.Moment.{place_view, program_at}
use Rattle.rp_access.specs.Moment.{state_of}
use Rattle.rp_engine.specs.Slots.{slot_found, unbound_at}
use Rattle.rp_engine.proofs.machine.Machine.unbind.Goals as goal

pub returns-then-is_bound-clause-law : goal.returns-then-is_bound-clause-law
returns-then-is_bound-clause-law c = λ base.
    let m = c.args.self.now in
    let w = c.args.world.now in
    let f = frame_in base m in
    let e = c.slot-slot.ensures.slot ∙ ap (λ p. slot_found (program_at m.units.now m.frame.side).layouts w.store.heap m.frame.scope p c.args.name) c.place-place.ensures in
    bound f c.args.name (state_of w) (ap (λ z. is_some (held w.store.heap z)) (sym e) ∙ sym c.is_bound.ensures ∙ c.if-is_bound.true)
    ∙ ap (gives next) (sym (c.set.ensures.law ∙ ap (λ z. with_slot_set z None (state_of w)) e))

pub returns-else-is_bound-clause-law : goal.returns-else-is_bound-clause-law
returns-else-is_bound-clause-law c = λ base.
    let m = c.args.self.now in
    let w = c.args.world.now in
    let f = frame_in base m in
    let e = c.slot-slot.ensures.slot ∙ ap (λ p. slot_found (program_at m.units.now m.frame.side).layouts w.store.heap m.frame.scope p c.args.name) c.place-place.ensures in
    IsEnd-same c.not_bound.result (state_of c.not_bound.new.world) _ _
    (unbound f c.args.name (state_of w) (ap (λ z. is_some (held w.store.heap z)) (sym e) ∙ sym c.is_bound.ensures ∙ c.if-is_bound.false)
    ∙ ap (λ p. unbound_at (place_view p) c.args.name (state_of w)) (sym c.place-place.ensures)) c.not_bound.ensures.law

pub returns-else-is_bound-clause-faithful : goal.returns-else-is_bound-clause-faithful
returns-else-is_bound-clause-faithful c = subst IsFaithful (sym c.not_bound.ensures.same) c.requires.ready.faithful

pub returns-else-is_bound-clause-shape : goal.returns-else-is_bound-clause-shape
returns-else-is_bound-clause-shape c = shape_stored c.args.world.now.store c.not_bound.new.world.store (ap (λ (v : World). v.store) c.not_bound.ensures.same)

pub returns-else-is_bound-clause-fewer : goal.returns-else-is_bound-clause-fewer
returns-else-is_bound-clause-fewer c = left_same c.args.world.now c.not_bound.new.world c.not_bound.ensures.same
