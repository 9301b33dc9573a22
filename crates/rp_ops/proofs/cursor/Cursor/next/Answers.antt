use Rattle.std.proofs.Common.{◌∙◌, ap, sym}
use Rattle.rp_base.specs.declared.meter.Meter.{Meter}
use Rattle.rp_store.specs.Store.{Cells}
use Rattle.rp_store.proofs.CallerLemmas.{KeepsCounters-same, KeepsCounters-trans}
use Rattle.rp_ops.specs.Standing.{cursor_of}
use Rattle.rp_ops.specs.contracts.cursor.Cursor.{the_view}
use Rattle.rp_ops.proofs.Cursors.{carried, sound-carried}
use Rattle.rp_ops.proofs.cursor.Cursor.next.Goals as goal
use Rattle.rp_ops.proofs.cursor.Cursor.next.Goals.{in-Elements, in-Keys, in-Letters}

pub returns-clause-plain : goal.returns-clause-plain
returns-clause-plain c = elim c.match-self.branch [
  | in-Elements w ↦
      carried _ _ _ _ _ _ _ _ _ _ _ w.result-is (ap the_view w.self-inside-is) w.store-is (ap (λ (m : Meter). m.left) w.meter-is)
      (sym c.self.view_is ∙ ap cursor_of w.in-Elements.is) w.next_element.ensures.plain
  | in-Keys w ↦
      carried _ _ _ _ _ _ _ _ _ _ _ w.result-is (ap the_view w.self-inside-is) w.store-is (ap (λ (m : Meter). m.left) w.meter-is)
      (sym c.self.view_is ∙ ap cursor_of w.in-Keys.is) w.key_after.ensures.plain
  | in-Letters w ↦
      carried _ _ _ _ _ _ _ _ _ _ _ w.result-is (ap the_view w.self-inside-is) w.store-is (ap (λ (m : Meter). m.left) w.meter-is)
      (sym c.self.view_is ∙ ap cursor_of w.in-Letters.is) w.next_letter.ensures.plain
]

pub returns-clause-sound : goal.returns-clause-sound
returns-clause-sound c = elim c.match-self.branch [
  | in-Elements w ↦ sound-carried _ _ _ _ w.result-is (ap (λ (s : Cells). s.heap) w.store-is) w.next_element.ensures.sound
  | in-Keys w ↦ sound-carried _ _ _ _ w.result-is (ap (λ (s : Cells). s.heap) w.store-is ∙ w.key_after.ensures.same) (w.key_after.ensures.sound c.args.store.now.heap)
  | in-Letters w ↦
      sound-carried _ _ _ _ w.result-is (ap (λ (s : Cells). s.heap) w.store-is ∙ w.next_letter.ensures.same) (w.next_letter.ensures.sound c.args.store.now.heap)
]

pub returns-clause-counters : goal.returns-clause-counters
returns-clause-counters c = elim c.match-self.branch [
  | in-Elements w ↦ KeepsCounters-same c.args.store.now _ w.store-is
  | in-Keys w ↦ KeepsCounters-trans c.args.store.now w.key_after.new.store _ w.key_after.ensures.counters (KeepsCounters-same _ _ w.store-is)
  | in-Letters w ↦ KeepsCounters-trans c.args.store.now w.next_letter.new.store _ w.next_letter.ensures.counters (KeepsCounters-same _ _ w.store-is)
]
