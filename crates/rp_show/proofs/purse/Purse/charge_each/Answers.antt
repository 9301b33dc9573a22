use Rattle.std.proofs.Common.{ℕ, List, [], ◌∷◌, ◌++◌, ◌+◌, append-nil, arith, chars, drop, length, map-id, sym, ap, ◌∙◌}
use Rattle.std.proofs.lemmas.Iterator.{YieldsList-from_chars}
use Rattle.std.proofs.lemmas.Iterator.Consumers.{YieldsList-turn, YieldsList-end}
use Rattle.std.proofs.lemmas.List.{drop_all, length_push}
use Rattle.rp_ops.specs.Outcome.{gives}
use Rattle.rp_show.specs.Show.{printed}
use Rattle.rp_store.proofs.CallerLemmas.{KeepsCounters-trans}
use Rattle.rp_show.specs.ShowView.{added, cells_of, moment}
use Rattle.rp_show.proofs.Lines.{added-added, printed-turn, printed-turn-over}
use Rattle.rp_show.proofs.purse.Purse.charge_each.Goals as goal

pub loop-c-preserved : goal.loop-c-preserved
loop-c-preserved c =
    let so_far = c.loop-c.yielded in
    let n = length so_far in
    let cs = chars c.args.text.now in
    let char = c.in-Some.c in
    let turn = YieldsList-turn (YieldsList-from_chars c.args.text.now c.utf8.text (cc)) so_far _ c.loop-c.yielded_by _ c.next.new.self char c.in-Some.is c.next.ensures.steps in
    let yes = c.if-not-takes.false in (
      (λ heap steps. c.loop-c.invariant.0 heap steps
          ∙ ap (added so_far)
          (printed-turn cs n char c.len_utf8.result steps (cells_of heap c.loop-c.self) (cells_of heap c.takes.new.self) turn.0 turn.1 c.len_utf8.ensures.len (c.takes.ensures.within yes)
          (ap (cells_of heap) (c.takes.ensures.charged yes)))
          ∙ added-added so_far (char ∷ []) (printed (drop (n + 1) cs) (moment heap c.takes.new.self steps))
          ∙ ap (λ (k : ℕ). added (so_far ++ char ∷ []) (printed (drop k cs) (moment heap c.takes.new.self steps))) (sym (length_push so_far char))),
      KeepsCounters-trans (cells_of [] c.args.self.now) (cells_of [] c.loop-c.self) (cells_of [] c.takes.new.self) c.loop-c.invariant.1 c.takes.ensures.counters,
    )

pub returns-then-not-takes-clause-plain : goal.returns-then-not-takes-clause-plain
returns-then-not-takes-clause-plain c = λ heap steps.
    let so_far = c.loop-c.yielded in
    let cs = chars c.args.text.now in
    let turn = YieldsList-turn (YieldsList-from_chars c.args.text.now c.utf8.text (cc)) so_far _ c.loop-c.yielded_by _ c.next.new.self c.in-Some.c c.in-Some.is c.next.ensures.steps in
    let no_room = c.if-not-takes.true in
    c.loop-c.invariant.0 heap steps
    ∙ ap (added so_far)
    (printed-turn-over cs (length so_far) c.in-Some.c c.len_utf8.result steps (cells_of heap c.loop-c.self) (cells_of heap c.takes.new.self) turn.0 turn.1 c.len_utf8.ensures.len (c.takes.ensures.over no_room)
    (ap (cells_of heap) (c.takes.ensures.same no_room)))

pub returns-clause-plain : goal.returns-clause-plain
returns-clause-plain c = λ heap steps.
    let so_far = c.loop-c.yielded in
    let cs = chars c.args.text.now in
    let end = YieldsList-end (YieldsList-from_chars c.args.text.now c.utf8.text (cc)) so_far _ c.loop-c.yielded_by _ c.next.new.self c.in-None.is c.next.ensures.steps in
    c.loop-c.invariant.0 heap steps
    ∙ ap (λ (l : List ℕ). added so_far (printed l (moment heap c.loop-c.self steps))) (drop_all (length so_far) cs (omega (arith, end.1)))
    ∙ ap (λ (t : List ℕ). gives t (moment heap c.loop-c.self steps)) (append-nil so_far ∙ sym (map-id so_far) ∙ end.0)
