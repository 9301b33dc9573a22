use Rattle.std.proofs.Common.{ℕ, List, [], ◌∷◌, ◌++◌, ◌+◌, append-nil, arith, chars, drop, length, map-id, sym, ap, ◌∙◌}
use Rattle.std.proofs.lemmas.Iterator.{YieldsList-from_chars}
use Rattle.std.proofs.lemmas.Iterator.Consumers.{YieldsList-turn, YieldsList-end}
use Rattle.std.proofs.lemmas.List.{drop_all, length_push}
use Rattle.rp_store.specs.Store.{Cells}
use Rattle.rp_store.proofs.CallerLemmas.{KeepsCounters-trans}
use Rattle.rp_ops.specs.Outcome.{gives, state_of}
use Rattle.rp_show.specs.Show.{printed}
use Rattle.rp_show.specs.ShowView.{added}
use Rattle.rp_show.proofs.CallerLemmas.{added-added, no_cell_meets, printed-turn, printed-turn-over, stops}
use Rattle.rp_native.proofs.print.charge_text.Goals as goal

pub loop-letter-preserved : goal.loop-letter-preserved
loop-letter-preserved c =
    let so_far = c.loop-letter.yielded in
    let n = length so_far in
    let cs = chars c.args.text.now in
    let char = c.in-Some.letter in
    let turn = YieldsList-turn (YieldsList-from_chars c.args.text.now c.utf8.text (cc)) so_far _ c.loop-letter.yielded_by _ c.next.new.self char c.in-Some.is c.next.ensures.steps in (
      (λ steps. c.loop-letter.invariant.0 steps
          ∙ ap (added so_far)
          (printed-turn cs n char c.len_utf8.result steps c.loop-letter.store c.charge.new.store turn.0 turn.1 c.len_utf8.ensures.len c.in_ok-charge.ensures.within
          c.in_ok-charge.ensures.charged)
          ∙ added-added so_far (char ∷ []) (printed (drop (n + 1) cs) (state_of c.charge.new.store steps))
          ∙ ap (λ (k : ℕ). added (so_far ++ char ∷ []) (printed (drop k cs) (state_of c.charge.new.store steps))) (sym (length_push so_far char))),
      ap (λ (s : Cells). s.heap) c.in_ok-charge.ensures.charged ∙ c.loop-letter.invariant.1,
      KeepsCounters-trans c.args.store.now c.loop-letter.store c.charge.new.store c.loop-letter.invariant.2 c.in_ok-charge.ensures.counters,
    )

pub returns-in_err-charge-clause-plain : goal.returns-in_err-charge-clause-plain
returns-in_err-charge-clause-plain c = λ steps.
    let so_far = c.loop-letter.yielded in
    let cs = chars c.args.text.now in
    let s = state_of c.charge.new.store steps in
    let turn = YieldsList-turn (YieldsList-from_chars c.args.text.now c.utf8.text (cc)) so_far _ c.loop-letter.yielded_by _ c.next.new.self c.in-Some.letter c.in-Some.is c.next.ensures.steps in
    let whole = printed cs (state_of c.args.store.now steps) in
    stops c.from_residual.result c.in_err-charge.field-0.0 cs s whole c.from_residual.ensures.1
    (no_cell_meets c.in_err-charge.field-0.0 s whole c.in_err-charge.ensures.stopped
    (c.loop-letter.invariant.0 steps
    ∙ ap (added so_far)
    (printed-turn-over cs (length so_far) c.in-Some.letter c.len_utf8.result steps c.loop-letter.store c.charge.new.store turn.0 turn.1 c.len_utf8.ensures.len
    c.in_err-charge.ensures.over c.in_err-charge.ensures.same)))

pub returns-clause-plain : goal.returns-clause-plain
returns-clause-plain c = λ steps.
    let so_far = c.loop-letter.yielded in
    let cs = chars c.args.text.now in
    let s = state_of c.loop-letter.store steps in
    let end = YieldsList-end (YieldsList-from_chars c.args.text.now c.utf8.text (cc)) so_far _ c.loop-letter.yielded_by _ c.next.new.self c.in-None.is c.next.ensures.steps in
    c.loop-letter.invariant.0 steps
    ∙ ap (λ (l : List ℕ). added so_far (printed l s)) (drop_all (length so_far) cs (omega (arith, end.1)))
    ∙ ap (λ (t : List ℕ). gives t s) (append-nil so_far ∙ sym (map-id so_far) ∙ end.0)
