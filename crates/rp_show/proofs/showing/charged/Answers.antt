use Rattle.std.proofs.Common.{ℕ, List, Err, sym, ap, ◌∙◌, subst}
use Rattle.rp_store.specs.Store.{Cells}
use Rattle.rp_ops.specs.Outcome.{Meets, gives, state_of}
use Rattle.rp_show.specs.Show.{printed}
use Rattle.rp_show.specs.ShowView.{moment}
use Rattle.rp_show.proofs.Counted.{KeepsCounters-settled}
use Rattle.rp_show.proofs.Lines.{text_stops}
use Rattle.rp_show.proofs.showing.charged.Goals as goal

pub returns-in_err-charged-clause-plain : goal.returns-in_err-charged-clause-plain
returns-in_err-charged-clause-plain c = λ steps.
    let f = c.in_err-charged.field-0.0 in
    let heap = c.args.store.now.heap in
    let end = moment heap c.charge-charged.new.self steps in
    text_stops c.from_residual.result f (state_of c.settle.new.store steps) (printed c.args.text (state_of c.args.store.now steps)) c.from_residual.ensures.1
    (subst (λ (x : Cells). Meets {A = List ℕ} (Err f) (state_of x steps) (printed c.args.text (state_of c.args.store.now steps))) (sym c.settle.ensures)
    (subst (λ (x : Cells). Meets {A = List ℕ} (Err f) end (printed c.args.text (state_of x steps))) c.of-purse.ensures
    (subst (λ (t : List ℕ). Meets {A = List ℕ} (Err f) end (printed t (moment heap c.of-purse.result steps))) c.as_str.ensures (c.in_err-charged.ensures.plain heap steps))))

pub returns-clause-plain : goal.returns-clause-plain
returns-clause-plain c = λ steps.
    let heap = c.args.store.now.heap in
    ap (λ (x : Cells). printed c.args.text (state_of x steps)) (sym c.of-purse.ensures)
    ∙ ap (λ (t : List ℕ). printed t (moment heap c.of-purse.result steps)) (sym c.as_str.ensures)
    ∙ c.in_ok-charged.ensures.plain heap steps
    ∙ ap (λ (t : List ℕ). gives t (moment heap c.charge-charged.new.self steps)) c.as_str.ensures
    ∙ ap (λ (x : Cells). gives c.args.text (state_of x steps)) (sym c.settle.ensures)

pub returns-in_err-charged-clause-counters : goal.returns-in_err-charged-clause-counters
returns-in_err-charged-clause-counters c =
    KeepsCounters-settled c.args.store.now c.settle.new.store c.args.store.now.heap c.of-purse.result c.charge-charged.new.self
    c.of-purse.ensures c.charge-charged.ensures.counters c.settle.ensures

pub returns-clause-counters : goal.returns-clause-counters
returns-clause-counters c =
    KeepsCounters-settled c.args.store.now c.settle.new.store c.args.store.now.heap c.of-purse.result c.charge-charged.new.self
    c.of-purse.ensures c.charge-charged.ensures.counters c.settle.ensures
