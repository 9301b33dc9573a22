use Rattle.std.proofs.Common.{ℕ, List, [], Err, reverse, sym, ap, ◌∙◌, subst}
use Rattle.rp_base.specs.declared.value.Oid.{Oid}
use Rattle.rp_store.specs.Store.{Cells}
use Rattle.rp_ops.specs.Depth.{deepest}
use Rattle.rp_ops.specs.Outcome.{Meets, Outcome, gives, state_of}
use Rattle.rp_show.specs.Show.{object_shown}
use Rattle.rp_show.specs.ShowView.{inner, moment}
use Rattle.rp_show.proofs.Counted.{KeepsCounters-settled}
use Rattle.rp_show.proofs.Lines.{alone, text_stops}
use Rattle.rp_show.proofs.showing.show_at.Goals as goal

pub returns-in_err-shown-clause-plain : goal.returns-in_err-shown-clause-plain
returns-in_err-shown-clause-plain c =
    let f = c.in_err-shown.field-0.0 in
    let heap = c.args.store.now.heap in
    let left = c.show_object-shown.new.meter.left in
    let page = c.new-page.result in
    let s = moment heap page.printer.purse c.args.meter.now.left in
    let end = moment heap c.show_object-shown.new.page.printer.purse left in
    let whole = object_shown c.args.names.now (inner c.args.names.now deepest) in
    text_stops c.from_residual.result f (state_of c.settle.new.store left) (whole [] c.args.at (state_of c.args.store.now c.args.meter.now.left)) c.from_residual.ensures.1
    (subst (λ (x : Cells). Meets {A = List ℕ} (Err f) (state_of x left) (whole [] c.args.at (state_of c.args.store.now c.args.meter.now.left))) (sym c.settle.ensures)
    (subst (λ (x : Cells). Meets {A = List ℕ} (Err f) end (whole [] c.args.at (state_of x c.args.meter.now.left))) c.new-page.ensures.purse
    (subst (λ (xs : List Oid). Meets {A = List ℕ} (Err f) end (whole (reverse xs) c.args.at s)) c.new-page.ensures.outer
    (subst (λ (o : Outcome (List ℕ)). Meets {A = List ℕ} (Err f) end o) (alone page.printer.line (whole (reverse page.outer.items) c.args.at s) c.new-page.ensures.line)
    c.in_err-shown.ensures.plain))))

pub returns-clause-plain : goal.returns-clause-plain
returns-clause-plain c =
    let heap = c.args.store.now.heap in
    let left = c.show_object-shown.new.meter.left in
    let page = c.new-page.result in
    let s = moment heap page.printer.purse c.args.meter.now.left in
    let whole = object_shown c.args.names.now (inner c.args.names.now deepest) in
    ap (λ (x : Cells). whole [] c.args.at (state_of x c.args.meter.now.left)) (sym c.new-page.ensures.purse)
    ∙ ap (λ (xs : List Oid). whole (reverse xs) c.args.at s) (sym c.new-page.ensures.outer)
    ∙ sym (alone page.printer.line (whole (reverse page.outer.items) c.args.at s) c.new-page.ensures.line)
    ∙ c.in_ok-shown.ensures.plain
    ∙ ap (λ (t : List ℕ). gives t (moment heap c.show_object-shown.new.page.printer.purse left)) (sym c.in_ok-into_text.ensures)
    ∙ ap (λ (x : Cells). gives c.in_ok-into_text.field-0 (state_of x left)) (sym c.settle.ensures)

pub returns-in_err-shown-clause-counters : goal.returns-in_err-shown-clause-counters
returns-in_err-shown-clause-counters c =
    KeepsCounters-settled c.args.store.now c.settle.new.store c.args.store.now.heap c.new-page.result.printer.purse c.show_object-shown.new.page.printer.purse
    c.new-page.ensures.purse c.show_object-shown.ensures.counters c.settle.ensures

pub returns-in_err-into_text-clause-counters : goal.returns-in_err-into_text-clause-counters
returns-in_err-into_text-clause-counters c =
    KeepsCounters-settled c.args.store.now c.settle.new.store c.args.store.now.heap c.new-page.result.printer.purse c.show_object-shown.new.page.printer.purse
    c.new-page.ensures.purse c.show_object-shown.ensures.counters c.settle.ensures

pub returns-clause-counters : goal.returns-clause-counters
returns-clause-counters c =
    KeepsCounters-settled c.args.store.now c.settle.new.store c.args.store.now.heap c.new-page.result.printer.purse c.show_object-shown.new.page.printer.purse
    c.new-page.ensures.purse c.show_object-shown.ensures.counters c.settle.ensures
