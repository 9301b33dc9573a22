use Rattle.std.proofs.Common.{◌≡◌, ◌+◌, ◌*◌, length, arith}
use Rattle.std.proofs.lemmas.List.{length-map}
use Rattle.rp_native.specs.TableView.{rows_of}
use Rattle.rp_native.proofs.TableRows.{Row, cells-exact, cells-over, table-given, table-stops}
use Rattle.rp_native.proofs.tables.new_table.Goals as goal

pub returns-in_err-charge_copies-clause-plain : goal.returns-in_err-charge_copies-clause-plain
returns-in_err-charge_copies-clause-plain c = λ steps.
    let rows = rows_of c.args.rows.items in
    let count : c.len.result ≡ length rows = omega (arith, c.args.rows.ok.0, length-map c.args.rows.items (λ (r : Row). r.items)) in
    table-stops c.args.side rows c.args.store.now c.charge_copies.new.store c.from_residual.result c.in_err-charge_copies.field-0.0 steps
    c.from_residual.ensures.1 c.in_err-charge_copies.ensures.stopped
    (cells-over rows c.len.result c.args.width c.saturating_add-cells.result c.args.store.now c.requires.width count c.saturating_add-cells.ensures
    c.in_err-charge_copies.ensures.over)
    c.in_err-charge_copies.ensures.same

pub returns-clause-plain : goal.returns-clause-plain
returns-clause-plain c = λ steps.
    let rows = rows_of c.args.rows.items in
    let count : c.len.result ≡ length rows = omega (arith, c.args.rows.ok.0, length-map c.args.rows.items (λ (r : Row). r.items)) in
    table-given c.args.side rows c.args.store.now c.charge_copies.new.store c.add_table.new.store c.in_ok-value.value
    (1 + c.len.result * c.saturating_add-cells.result) steps
    (cells-exact rows c.len.result c.args.width c.saturating_add-cells.result c.requires.width count c.saturating_add-cells.ensures c.in_ok-charge_copies.ensures.small)
    c.in_ok-charge_copies.ensures.within c.in_ok-charge_copies.ensures.charged c.in_ok-value.ensures.made c.in_ok-value.ensures.place
