use Rattle.std.proofs.Common.{◌≡◌, ◌+◌, ◌*◌, length, arith, refl}
use Rattle.rp_native.specs.Tables.{numbered}
use Rattle.rp_native.proofs.TableRows.{cells-exact, cells-over, length-numbered, numbered-width, table-given, table-stops}
use Rattle.rp_native.proofs.tables.new_numbered.Goals as goal

pub returns-in_err-charge_copies-clause-plain : goal.returns-in_err-charge_copies-clause-plain
returns-in_err-charge_copies-clause-plain c = λ steps.
    let vs = c.args.values.items in
    let rows = numbered 0 vs in
    let count : c.len.result ≡ length rows = omega (arith, c.args.values.ok.0, length-numbered 0 vs) in
    table-stops c.args.side rows c.args.store.now c.charge_copies.new.store c.from_residual.result c.in_err-charge_copies.field-0.0 steps
    c.from_residual.ensures.1 c.in_err-charge_copies.ensures.stopped
    (cells-over rows c.len.result 2 4 c.args.store.now (numbered-width 0 vs) count refl c.in_err-charge_copies.ensures.over)
    c.in_err-charge_copies.ensures.same

pub returns-clause-plain : goal.returns-clause-plain
returns-clause-plain c = λ steps.
    let vs = c.args.values.items in
    let rows = numbered 0 vs in
    let count : c.len.result ≡ length rows = omega (arith, c.args.values.ok.0, length-numbered 0 vs) in
    table-given c.args.side rows c.args.store.now c.charge_copies.new.store c.add_numbered.new.store c.in_ok-value.value (1 + c.len.result * 4) steps
    (cells-exact rows c.len.result 2 4 (numbered-width 0 vs) count refl c.in_ok-charge_copies.ensures.small)
    c.in_ok-charge_copies.ensures.within c.in_ok-charge_copies.ensures.charged c.in_ok-value.ensures.made c.in_ok-value.ensures.place
