use Rattle.std.proofs.Common.{◌≡◌, ◌∷◌, length, ap, arith}
use Rattle.std.specs.Vec.Iter.{into_iter_items}
use Rattle.rp_session.proofs.programs.next_table.Goals as goal

pub unreachable-requires : goal.unreachable-requires
unreachable-requires c =
    let gone = c.in-None.ensures.cases in
    let some = c.requires.some in
    let whole = c.requires.whole in
    omega arith

pub returns : goal.returns
returns c =
    let steps : into_iter_items c.args.tables.now ≡ c.in-Some.table ∷ into_iter_items c.next.new.self = c.in-Some.ensures.cases.0 in
    let gone = c.in-Some.ensures.cases.1 in
    let short = ap length steps in
    let whole = c.requires.whole in
    record { taken = steps; left = omega arith }
