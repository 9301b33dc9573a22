use Rattle.std.proofs.Common.{◌<◌, ◌^◌, arith, length, rules}
use Rattle.rp_statements.proofs.ClassParts.{counted_all, counted_few, counted_first, counted_next}
use Rattle.rp_engine.specs.Does as does
use Rattle.rp_statements.proofs.class_blocks.method_count.Goals as goal

pub loop-stmt-init : goal.loop-stmt-init
loop-stmt-init c = counted_first (does.parts c.args.body.now)

pub overflow_add-count : goal.overflow_add-count
overflow_add-count c =
    let l = c.loop-stmt in
    let next = counted_next c.args.body.now l.stmt-index c.stmt-item.result c.deref.result.now (omega arith) c.stmt-item.is c.deref.ensures in
    let small : length c.args.body.now < 2 ^ 64 = search rules in
    omega (arith, small, counted_few c.args.body.now, next, c.part_count-count.ensures, l.invariant)

pub loop-stmt-preserved : goal.loop-stmt-preserved
loop-stmt-preserved c =
    let l = c.loop-stmt in
    let next = counted_next c.args.body.now l.stmt-index c.stmt-item.result c.deref.result.now (omega arith) c.stmt-item.is c.deref.ensures in
    omega (arith, next, c.part_count-count.ensures, l.invariant)

pub returns : goal.returns
returns c = counted_all c.args.body.now c.loop-stmt.stmt-index c.loop-stmt.count (omega arith) c.loop-stmt.invariant
