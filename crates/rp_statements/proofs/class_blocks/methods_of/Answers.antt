use Rattle.std.proofs.Common.{arith, reverse, take}
use Rattle.rp_statements.proofs.ClassParts.{all_held, part_held, part_left, part_room}
use Rattle.rp_engine.specs.Does as does
use Rattle.rp_statements.proofs.class_blocks.methods_of.Goals as goal

pub loop-stmt-init : goal.loop-stmt-init
loop-stmt-init c = (c.method_count-left.ensures, c.new-methods.ensures)

pub with_part-requires : goal.with_part-requires
with_part-requires c =
    let l = c.loop-stmt in
    part_room c.args.body.now l.stmt-index c.stmt-item.result c.deref.result.now (omega arith) c.stmt-item.is c.deref.ensures l.left l.invariant.0

pub loop-stmt-preserved : goal.loop-stmt-preserved
loop-stmt-preserved c =
    let l = c.loop-stmt in
    let body = c.args.body.now in (
      part_left body l.stmt-index c.stmt-item.result c.deref.result.now (omega arith) c.stmt-item.is c.deref.ensures l.left c.in_ok-left.left l.invariant.0
          c.in_ok-left.ensures.count,
      part_held body l.stmt-index c.stmt-item.result c.deref.result.now (omega arith) c.stmt-item.is c.deref.ensures c.with_part.new.methods _
          (c.in_ok-left.ensures.methods (reverse (does.parts (take l.stmt-index body))) l.invariant.1),
    )

pub returns : goal.returns
returns c =
    let l = c.loop-stmt in
    all_held c.args.body.now l.stmt-index l.left c.args.values.now l.methods (omega arith) l.invariant.0 l.invariant.1
