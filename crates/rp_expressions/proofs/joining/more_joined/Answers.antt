use Rattle.std.proofs.Common.{List, ap, ◌∙◌, arith}
use Rattle.rp_tree.specs.declared.expr.Expr.{Expr}
use Rattle.rp_engine.proofs.Firsts.{gives_any, goes_any}
use Rattle.rp_access.proofs.Lists.{none_left}
use Rattle.rp_expressions.proofs.Settling.{later_none}
use Rattle.rp_engine.specs.Does as does
use Rattle.rp_engine.specs.JoinSteps.{later}
use Rattle.rp_engine.specs.Law.{frame_in}
use Rattle.rp_expressions.proofs.joining.more_joined.Goals as goal

pub returns-in-empty-clause-law : goal.returns-in-empty-clause-law
returns-in-empty-clause-law c =
    let m = c.args.machine.now in
    let xs = c.args.rest.now in
    gives_any m c.back.new.self c.back.result (later c.args.all (does.exprs xs) c.args.value) c.args.value
    (λ base s. ap (λ (ys : List Expr). later c.args.all (does.exprs ys) c.args.value (frame_in base m) s) (none_left xs (omega arith))
    ∙ later_none c.args.all c.args.value (frame_in base m) s) c.back.ensures.law

pub returns-in_default-clause-law : goal.returns-in_default-clause-law
returns-in_default-clause-law c =
    goes_any c.args.machine.now c.wait_with.new.self c.wait_with.result (later c.args.all (does.exprs c.args.rest.now) c.args.value) c.wait_with.ensures.law
