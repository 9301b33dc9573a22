use Rattle.std.proofs.Common.{List, ap, arith}
use Rattle.rp_base.specs.declared.operator.BinOp.{BinOp}
use Rattle.rp_meaning.specs.Expressions as forms
use Rattle.rp_tree.specs.declared.expr.Expr.{Expr}
use Rattle.rp_engine.proofs.Firsts.{gives_any, goes_any}
use Rattle.rp_access.proofs.Lists.{none_left}
use Rattle.rp_engine.specs.Does as does
use Rattle.rp_engine.specs.Law.{frame_in}
use Rattle.rp_expressions.proofs.chains.more_operands.Goals as goal

pub returns-in-empty-clause-law : goal.returns-in-empty-clause-law
returns-in-empty-clause-law c =
    let m = c.args.machine.now in
    let os = c.args.rest.now in
    gives_any m c.back.new.self c.back.result (forms.operands (does.ops os) c.args.a) c.args.a
    (λ base s. ap (λ (ys : List (BinOp × Expr)). forms.operands (does.ops ys) c.args.a (frame_in base m) s) (none_left os (omega arith))) c.back.ensures.law

pub returns-in_default-clause-law : goal.returns-in_default-clause-law
returns-in_default-clause-law c =
    goes_any c.args.machine.now c.wait_with.new.self c.wait_with.result (forms.operands (does.ops c.args.rest.now) c.args.a) c.wait_with.ensures.law
