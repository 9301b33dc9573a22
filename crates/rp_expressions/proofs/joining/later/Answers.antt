use Rattle.std.proofs.Common.{List, ap, ◌∙◌, arith}
use Rattle.rp_tree.specs.declared.expr.Expr.{Expr}
use Rattle.rp_engine.proofs.Firsts.{gives_ok, of_first}
use Rattle.rp_access.proofs.Lists.{none_left}
use Rattle.rp_expressions.proofs.Settling.{later_none}
use Rattle.rp_engine.specs.Does as does
use Rattle.rp_engine.specs.JoinSteps.{later}
use Rattle.rp_engine.specs.Law.{Evaluates, frame_in}
use Rattle.rp_access.specs.Moment.{state_of}
use Rattle.rp_expressions.proofs.joining.later.Goals as goal

pub returns-in-len1-up-clause-law : goal.returns-in-len1-up-clause-law
returns-in-len1-up-clause-law c =
    of_first c.unless_settled.result
    (λ (ys : List Expr). Evaluates (later c.args.all (does.exprs ys) c.args.value) c.args.machine.now c.args.world.now c.unless_settled.new.machine c.unless_settled.new.world)
    c.args.rest.now c.x-item.result c.in-len1-up.len_at_least c.x-item.is c.unless_settled.ensures.law

pub returns-in-empty-clause-law : goal.returns-in-empty-clause-law
returns-in-empty-clause-law c =
    let m = c.args.machine.now in
    let w = c.args.world.now in
    let xs = c.args.rest.now in
    gives_ok m c.back.new.self c.back.result (later c.args.all (does.exprs xs) c.args.value) c.args.value w
    (λ base. ap (λ (ys : List Expr). later c.args.all (does.exprs ys) c.args.value (frame_in base m) (state_of w)) (none_left xs (omega arith))
    ∙ later_none c.args.all c.args.value (frame_in base m) (state_of w)) c.back.ensures.law
