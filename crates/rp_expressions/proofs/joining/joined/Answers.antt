use Rattle.std.proofs.Common.{◌-◌, List, length, take, drop, ap, ◌∙◌, arith}
use Rattle.rp_meaning.specs.Expressions.{nil}
use Rattle.rp_tree.specs.declared.expr.Expr.{Expr}
use Rattle.rp_engine.proofs.Firsts.{gives_ok, of_first}
use Rattle.rp_access.proofs.Lists.{none_left}
use Rattle.rp_expressions.proofs.Settling.{joined_first, joined_none}
use Rattle.rp_engine.specs.Does as does
use Rattle.rp_engine.specs.JoinSteps.{joined}
use Rattle.rp_engine.specs.Law.{Evaluates, frame_in}
use Rattle.rp_access.specs.Moment.{state_of}
use Rattle.rp_engine.proofs.Weights as weights
use Rattle.rp_expressions.proofs.joining.joined.Goals as goal

pub returns-in-len1-up-clause-law : goal.returns-in-len1-up-clause-law
returns-in-len1-up-clause-law c =
    let m = c.args.machine.now in
    let n = c.first_joined.new.machine in
    let w = c.args.world.now in
    let v = c.first_joined.new.world in
    let r = c.first_joined.result in
    let xs = c.args.operands.now in
    let x = c.first-item.result in
    of_first r (λ (ys : List Expr). Evaluates (joined c.args.all (does.exprs ys)) m w n v) xs x c.in-len1-up.len_at_least c.first-item.is
    (joined_first m n w v r c.args.all (does.expr x) (does.exprs (take (length xs - 1) (drop 1 xs))) c.first_joined.ensures.law)

pub returns-in-empty-clause-law : goal.returns-in-empty-clause-law
returns-in-empty-clause-law c =
    let m = c.args.machine.now in
    let w = c.args.world.now in
    let xs = c.args.operands.now in
    gives_ok m c.back.new.self c.back.result (joined c.args.all (does.exprs xs)) nil w
    (λ base. ap (λ (ys : List Expr). joined c.args.all (does.exprs ys) (frame_in base m) (state_of w)) (none_left xs (omega arith))
    ∙ joined_none c.args.all (frame_in base m) (state_of w)) c.back.ensures.law

pub returns-in-len1-up-clause-less : goal.returns-in-len1-up-clause-less
returns-in-len1-up-clause-less c = grind (arith, weights.operands_front c.args.operands.now c.first-item.result c.in-len1-up.len_at_least c.first-item.is)

pub returns-in-empty-clause-less : goal.returns-in-empty-clause-less
returns-in-empty-clause-less c = grind (arith, weights.operands_some c.args.operands.now)
