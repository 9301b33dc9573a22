use Rattle.std.proofs.Common.{List, ap, arith, refl}
use Rattle.rp_base.specs.declared.operator.BinOp.{BinOp}
use Rattle.rp_meaning.specs.Expressions as forms
use Rattle.rp_tree.specs.declared.expr.Expr.{Expr}
use Rattle.rp_engine.proofs.Firsts.{gives_ok}
use Rattle.rp_access.proofs.Lists.{none_left}
use Rattle.rp_engine.specs.Does as does
use Rattle.rp_engine.specs.Law.{frame_in}
use Rattle.rp_access.specs.Moment.{state_of}
use Rattle.rp_expressions.proofs.Fronts.{operands_front}
use Rattle.rp_store.proofs.CallerLemmas.{KeepsShape-same}
use Rattle.rp_expressions.proofs.chains.operands.Goals as goal

pub returns-in-len1-up-clause-law : goal.returns-in-len1-up-clause-law
returns-in-len1-up-clause-law c =
    operands_front c.args.machine.now c.operand.new.machine c.args.world.now c.operand.new.world c.operand.result c.args.a c.args.rest.now
    c.index-rest-0.result c.index-rest-0-2.result c.in-len1-up.len_at_least c.operand.ensures.law

pub returns-in-empty-clause-law : goal.returns-in-empty-clause-law
returns-in-empty-clause-law c =
    let m = c.args.machine.now in
    let w = c.args.world.now in
    let os = c.args.rest.now in
    gives_ok m c.back.new.self c.back.result (forms.operands (does.ops os) c.args.a) c.args.a w
    (λ base. ap (λ (ys : List (BinOp × Expr)). forms.operands (does.ops ys) c.args.a (frame_in base m) (state_of w)) (none_left os (omega arith))) c.back.ensures.law

pub operand-requires-clause-ready : goal.operand-requires-clause-ready
operand-requires-clause-ready c = c.requires.ready

pub operand-requires-clause-a : goal.operand-requires-clause-a
operand-requires-clause-a c = c.requires.a

pub returns-in-len1-up-clause-ready : goal.returns-in-len1-up-clause-ready
returns-in-len1-up-clause-ready c = c.operand.ensures.ready

pub returns-in-len1-up-clause-shape : goal.returns-in-len1-up-clause-shape
returns-in-len1-up-clause-shape c = c.operand.ensures.shape

pub returns-in-empty-clause-ready : goal.returns-in-empty-clause-ready
returns-in-empty-clause-ready c = c.back.ensures.ready c.args.world.now c.requires.ready c.requires.a

pub returns-in-empty-clause-shape : goal.returns-in-empty-clause-shape
returns-in-empty-clause-shape c = KeepsShape-same c.args.world.now.store.heap c.args.world.now.store.heap refl
