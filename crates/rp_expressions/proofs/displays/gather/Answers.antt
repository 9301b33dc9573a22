use Rattle.std.proofs.Common.{List, arith}
use Rattle.rp_tree.specs.declared.expr.Expr.{Expr}
use Rattle.rp_engine.proofs.Firsts.{of_first, of_none}
use Rattle.rp_engine.specs.Does as does
use Rattle.rp_engine.specs.GatheringSteps.{Gathers}
use Rattle.rp_engine.proofs.Weights as weights
use Rattle.rp_expressions.proofs.displays.gather.Goals as goal

pub returns-in-len1-up-clause-law : goal.returns-in-len1-up-clause-law
returns-in-len1-up-clause-law c =
    of_first c.element.result (λ (ys : List Expr). Gathers c.args.kind c.args.count (does.exprs ys) c.args.machine.now c.args.world.now c.element.new.machine c.element.new.world)
    c.args.rest.now c.x-item.result c.in-len1-up.len_at_least c.x-item.is c.element.ensures.law

pub returns-in-empty-clause-law : goal.returns-in-empty-clause-law
returns-in-empty-clause-law c =
    of_none c.make_display.result (λ (ys : List Expr). Gathers c.args.kind c.args.count (does.exprs ys) c.args.machine.now c.args.world.now c.make_display.new.machine c.make_display.new.world)
    c.args.rest.now (omega arith) c.make_display.ensures.law

pub returns-in-len1-up-clause-less : goal.returns-in-len1-up-clause-less
returns-in-len1-up-clause-less c = grind (arith, weights.exprs_front c.args.rest.now c.x-item.result c.in-len1-up.len_at_least c.x-item.is)
