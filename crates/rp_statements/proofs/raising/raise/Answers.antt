use Rattle.std.proofs.Common.{Option, None, ap}
use Rattle.rp_meaning.specs.Statements as forms
use Rattle.rp_tree.specs.declared.expr.Expr.{Expr}
use Rattle.rp_statements.proofs.Handlings.{moves_as, moves_executes}
use Rattle.rp_engine.specs.Does as does
use Rattle.rp_engine.specs.Law.{frame_in}
use Rattle.rp_statements.proofs.raising.raise.Goals as goal

pub returns-in-Some-clause-law : goal.returns-in-Some-clause-law
returns-in-Some-clause-law c = rw c.in-Some.is c.raise_of.ensures.law

pub returns-in-None-clause-law : goal.returns-in-None-clause-law
returns-in-None-clause-law c =
    let m = c.args.machine.now in
    moves_executes m c.raise_handled.new.machine c.raise_handled.result (forms.raise (does.maybe c.args.value.now)) c.args.world.now
    (moves_as m c.raise_handled.new.machine c.raise_handled.result (forms.raise (does.maybe c.args.value.now)) (forms.raise None)
    (λ base s. ap (λ (x : Option Expr). forms.raise (does.maybe x) (frame_in base m) s) c.in-None.is) c.raise_handled.ensures.law)
