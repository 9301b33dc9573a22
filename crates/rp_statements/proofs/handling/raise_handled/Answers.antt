use Rattle.std.proofs.Common.{Option, None, ap, sym}
use Rattle.rp_base.specs.declared.value.Raised.{Raised}
use Rattle.rp_meaning.specs.Exceptions as exception
use Rattle.rp_meaning.specs.Statements as forms
use Rattle.rp_statements.proofs.Handlings.{moves_as}
use Rattle.rp_engine.specs.Handling as steps
use Rattle.rp_statements.proofs.handling.raise_handled.Goals as goal

pub returns-clause-law : goal.returns-clause-law
returns-clause-law c =
    let m = c.args.machine.now in
    moves_as m c.raise_once_more.new.machine c.raise_once_more.result (forms.raise None) (steps.raise_handled c.in_ok-handled.handled)
    (λ base s. ap (λ (h : Option Raised). exception.raise_again h s) (sym c.in_ok-handled.ensures)) c.raise_once_more.ensures.law
