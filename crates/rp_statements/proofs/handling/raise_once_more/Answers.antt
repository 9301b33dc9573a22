use Rattle.std.proofs.Common.{◌≡◌, Option, None, ap}
use Rattle.rp_base.specs.declared.value.OpEnd.TheVariants as end
use Rattle.rp_base.specs.declared.value.Raised.{Raised}
use Rattle.rp_meaning.specs.Exceptions as exception
use Rattle.rp_meaning.specs.Frame.{Run}
use Rattle.rp_meaning.specs.State.{Flow, Outcome, State}
use Rattle.rp_access.proofs.Going.{IsEnd-same}
use Rattle.rp_access.specs.Comes.{IsEnd}
use Rattle.rp_engine.proofs.Moves.{on_ok}
use Rattle.rp_engine.specs.Handling as steps
use Rattle.rp_engine.specs.Law.{Moves, frame_in, rest_of}
use Rattle.rp_engine.specs.Rest.{did, rest}
use Rattle.rp_statements.proofs.handling.raise_once_more.Goals as goal

pub returns-in-Some-clause-law : goal.returns-in-Some-clause-law
returns-in-Some-clause-law c =
    let m = c.args.machine.now in
    let n = c.cut_off.new.self in
    let e = end.Raised c.in-Some.exception in
    on_ok c.cut_off.result ((base : Run) (s : State) (o : Outcome Flow) → IsEnd e s o → rest_of base n s ≡ rest m.tasks (did (frame_in base m) m.values o))
    (Moves (steps.raise_handled c.args.handled) m n)
    (λ law base s. law base s (exception.raise_again c.args.handled s) (ap (λ (h : Option Raised). exception.raise_again h s) c.in-Some.is)) c.cut_off.ensures.law

pub returns-in-None-clause-law : goal.returns-in-None-clause-law
returns-in-None-clause-law c =
    let m = c.args.machine.now in
    let n = c.cut_off-in-None.new.self in
    let e = c.raise_again.result in
    on_ok c.cut_off-in-None.result ((base : Run) (s : State) (o : Outcome Flow) → IsEnd e s o → rest_of base n s ≡ rest m.tasks (did (frame_in base m) m.values o))
    (Moves (steps.raise_handled c.args.handled) m n)
    (λ law base s. law base s (exception.raise_again c.args.handled s)
    (IsEnd-same e s (exception.raise_again c.args.handled s) (exception.raise_again None s) (ap (λ (h : Option Raised). exception.raise_again h s) c.in-None.is)
    (c.raise_again.ensures s))) c.cut_off-in-None.ensures.law
