use Rattle.std.proofs.Common.{List, sym, ap, ◌∙◌, arith}
use Rattle.rp_meaning.specs.Exceptions as exception
use Rattle.rp_proxy.specs.declared.world.World.{World}
use Rattle.rp_tree.specs.declared.stmt.Stmt.{Stmt}
use Rattle.rp_access.proofs.Lists.{none_left}
use Rattle.rp_access.specs.Moment.{state_of}
use Rattle.rp_statements.proofs.Handlings.{finally_none}
use Rattle.rp_engine.proofs.Moves.{on_ok}
use Rattle.rp_engine.specs.Does as does
use Rattle.rp_engine.specs.Handling as steps
use Rattle.rp_engine.specs.Law.{Executes, Moves, frame_in}
use Rattle.rp_engine.specs.Rest.{did, rest}
use Rattle.rp_statements.proofs.handling.begin_try.Goals as goal

pub returns-in-empty-clause-law : goal.returns-in-empty-clause-law
returns-in-empty-clause-law c =
    let m = c.args.machine.now in
    let n = c.begin_guarded.new.machine in
    let body = does.block c.args.body.now in
    let handlers = does.handlers c.args.handlers.now in
    let other = does.block c.args.other.now in
    let part = steps.guarded body handlers other in
    on_ok c.begin_guarded.result (Moves part m n) ((w : World) → Executes (exception.try body handlers other (does.block c.args.last.now)) m w n w)
    (λ law w base. law base (state_of w)
    ∙ ap (λ o. rest m.tasks (did (frame_in base m) m.values o)) (sym (finally_none (part (frame_in base m) (state_of w)) (frame_in base m)))
    ∙ ap (λ (xs : List Stmt). rest m.tasks (did (frame_in base m) m.values (exception.finally (part (frame_in base m) (state_of w)) (does.block xs (frame_in base m)))))
    (sym (none_left c.args.last.now (omega arith)))) c.begin_guarded.ensures.law
