use Rattle.std.proofs.Common.{◌≡◌}
use Rattle.rp_frame.specs.declared.task.StmtTask.TheVariants as stmt
use Rattle.rp_meaning.specs.Frame.{Run}
use Rattle.rp_meaning.specs.State.{State}
use Rattle.rp_ops.specs.Outcome.{on_value}
use Rattle.rp_proxy.specs.declared.world.World.{World}
use Rattle.rp_access.specs.Moment.{state_of}
use Rattle.rp_engine.proofs.Moves.{on_ok}
use Rattle.rp_engine.specs.ComprehensionSteps.{entry_added}
use Rattle.rp_engine.specs.Does as does
use Rattle.rp_engine.specs.Law.{ResumesStmt, frame_in, rest_of}
use Rattle.rp_engine.specs.Rest.{did, rest}
use Rattle.rp_targets.proofs.comprehensions.after_added_key.Goals as goal

pub returns-clause-law : goal.returns-clause-law
returns-clause-law c =
    let m = c.args.machine.now in
    let n = c.wait_with.new.self in
    let k = c.args.key in
    on_ok c.wait_with.result
    ((base : Run) (s : State) → rest_of base n s ≡ rest m.tasks (did (frame_in base m) m.values (on_value (does.expr c.args.x.now (frame_in base m) s) (λ v s. entry_added c.args.at k v (frame_in base m) s))))
    ((w : World) → ResumesStmt (stmt.AddKey c.args.at c.args.x) k m w n w) (λ law w base. law base (state_of w)) c.wait_with.ensures.law
