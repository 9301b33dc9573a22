use Rattle.std.proofs.Common.{◌≡◌, sym, ap, ◌∙◌}
use Rattle.rp_meaning.specs.Frame.{Run}
use Rattle.rp_meaning.specs.State.{State, next, returned}
use Rattle.rp_meaning.specs.Statements as forms
use Rattle.rp_ops.specs.Outcome.{gives}
use Rattle.rp_proxy.specs.declared.world.World.{World}
use Rattle.rp_engine.proofs.Doings.{held_as, held_by}
use Rattle.rp_engine.proofs.Moves.{on_ok}
use Rattle.rp_engine.specs.Does as does
use Rattle.rp_engine.specs.Law.{Executes, ResumesStmt, frame_in, rest_of}
use Rattle.rp_engine.specs.RaisingSteps.{raised_value}
use Rattle.rp_access.specs.Moment.{state_of}
use Rattle.rp_engine.specs.Rest.{after_stmt, asserted, did, failed_with, rest, tested_turn}
use Rattle.rp_frame.specs.declared.task.StmtTask.TheVariants as stmt
use Rattle.rp_step.proofs.Others.{place_left}
use Rattle.rp_step.proofs.statements.after_stmt.Goals as goal

pub returns-in-Evaluate-clause-law : goal.returns-in-Evaluate-clause-law
returns-in-Evaluate-clause-law c =
    let m = c.args.machine.now in
    let w = c.args.world.now in
    held_by m c.go.new.self w c.go.result (λ base. after_stmt c.args.task (frame_in base m) m.values (gives c.args.value (state_of w)))
    (λ base. did (frame_in base m) m.values (gives next (state_of w)))
    (λ base. ap (λ t. after_stmt t (frame_in base m) m.values (gives c.args.value (state_of w))) c.in-Evaluate.is) (λ base. c.go.ensures.law base (state_of w))

pub returns-in-Assign-clause-law : goal.returns-in-Assign-clause-law
returns-in-Assign-clause-law c =
    let m = c.args.machine.now in
    let w = c.args.world.now in
    held_as m c.store_all.new.machine c.store_all.new.world c.store_all.result (λ base. after_stmt c.args.task (frame_in base m) m.values (gives c.args.value (state_of w)))
    (λ base. did (frame_in base m) m.values (forms.store_all (does.places c.in-Assign.places.now) c.args.value (frame_in base m) (state_of w)))
    (λ base. ap (λ t. after_stmt t (frame_in base m) m.values (gives c.args.value (state_of w))) c.in-Assign.is) c.store_all.ensures.law

pub returns-in-Branch-clause-law : goal.returns-in-Branch-clause-law
returns-in-Branch-clause-law c =
    let m = c.args.machine.now in
    let w = c.args.world.now in
    held_as m c.branched.new.machine c.branched.new.world c.branched.result (λ base. after_stmt c.args.task (frame_in base m) m.values (gives c.args.value (state_of w)))
    (λ base. after_stmt (stmt.Branch c.in-Branch.body c.in-Branch.branches c.in-Branch.other) (frame_in base m) m.values (gives c.args.value (state_of w)))
    (λ base. ap (λ t. after_stmt t (frame_in base m) m.values (gives c.args.value (state_of w))) c.in-Branch.is) c.branched.ensures.law

pub returns-in-Test-clause-law : goal.returns-in-Test-clause-law
returns-in-Test-clause-law c =
    let m = c.args.machine.now in
    let w = c.args.world.now in
    held_as m c.tested.new.machine c.tested.new.world c.tested.result (λ base. after_stmt c.args.task (frame_in base m) m.values (gives c.args.value (state_of w)))
    (λ base. did (frame_in base m) m.values (tested_turn c.args.value (does.block c.in-Test.body.now) (frame_in base m) (state_of w)))
    (λ base. ap (λ t. after_stmt t (frame_in base m) m.values (gives c.args.value (state_of w))) c.in-Test.is) c.tested.ensures.law

pub returns-in-Assert-clause-law : goal.returns-in-Assert-clause-law
returns-in-Assert-clause-law c =
    let m = c.args.machine.now in
    let w = c.args.world.now in
    held_as m c.asserted.new.machine c.asserted.new.world c.asserted.result (λ base. after_stmt c.args.task (frame_in base m) m.values (gives c.args.value (state_of w)))
    (λ base. did (frame_in base m) m.values (asserted c.args.value (does.maybe c.in-Assert.message.now) (frame_in base m) (state_of w)))
    (λ base. ap (λ t. after_stmt t (frame_in base m) m.values (gives c.args.value (state_of w))) c.in-Assert.is) c.asserted.ensures.law

pub returns-in-Fail-clause-law : goal.returns-in-Fail-clause-law
returns-in-Fail-clause-law c =
    let m = c.args.machine.now in
    let w = c.args.world.now in
    held_as m c.fail_with.new.machine c.fail_with.new.world c.fail_with.result (λ base. after_stmt c.args.task (frame_in base m) m.values (gives c.args.value (state_of w)))
    (λ base. did (frame_in base m) m.values (failed_with c.args.value (frame_in base m) (state_of w)))
    (λ base. ap (λ t. after_stmt t (frame_in base m) m.values (gives c.args.value (state_of w))) c.in-Fail.is) c.fail_with.ensures.law

pub returns-in-For-clause-law : goal.returns-in-For-clause-law
returns-in-For-clause-law c =
    let m = c.args.machine.now in
    let w = c.args.world.now in
    held_as m c.walk_over.new.machine c.walk_over.new.world c.walk_over.result (λ base. after_stmt c.args.task (frame_in base m) m.values (gives c.args.value (state_of w)))
    (λ base. after_stmt (stmt.For c.in-For.each) (frame_in base m) m.values (gives c.args.value (state_of w)))
    (λ base. ap (λ t. after_stmt t (frame_in base m) m.values (gives c.args.value (state_of w))) c.in-For.is) c.walk_over.ensures.law

pub returns-in-Raise-clause-law : goal.returns-in-Raise-clause-law
returns-in-Raise-clause-law c =
    let m = c.args.machine.now in
    let w = c.args.world.now in
    let n = c.raised.new.machine in
    let D = raised_value c.args.value in
    held_as m n w c.raised.result (λ base. after_stmt c.args.task (frame_in base m) m.values (gives c.args.value (state_of w)))
    (λ base. did (frame_in base m) m.values (D (frame_in base m) (state_of w)))
    (λ base. ap (λ t. after_stmt t (frame_in base m) m.values (gives c.args.value (state_of w))) c.in-Raise.is)
    (on_ok c.raised.result ((u : World) → Executes D m u n u) (Executes D m w n w) (λ law. law w) c.raised.ensures.law)

pub returns-in-Unpack-clause-law : goal.returns-in-Unpack-clause-law
returns-in-Unpack-clause-law c =
    let m = c.args.machine.now in
    let w = c.args.world.now in
    held_as m c.store_target.new.machine c.store_target.new.world c.store_target.result (λ base. after_stmt c.args.task (frame_in base m) m.values (gives c.args.value (state_of w)))
    (λ base. did (frame_in base m) m.values (does.target c.in-Unpack.target.now c.args.value (frame_in base m) (state_of w)))
    (λ base. ap (λ t. after_stmt t (frame_in base m) m.values (gives c.args.value (state_of w))) c.in-Unpack.is) c.store_target.ensures.law

pub returns-in-Handler-clause-law : goal.returns-in-Handler-clause-law
returns-in-Handler-clause-law c =
    let m = c.args.machine.now in
    let w = c.args.world.now in
    held_as m c.after_handler.new.machine c.after_handler.new.world c.after_handler.result (λ base. after_stmt c.args.task (frame_in base m) m.values (gives c.args.value (state_of w)))
    (λ base. after_stmt (stmt.Handler c.in-Handler.handler c.in-Handler.behind) (frame_in base m) m.values (gives c.args.value (state_of w)))
    (λ base. ap (λ t. after_stmt t (frame_in base m) m.values (gives c.args.value (state_of w))) c.in-Handler.is) c.after_handler.ensures.law

pub returns-in-Return-clause-law : goal.returns-in-Return-clause-law
returns-in-Return-clause-law c =
    let m = c.args.machine.now in
    let n = c.returns.new.machine in
    let w = c.args.world.now in
    on_ok c.returns.result ((base : Run) (s : State) → rest_of base n s ≡ rest m.tasks (did (frame_in base m) m.values (gives (returned c.args.value) s))) (ResumesStmt c.args.task c.args.value m w n w)
    (λ law base. law base (state_of w) ∙ ap (λ t. rest m.tasks (after_stmt t (frame_in base m) m.values (gives c.args.value (state_of w)))) (sym c.in-Return.is)) c.returns.ensures.law

pub returns-in-Define-clause-law : goal.returns-in-Define-clause-law
returns-in-Define-clause-law c =
    let m = c.args.machine.now in
    let w = c.args.world.now in
    held_as m c.bind_next.new.machine c.bind_next.new.world c.bind_next.result (λ base. after_stmt c.args.task (frame_in base m) m.values (gives c.args.value (state_of w)))
    (λ base. after_stmt (stmt.Define c.in-Define.name) (frame_in base m) m.values (gives c.args.value (state_of w)))
    (λ base. ap (λ t. after_stmt t (frame_in base m) m.values (gives c.args.value (state_of w))) c.in-Define.is) c.bind_next.ensures.law

pub returns-in-Where-clause-law : goal.returns-in-Where-clause-law
returns-in-Where-clause-law c =
    let m = c.args.machine.now in
    let w = c.args.world.now in
    held_as m c.after_where.new.machine c.after_where.new.world c.after_where.result (λ base. after_stmt c.args.task (frame_in base m) m.values (gives c.args.value (state_of w)))
    (λ base. after_stmt (stmt.Where c.in-Where.tests c.in-Where.clauses c.in-Where.adds) (frame_in base m) m.values (gives c.args.value (state_of w)))
    (λ base. ap (λ t. after_stmt t (frame_in base m) m.values (gives c.args.value (state_of w))) c.in-Where.is) c.after_where.ensures.law

pub returns-in-AddElement-clause-law : goal.returns-in-AddElement-clause-law
returns-in-AddElement-clause-law c =
    let m = c.args.machine.now in
    let w = c.args.world.now in
    held_as m c.add_element.new.machine c.add_element.new.world c.add_element.result (λ base. after_stmt c.args.task (frame_in base m) m.values (gives c.args.value (state_of w)))
    (λ base. after_stmt (stmt.AddElement c.in-AddElement.at) (frame_in base m) m.values (gives c.args.value (state_of w)))
    (λ base. ap (λ t. after_stmt t (frame_in base m) m.values (gives c.args.value (state_of w))) c.in-AddElement.is) c.add_element.ensures.law

pub returns-in-AddKey-clause-law : goal.returns-in-AddKey-clause-law
returns-in-AddKey-clause-law c =
    let m = c.args.machine.now in
    let w = c.args.world.now in
    held_as m c.after_added_key.new.machine w c.after_added_key.result (λ base. after_stmt c.args.task (frame_in base m) m.values (gives c.args.value (state_of w)))
    (λ base. after_stmt (stmt.AddKey c.in-AddKey.at c.in-AddKey.x) (frame_in base m) m.values (gives c.args.value (state_of w)))
    (λ base. ap (λ t. after_stmt t (frame_in base m) m.values (gives c.args.value (state_of w))) c.in-AddKey.is) (on_ok c.after_added_key.result ((u : World) → ResumesStmt (stmt.AddKey c.in-AddKey.at c.in-AddKey.x) c.args.value m u c.after_added_key.new.machine u) (ResumesStmt (stmt.AddKey c.in-AddKey.at c.in-AddKey.x) c.args.value m w c.after_added_key.new.machine w) (λ law. law w) c.after_added_key.ensures.law)

pub returns-in-AddEntry-clause-law : goal.returns-in-AddEntry-clause-law
returns-in-AddEntry-clause-law c =
    let m = c.args.machine.now in
    let w = c.args.world.now in
    held_as m c.add_entry.new.machine c.add_entry.new.world c.add_entry.result (λ base. after_stmt c.args.task (frame_in base m) m.values (gives c.args.value (state_of w)))
    (λ base. after_stmt (stmt.AddEntry c.in-AddEntry.at) (frame_in base m) m.values (gives c.args.value (state_of w)))
    (λ base. ap (λ t. after_stmt t (frame_in base m) m.values (gives c.args.value (state_of w))) c.in-AddEntry.is) c.add_entry.ensures.law

pub returns-in-Method-clause-law : goal.returns-in-Method-clause-law
returns-in-Method-clause-law c =
    let m = c.args.machine.now in
    let w = c.args.world.now in
    held_as m c.after_method.new.machine c.after_method.new.world c.after_method.result (λ base. after_stmt c.args.task (frame_in base m) m.values (gives c.args.value (state_of w)))
    (λ base. after_stmt (stmt.Method c.in-Method.name c.in-Method.body c.in-Method.done c.in-Method.count) (frame_in base m) m.values (gives c.args.value (state_of w)))
    (λ base. ap (λ t. after_stmt t (frame_in base m) m.values (gives c.args.value (state_of w))) c.in-Method.is) c.after_method.ensures.law

pub after_place-requires-clause-task : goal.after_place-requires-clause-task
after_place-requires-clause-task c =
    let o = c.in_default in
    place_left c.args.task o.not-Evaluate o.not-Assign o.not-Branch o.not-Test o.not-Assert o.not-Fail o.not-For
    o.not-Raise o.not-Unpack o.not-Handler o.not-Return o.not-Define o.not-Where o.not-AddElement o.not-AddKey
    o.not-AddEntry o.not-Method
