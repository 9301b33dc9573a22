use Rattle.std.proofs.Common.{ap}
use Rattle.rp_frame.specs.Top.{below, top}
use Rattle.rp_meaning.specs.State.{next}
use Rattle.rp_meaning.specs.Statements as forms
use Rattle.rp_ops.specs.Outcome.{gives}
use Rattle.rp_proxy.specs.declared.world.World.{World}
use Rattle.rp_engine.proofs.Doings.{held_as, held_by}
use Rattle.rp_engine.proofs.Moves.{on_ok}
use Rattle.rp_engine.specs.Does as does
use Rattle.rp_frame.specs.declared.task.FlowTask.TheVariants as flow
use Rattle.rp_engine.specs.Law.{Executes, frame_in}
use Rattle.rp_access.specs.Moment.{state_of}
use Rattle.rp_engine.specs.Rest.{after_flow, did, loop}
use Rattle.rp_frame.specs.declared.leaving.Leaving.TheVariants as leaving
use Rattle.rp_meaning.specs.Expressions.{nil}
use Rattle.rp_meaning.specs.Frame.{Doing}
use Rattle.rp_engine.specs.Handling as steps
use Rattle.rp_statements.proofs.Handlings.{left_executes, moves_executes}
use Rattle.rp_step.proofs.unwinding.flow_next.Goals as goal

pub returns-in-Block-clause-law : goal.returns-in-Block-clause-law
returns-in-Block-clause-law c =
    let m = c.args.machine.now in
    let w = c.args.world.now in
    held_as m c.block.new.machine w c.block.result (λ base. after_flow c.args.task (frame_in base m) m.values (gives next (state_of w)))
    (λ base. did (frame_in base m) m.values (does.block c.in-Block.rest.now (frame_in base m) (state_of w)))
    (λ base. ap (λ t. after_flow t (frame_in base m) m.values (gives next (state_of w))) c.in-Block.is) (on_ok c.block.result ((u : World) → Executes (does.block c.in-Block.rest.now) m u c.block.new.machine u) (Executes (does.block c.in-Block.rest.now) m w c.block.new.machine w) (λ law. law w) c.block.ensures.law)

pub returns-in-While-clause-law : goal.returns-in-While-clause-law
returns-in-While-clause-law c =
    let m = c.args.machine.now in
    let w = c.args.world.now in
    held_as m c.loop_turn.new.machine c.loop_turn.new.world c.loop_turn.result (λ base. after_flow c.args.task (frame_in base m) m.values (gives next (state_of w)))
    (λ base. did (frame_in base m) m.values (loop c.in-While.turns (does.expr c.in-While.test.now) (does.block c.in-While.body.now) (frame_in base m) (state_of w)))
    (λ base. ap (λ t. after_flow t (frame_in base m) m.values (gives next (state_of w))) c.in-While.is) c.loop_turn.ensures.law

pub returns-in-Store-clause-law : goal.returns-in-Store-clause-law
returns-in-Store-clause-law c =
    let m = c.args.machine.now in
    let w = c.args.world.now in
    held_as m c.store_more.new.machine c.store_more.new.world c.store_more.result (λ base. after_flow c.args.task (frame_in base m) m.values (gives next (state_of w)))
    (λ base. did (frame_in base m) (below m.values) (forms.store_all (does.places c.in-Store.places.now) (top m.values) (frame_in base m) (state_of w)))
    (λ base. ap (λ t. after_flow t (frame_in base m) m.values (gives next (state_of w))) c.in-Store.is) c.store_more.ensures.law

pub returns-in-Delete-clause-law : goal.returns-in-Delete-clause-law
returns-in-Delete-clause-law c =
    let m = c.args.machine.now in
    let w = c.args.world.now in
    held_as m c.delete_all.new.machine c.delete_all.new.world c.delete_all.result (λ base. after_flow c.args.task (frame_in base m) m.values (gives next (state_of w)))
    (λ base. did (frame_in base m) m.values (does.deletes c.in-Delete.places.now (frame_in base m) (state_of w)))
    (λ base. ap (λ t. after_flow t (frame_in base m) m.values (gives next (state_of w))) c.in-Delete.is) c.delete_all.ensures.law

pub returns-in-For-clause-law : goal.returns-in-For-clause-law
returns-in-For-clause-law c =
    let m = c.args.machine.now in
    let w = c.args.world.now in
    held_as m c.walk_on.new.machine c.walk_on.new.world c.walk_on.result (λ base. after_flow c.args.task (frame_in base m) m.values (gives next (state_of w)))
    (λ base. after_flow (flow.For c.in-For.turns c.in-For.spot c.in-For.each) (frame_in base m) m.values (gives next (state_of w)))
    (λ base. ap (λ t. after_flow t (frame_in base m) m.values (gives next (state_of w))) c.in-For.is) c.walk_on.ensures.law

pub returns-in-StoreEach-clause-law : goal.returns-in-StoreEach-clause-law
returns-in-StoreEach-clause-law c =
    let m = c.args.machine.now in
    let w = c.args.world.now in
    held_as m c.store_each.new.machine c.store_each.new.world c.store_each.result (λ base. after_flow c.args.task (frame_in base m) m.values (gives next (state_of w)))
    (λ base. after_flow (flow.StoreEach c.in-StoreEach.targets) (frame_in base m) m.values (gives next (state_of w)))
    (λ base. ap (λ t. after_flow t (frame_in base m) m.values (gives next (state_of w))) c.in-StoreEach.is) c.store_each.ensures.law

pub returns-in-Try-clause-law : goal.returns-in-Try-clause-law
returns-in-Try-clause-law c =
    let m = c.args.machine.now in
    let w = c.args.world.now in
    held_by m c.go.new.self w c.go.result (λ base. after_flow c.args.task (frame_in base m) m.values (gives next (state_of w)))
    (λ base. did (frame_in base m) m.values (does.block c.in-Try.other.now (frame_in base m) (state_of w)))
    (λ base. ap (λ t. after_flow t (frame_in base m) m.values (gives next (state_of w))) c.in-Try.is) (λ base. c.go.ensures.law base (state_of w))

pub returns-in-Handled-clause-law : goal.returns-in-Handled-clause-law
returns-in-Handled-clause-law c =
    let m = c.args.machine.now in
    let w = c.args.world.now in
    held_by m c.behind_handler.new.machine c.behind_handler.new.world c.behind_handler.result (λ base. after_flow c.args.task (frame_in base m) m.values (gives next (state_of w)))
    (λ base. did (steps.handling (steps.thrown_of (top m.values)) (frame_in base m)) (below m.values) (gives next (steps.without_as c.in-Handled.name (frame_in base m) (state_of w))))
    (λ base. ap (λ t. after_flow t (frame_in base m) m.values (gives next (state_of w))) c.in-Handled.is) c.behind_handler.ensures.law

pub returns-in-Finally-clause-law : goal.returns-in-Finally-clause-law
returns-in-Finally-clause-law c =
    let m = c.args.machine.now in
    let w = c.args.world.now in
    let done : Doing = steps.finished_by (does.block c.in-Finally.last.now) leaving.Next nil in
    held_as m c.finish.new.machine w c.finish.result (λ base. after_flow c.args.task (frame_in base m) m.values (gives next (state_of w)))
    (λ base. did (frame_in base m) m.values (done (frame_in base m) (state_of w)))
    (λ base. ap (λ t. after_flow t (frame_in base m) m.values (gives next (state_of w))) c.in-Finally.is) (moves_executes m c.finish.new.machine c.finish.result done w c.finish.ensures.law)

pub returns-in-Finally-clause-ready : goal.returns-in-Finally-clause-ready
returns-in-Finally-clause-ready c = c.finish.ensures.ready c.args.world.now c.requires.ready (tt, tt)

pub returns-in-Leave-clause-law : goal.returns-in-Leave-clause-law
returns-in-Leave-clause-law c =
    let m = c.args.machine.now in
    let w = c.args.world.now in
    held_as m c.leave.new.machine w c.leave.result (λ base. after_flow c.args.task (frame_in base m) m.values (gives next (state_of w)))
    (λ base. did (frame_in base m) (below m.values) (steps.left c.in-Leave.leaving (top m.values) (frame_in base m) (state_of w)))
    (λ base. ap (λ t. after_flow t (frame_in base m) m.values (gives next (state_of w))) c.in-Leave.is) (left_executes m c.leave.new.machine c.leave.result (steps.left c.in-Leave.leaving (top m.values)) w c.leave.ensures.law)

pub returns-in-Class-clause-law : goal.returns-in-Class-clause-law
returns-in-Class-clause-law c =
    let m = c.args.machine.now in
    let w = c.args.world.now in
    held_as m c.class_part.new.machine c.class_part.new.world c.class_part.result (λ base. after_flow c.args.task (frame_in base m) m.values (gives next (state_of w)))
    (λ base. after_flow (flow.Class c.in-Class.name c.in-Class.body c.in-Class.done c.in-Class.count) (frame_in base m) m.values (gives next (state_of w)))
    (λ base. ap (λ t. after_flow t (frame_in base m) m.values (gives next (state_of w))) c.in-Class.is) c.class_part.ensures.law

pub returns-in-Clause-clause-law : goal.returns-in-Clause-clause-law
returns-in-Clause-clause-law c =
    let m = c.args.machine.now in
    let w = c.args.world.now in
    held_as m c.where_all.new.machine c.where_all.new.world c.where_all.result (λ base. after_flow c.args.task (frame_in base m) m.values (gives next (state_of w)))
    (λ base. after_flow (flow.Clause c.in-Clause.tests c.in-Clause.clauses c.in-Clause.adds) (frame_in base m) m.values (gives next (state_of w)))
    (λ base. ap (λ t. after_flow t (frame_in base m) m.values (gives next (state_of w))) c.in-Clause.is) c.where_all.ensures.law
