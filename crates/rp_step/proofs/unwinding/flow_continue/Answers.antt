use Rattle.std.proofs.Common.{ap}
use Rattle.rp_frame.specs.Top.{below, top}
use Rattle.rp_meaning.specs.State.{continued}
use Rattle.rp_ops.specs.Outcome.{gives}
use Rattle.rp_engine.proofs.Doings.{held_as, held_by}
use Rattle.rp_engine.specs.Does as does
use Rattle.rp_frame.specs.declared.task.FlowTask.TheVariants as flow
use Rattle.rp_engine.specs.Law.{frame_in}
use Rattle.rp_access.specs.Moment.{state_of}
use Rattle.rp_engine.specs.Rest.{after_flow, did, loop}
use Rattle.rp_frame.specs.declared.leaving.Leaving.TheVariants as leaving
use Rattle.rp_meaning.specs.Expressions.{nil}
use Rattle.rp_meaning.specs.Frame.{Doing}
use Rattle.rp_engine.specs.Handling as steps
use Rattle.rp_statements.proofs.Handlings.{moves_executes}
use Rattle.rp_step.proofs.unwinding.flow_continue.Goals as goal

pub returns-in-While-clause-law : goal.returns-in-While-clause-law
returns-in-While-clause-law c =
    let m = c.args.machine.now in
    let w = c.args.world.now in
    held_as m c.loop_turn.new.machine c.loop_turn.new.world c.loop_turn.result (λ base. after_flow c.args.task (frame_in base m) m.values (gives continued (state_of w)))
    (λ base. did (frame_in base m) m.values (loop c.in-While.turns (does.expr c.in-While.test.now) (does.block c.in-While.body.now) (frame_in base m) (state_of w)))
    (λ base. ap (λ t. after_flow t (frame_in base m) m.values (gives continued (state_of w))) c.in-While.is) c.loop_turn.ensures.law

pub returns-in-Store-clause-law : goal.returns-in-Store-clause-law
returns-in-Store-clause-law c =
    let m = c.args.machine.now in
    let w = c.args.world.now in
    held_by m c.go_without.new.machine w c.go_without.result (λ base. after_flow c.args.task (frame_in base m) m.values (gives continued (state_of w)))
    (λ base. did (frame_in base m) (below m.values) (gives continued (state_of w)))
    (λ base. ap (λ t. after_flow t (frame_in base m) m.values (gives continued (state_of w))) c.in-Store.is) (λ base. c.go_without.ensures.law base (state_of w))

pub returns-in-Block-clause-law : goal.returns-in-Block-clause-law
returns-in-Block-clause-law c =
    let m = c.args.machine.now in
    let w = c.args.world.now in
    held_by m c.go.new.self w c.go.result (λ base. after_flow c.args.task (frame_in base m) m.values (gives continued (state_of w)))
    (λ base. did (frame_in base m) m.values (gives continued (state_of w)))
    (λ base. ap (λ t. after_flow t (frame_in base m) m.values (gives continued (state_of w))) c.in-Block.is) (λ base. c.go.ensures.law base (state_of w))

pub returns-in-Delete-clause-law : goal.returns-in-Delete-clause-law
returns-in-Delete-clause-law c =
    let m = c.args.machine.now in
    let w = c.args.world.now in
    held_by m c.go-in-Delete.new.self w c.go-in-Delete.result (λ base. after_flow c.args.task (frame_in base m) m.values (gives continued (state_of w)))
    (λ base. did (frame_in base m) m.values (gives continued (state_of w)))
    (λ base. ap (λ t. after_flow t (frame_in base m) m.values (gives continued (state_of w))) c.in-Delete.is) (λ base. c.go-in-Delete.ensures.law base (state_of w))

pub returns-in-For-clause-law : goal.returns-in-For-clause-law
returns-in-For-clause-law c =
    let m = c.args.machine.now in
    let w = c.args.world.now in
    held_as m c.walk_on.new.machine c.walk_on.new.world c.walk_on.result (λ base. after_flow c.args.task (frame_in base m) m.values (gives continued (state_of w)))
    (λ base. after_flow (flow.For c.in-For.turns c.in-For.spot c.in-For.each) (frame_in base m) m.values (gives continued (state_of w)))
    (λ base. ap (λ t. after_flow t (frame_in base m) m.values (gives continued (state_of w))) c.in-For.is) c.walk_on.ensures.law

pub returns-in-StoreEach-clause-law : goal.returns-in-StoreEach-clause-law
returns-in-StoreEach-clause-law c =
    let m = c.args.machine.now in
    let w = c.args.world.now in
    held_by m c.go_less.new.machine w c.go_less.result (λ base. after_flow c.args.task (frame_in base m) m.values (gives continued (state_of w)))
    (λ base. after_flow (flow.StoreEach c.in-StoreEach.targets) (frame_in base m) m.values (gives continued (state_of w)))
    (λ base. ap (λ t. after_flow t (frame_in base m) m.values (gives continued (state_of w))) c.in-StoreEach.is) (λ base. c.go_less.ensures.law base (state_of w))

pub returns-in-Try-clause-law : goal.returns-in-Try-clause-law
returns-in-Try-clause-law c =
    let m = c.args.machine.now in
    let w = c.args.world.now in
    held_by m c.go-in-Try.new.self w c.go-in-Try.result (λ base. after_flow c.args.task (frame_in base m) m.values (gives continued (state_of w)))
    (λ base. did (frame_in base m) m.values (gives continued (state_of w)))
    (λ base. ap (λ t. after_flow t (frame_in base m) m.values (gives continued (state_of w))) c.in-Try.is) (λ base. c.go-in-Try.ensures.law base (state_of w))

pub returns-in-Handled-clause-law : goal.returns-in-Handled-clause-law
returns-in-Handled-clause-law c =
    let m = c.args.machine.now in
    let w = c.args.world.now in
    held_by m c.behind_handler.new.machine c.behind_handler.new.world c.behind_handler.result (λ base. after_flow c.args.task (frame_in base m) m.values (gives continued (state_of w)))
    (λ base. did (steps.handling (steps.thrown_of (top m.values)) (frame_in base m)) (below m.values) (gives continued (steps.without_as c.in-Handled.name (frame_in base m) (state_of w))))
    (λ base. ap (λ t. after_flow t (frame_in base m) m.values (gives continued (state_of w))) c.in-Handled.is) c.behind_handler.ensures.law

pub returns-in-Finally-clause-law : goal.returns-in-Finally-clause-law
returns-in-Finally-clause-law c =
    let m = c.args.machine.now in
    let w = c.args.world.now in
    let done : Doing = steps.finished_by (does.block c.in-Finally.last.now) leaving.Continued nil in
    held_as m c.finish.new.machine w c.finish.result (λ base. after_flow c.args.task (frame_in base m) m.values (gives continued (state_of w)))
    (λ base. did (frame_in base m) m.values (done (frame_in base m) (state_of w)))
    (λ base. ap (λ t. after_flow t (frame_in base m) m.values (gives continued (state_of w))) c.in-Finally.is) (moves_executes m c.finish.new.machine c.finish.result done w c.finish.ensures.law)

pub returns-in-Finally-clause-ready : goal.returns-in-Finally-clause-ready
returns-in-Finally-clause-ready c = c.finish.ensures.ready c.args.world.now c.requires.ready (tt, tt)

pub returns-in-Leave-clause-law : goal.returns-in-Leave-clause-law
returns-in-Leave-clause-law c =
    let m = c.args.machine.now in
    let w = c.args.world.now in
    held_by m c.go_without-in-Leave.new.machine w c.go_without-in-Leave.result (λ base. after_flow c.args.task (frame_in base m) m.values (gives continued (state_of w)))
    (λ base. did (frame_in base m) (below m.values) (gives continued (state_of w)))
    (λ base. ap (λ t. after_flow t (frame_in base m) m.values (gives continued (state_of w))) c.in-Leave.is) (λ base. c.go_without-in-Leave.ensures.law base (state_of w))

pub returns-in-Class-clause-law : goal.returns-in-Class-clause-law
returns-in-Class-clause-law c =
    let m = c.args.machine.now in
    let w = c.args.world.now in
    held_as m c.class_part.new.machine c.class_part.new.world c.class_part.result (λ base. after_flow c.args.task (frame_in base m) m.values (gives continued (state_of w)))
    (λ base. after_flow (flow.Class c.in-Class.name c.in-Class.body c.in-Class.done c.in-Class.count) (frame_in base m) m.values (gives continued (state_of w)))
    (λ base. ap (λ t. after_flow t (frame_in base m) m.values (gives continued (state_of w))) c.in-Class.is) c.class_part.ensures.law

pub returns-in-Clause-clause-law : goal.returns-in-Clause-clause-law
returns-in-Clause-clause-law c =
    let m = c.args.machine.now in
    let w = c.args.world.now in
    held_by m c.go-in-Clause.new.self w c.go-in-Clause.result (λ base. after_flow c.args.task (frame_in base m) m.values (gives continued (state_of w)))
    (λ base. did (frame_in base m) m.values (gives continued (state_of w)))
    (λ base. ap (λ t. after_flow t (frame_in base m) m.values (gives continued (state_of w))) c.in-Clause.is) (λ base. c.go-in-Clause.ensures.law base (state_of w))
