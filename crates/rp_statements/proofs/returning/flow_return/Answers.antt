use Rattle.std.proofs.Common.{drop, ap, ◌∙◌}
use Rattle.rp_frame.specs.Top.{below, top}
use Rattle.rp_frame.specs.declared.leaving.Leaving.TheVariants as leaving
use Rattle.rp_frame.specs.declared.task.FlowTask.TheVariants as flow
use Rattle.rp_meaning.specs.Frame.{Doing}
use Rattle.rp_meaning.specs.State.{returned}
use Rattle.rp_ops.specs.Outcome.{gives}
use Rattle.rp_access.specs.Moment.{state_of}
use Rattle.rp_engine.proofs.Doings.{held_as}
use Rattle.rp_statements.proofs.Handlings.{moves_executes}
use Rattle.rp_engine.proofs.Passing.{below_drop}
use Rattle.rp_statements.proofs.GivenBack.{less_executes}
use Rattle.rp_engine.specs.Does as does
use Rattle.rp_engine.specs.Handling as steps
use Rattle.rp_engine.specs.Law.{frame_in}
use Rattle.rp_engine.specs.Rest.{after_flow, did}
use Rattle.rp_statements.proofs.returning.flow_return.Goals as goal

pub returns-in-While-clause-law : goal.returns-in-While-clause-law
returns-in-While-clause-law c =
    let m = c.args.machine.now in
    let w = c.args.world.now in
    let v = c.args.value in
    let back : Doing = λ f s. gives (returned v) s in
    held_as m c.returns.new.machine w c.returns.result (λ base. after_flow c.args.task (frame_in base m) m.values (gives (returned v) (state_of w)))
    (λ base. did (frame_in base m) m.values (back (frame_in base m) (state_of w)))
    (λ base. ap (λ t. after_flow t (frame_in base m) m.values (gives (returned v) (state_of w))) c.in-While.is) (moves_executes m c.returns.new.machine c.returns.result back w c.returns.ensures.law)

pub returns-in-Store-clause-law : goal.returns-in-Store-clause-law
returns-in-Store-clause-law c =
    let m = c.args.machine.now in
    let w = c.args.world.now in
    let v = c.args.value in
    held_as m c.returns_less.new.machine w c.returns_less.result (λ base. after_flow c.args.task (frame_in base m) m.values (gives (returned v) (state_of w)))
    (λ base. did (frame_in base m) (drop 1 m.values) (gives (returned v) (state_of w)))
    (λ base. ap (λ t. after_flow t (frame_in base m) m.values (gives (returned v) (state_of w))) c.in-Store.is
    ∙ ap (λ vs. did (frame_in base m) vs (gives (returned v) (state_of w))) (below_drop m.values)) (less_executes m c.returns_less.new.machine c.returns_less.result 1 v w c.returns_less.ensures.law)

pub returns-in-Block-clause-law : goal.returns-in-Block-clause-law
returns-in-Block-clause-law c =
    let m = c.args.machine.now in
    let w = c.args.world.now in
    let v = c.args.value in
    let back : Doing = λ f s. gives (returned v) s in
    held_as m c.returns-in-Block.new.machine w c.returns-in-Block.result (λ base. after_flow c.args.task (frame_in base m) m.values (gives (returned v) (state_of w)))
    (λ base. did (frame_in base m) m.values (back (frame_in base m) (state_of w)))
    (λ base. ap (λ t. after_flow t (frame_in base m) m.values (gives (returned v) (state_of w))) c.in-Block.is) (moves_executes m c.returns-in-Block.new.machine c.returns-in-Block.result back w c.returns-in-Block.ensures.law)

pub returns-in-Delete-clause-law : goal.returns-in-Delete-clause-law
returns-in-Delete-clause-law c =
    let m = c.args.machine.now in
    let w = c.args.world.now in
    let v = c.args.value in
    let back : Doing = λ f s. gives (returned v) s in
    held_as m c.returns-in-Delete.new.machine w c.returns-in-Delete.result (λ base. after_flow c.args.task (frame_in base m) m.values (gives (returned v) (state_of w)))
    (λ base. did (frame_in base m) m.values (back (frame_in base m) (state_of w)))
    (λ base. ap (λ t. after_flow t (frame_in base m) m.values (gives (returned v) (state_of w))) c.in-Delete.is) (moves_executes m c.returns-in-Delete.new.machine c.returns-in-Delete.result back w c.returns-in-Delete.ensures.law)

pub returns-in-For-clause-law : goal.returns-in-For-clause-law
returns-in-For-clause-law c =
    let m = c.args.machine.now in
    let w = c.args.world.now in
    let v = c.args.value in
    held_as m c.returns_less-in-For.new.machine w c.returns_less-in-For.result (λ base. after_flow c.args.task (frame_in base m) m.values (gives (returned v) (state_of w)))
    (λ base. did (frame_in base m) (drop 1 m.values) (gives (returned v) (state_of w)))
    (λ base. ap (λ t. after_flow t (frame_in base m) m.values (gives (returned v) (state_of w))) c.in-For.is
    ∙ ap (λ vs. did (frame_in base m) vs (gives (returned v) (state_of w))) (below_drop m.values)) (less_executes m c.returns_less-in-For.new.machine c.returns_less-in-For.result 1 v w c.returns_less-in-For.ensures.law)

pub returns-in-StoreEach-clause-law : goal.returns-in-StoreEach-clause-law
returns-in-StoreEach-clause-law c =
    let m = c.args.machine.now in
    let w = c.args.world.now in
    let v = c.args.value in
    held_as m c.returns_less-in-StoreEach.new.machine w c.returns_less-in-StoreEach.result (λ base. after_flow c.args.task (frame_in base m) m.values (gives (returned v) (state_of w)))
    (λ base. after_flow (flow.StoreEach c.in-StoreEach.targets) (frame_in base m) m.values (gives (returned v) (state_of w)))
    (λ base. ap (λ t. after_flow t (frame_in base m) m.values (gives (returned v) (state_of w))) c.in-StoreEach.is) (less_executes m c.returns_less-in-StoreEach.new.machine c.returns_less-in-StoreEach.result _ v w c.returns_less-in-StoreEach.ensures.law)

pub returns-in-Try-clause-law : goal.returns-in-Try-clause-law
returns-in-Try-clause-law c =
    let m = c.args.machine.now in
    let w = c.args.world.now in
    let v = c.args.value in
    let back : Doing = λ f s. gives (returned v) s in
    held_as m c.returns-in-Try.new.machine w c.returns-in-Try.result (λ base. after_flow c.args.task (frame_in base m) m.values (gives (returned v) (state_of w)))
    (λ base. did (frame_in base m) m.values (back (frame_in base m) (state_of w)))
    (λ base. ap (λ t. after_flow t (frame_in base m) m.values (gives (returned v) (state_of w))) c.in-Try.is) (moves_executes m c.returns-in-Try.new.machine c.returns-in-Try.result back w c.returns-in-Try.ensures.law)

pub returns-in-Handled-clause-law : goal.returns-in-Handled-clause-law
returns-in-Handled-clause-law c =
    let m = c.args.machine.now in
    let w = c.args.world.now in
    let v = c.args.value in
    held_as m c.return_handled.new.machine c.return_handled.new.world c.return_handled.result (λ base. after_flow c.args.task (frame_in base m) m.values (gives (returned v) (state_of w)))
    (λ base. did (steps.handling (steps.thrown_of (top m.values)) (frame_in base m)) (below m.values) (gives (returned v) (steps.without_as c.in-Handled.name (frame_in base m) (state_of w))))
    (λ base. ap (λ t. after_flow t (frame_in base m) m.values (gives (returned v) (state_of w))) c.in-Handled.is) c.return_handled.ensures.law

pub returns-in-Finally-clause-law : goal.returns-in-Finally-clause-law
returns-in-Finally-clause-law c =
    let m = c.args.machine.now in
    let w = c.args.world.now in
    let v = c.args.value in
    let done : Doing = steps.finished_by (does.block c.in-Finally.last.now) leaving.Returned v in
    held_as m c.finish.new.machine w c.finish.result (λ base. after_flow c.args.task (frame_in base m) m.values (gives (returned v) (state_of w)))
    (λ base. did (frame_in base m) m.values (done (frame_in base m) (state_of w)))
    (λ base. ap (λ t. after_flow t (frame_in base m) m.values (gives (returned v) (state_of w))) c.in-Finally.is) (moves_executes m c.finish.new.machine c.finish.result done w c.finish.ensures.law)

pub returns-in-Finally-clause-ready : goal.returns-in-Finally-clause-ready
returns-in-Finally-clause-ready c = c.finish.ensures.ready c.args.world.now c.requires.ready c.requires.value

pub returns-in-Leave-clause-law : goal.returns-in-Leave-clause-law
returns-in-Leave-clause-law c =
    let m = c.args.machine.now in
    let w = c.args.world.now in
    let v = c.args.value in
    held_as m c.returns_less-in-Leave.new.machine w c.returns_less-in-Leave.result (λ base. after_flow c.args.task (frame_in base m) m.values (gives (returned v) (state_of w)))
    (λ base. did (frame_in base m) (drop 1 m.values) (gives (returned v) (state_of w)))
    (λ base. ap (λ t. after_flow t (frame_in base m) m.values (gives (returned v) (state_of w))) c.in-Leave.is
    ∙ ap (λ vs. did (frame_in base m) vs (gives (returned v) (state_of w))) (below_drop m.values)) (less_executes m c.returns_less-in-Leave.new.machine c.returns_less-in-Leave.result 1 v w c.returns_less-in-Leave.ensures.law)

pub returns-in-Class-clause-law : goal.returns-in-Class-clause-law
returns-in-Class-clause-law c =
    let m = c.args.machine.now in
    let w = c.args.world.now in
    held_as m c.class_part.new.machine c.class_part.new.world c.class_part.result (λ base. after_flow c.args.task (frame_in base m) m.values (gives (returned c.args.value) (state_of w)))
    (λ base. after_flow (flow.Class c.in-Class.name c.in-Class.body c.in-Class.done c.in-Class.count) (frame_in base m) m.values (gives (returned c.args.value) (state_of w)))
    (λ base. ap (λ t. after_flow t (frame_in base m) m.values (gives (returned c.args.value) (state_of w))) c.in-Class.is) c.class_part.ensures.law

pub returns-in-Clause-clause-law : goal.returns-in-Clause-clause-law
returns-in-Clause-clause-law c =
    let m = c.args.machine.now in
    let w = c.args.world.now in
    let v = c.args.value in
    let back : Doing = λ f s. gives (returned v) s in
    held_as m c.returns-in-Clause.new.machine w c.returns-in-Clause.result (λ base. after_flow c.args.task (frame_in base m) m.values (gives (returned c.args.value) (state_of w)))
    (λ base. did (frame_in base m) m.values (back (frame_in base m) (state_of w)))
    (λ base. ap (λ t. after_flow t (frame_in base m) m.values (gives (returned c.args.value) (state_of w))) c.in-Clause.is) (moves_executes m c.returns-in-Clause.new.machine c.returns-in-Clause.result back w c.returns-in-Clause.ensures.law)
