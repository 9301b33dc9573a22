use Rattle.std.proofs.Common.{ap, drop, ◌∙◌}
use Rattle.rp_frame.specs.Top.{below, top}
use Rattle.rp_frame.specs.declared.task.FlowTask.TheVariants as flow
use Rattle.rp_meaning.specs.Exceptions as exception
use Rattle.rp_meaning.specs.State.{Outcome, Flow}
use Rattle.rp_ops.specs.Outcome.{ends}
use Rattle.rp_engine.proofs.Doings.{held_as, held_by}
use Rattle.rp_statements.proofs.Handlings.{caught_is, finished_is, moves_executes}
use Rattle.rp_engine.specs.Does as does
use Rattle.rp_engine.specs.Ends.{end_of}
use Rattle.rp_engine.specs.Handling as steps
use Rattle.rp_engine.specs.Law.{frame_in}
use Rattle.rp_access.specs.Moment.{state_of}
use Rattle.rp_engine.specs.Rest.{after_flow, did}
use Rattle.rp_step.proofs.cutting.flow_cut.Goals as goal

pub returns-in-While-clause-law : goal.returns-in-While-clause-law
returns-in-While-clause-law c =
    let m = c.args.machine.now in
    let w = c.args.world.now in
    held_by m c.go.new.self w c.go.result (λ base. after_flow c.args.task (frame_in base m) m.values (ends (end_of m.end) (state_of w)))
    (λ base. did (frame_in base m) m.values (ends (end_of m.end) (state_of w)))
    (λ base. ap (λ t. after_flow t (frame_in base m) m.values (ends (end_of m.end) (state_of w))) c.in-While.is) (λ base. c.go.ensures.law base (state_of w))

pub returns-in-Store-clause-law : goal.returns-in-Store-clause-law
returns-in-Store-clause-law c =
    let m = c.args.machine.now in
    let w = c.args.world.now in
    held_by m c.go_without.new.machine w c.go_without.result (λ base. after_flow c.args.task (frame_in base m) m.values (ends (end_of m.end) (state_of w)))
    (λ base. did (frame_in base m) (below m.values) (ends (end_of m.end) (state_of w)))
    (λ base. ap (λ t. after_flow t (frame_in base m) m.values (ends (end_of m.end) (state_of w))) c.in-Store.is) (λ base. c.go_without.ensures.law base (state_of w))

pub returns-in-Block-clause-law : goal.returns-in-Block-clause-law
returns-in-Block-clause-law c =
    let m = c.args.machine.now in
    let w = c.args.world.now in
    held_by m c.go-in-Block.new.self w c.go-in-Block.result (λ base. after_flow c.args.task (frame_in base m) m.values (ends (end_of m.end) (state_of w)))
    (λ base. did (frame_in base m) m.values (ends (end_of m.end) (state_of w)))
    (λ base. ap (λ t. after_flow t (frame_in base m) m.values (ends (end_of m.end) (state_of w))) c.in-Block.is) (λ base. c.go-in-Block.ensures.law base (state_of w))

pub returns-in-Delete-clause-law : goal.returns-in-Delete-clause-law
returns-in-Delete-clause-law c =
    let m = c.args.machine.now in
    let w = c.args.world.now in
    held_by m c.go-in-Delete.new.self w c.go-in-Delete.result (λ base. after_flow c.args.task (frame_in base m) m.values (ends (end_of m.end) (state_of w)))
    (λ base. did (frame_in base m) m.values (ends (end_of m.end) (state_of w)))
    (λ base. ap (λ t. after_flow t (frame_in base m) m.values (ends (end_of m.end) (state_of w))) c.in-Delete.is) (λ base. c.go-in-Delete.ensures.law base (state_of w))

pub returns-in-For-clause-law : goal.returns-in-For-clause-law
returns-in-For-clause-law c =
    let m = c.args.machine.now in
    let w = c.args.world.now in
    held_by m c.go_without-in-For.new.machine w c.go_without-in-For.result (λ base. after_flow c.args.task (frame_in base m) m.values (ends (end_of m.end) (state_of w)))
    (λ base. did (frame_in base m) (below m.values) (ends (end_of m.end) (state_of w)))
    (λ base. ap (λ t. after_flow t (frame_in base m) m.values (ends (end_of m.end) (state_of w))) c.in-For.is) (λ base. c.go_without-in-For.ensures.law base (state_of w))

pub returns-in-Leave-clause-law : goal.returns-in-Leave-clause-law
returns-in-Leave-clause-law c =
    let m = c.args.machine.now in
    let w = c.args.world.now in
    held_by m c.go_without-in-Leave.new.machine w c.go_without-in-Leave.result (λ base. after_flow c.args.task (frame_in base m) m.values (ends (end_of m.end) (state_of w)))
    (λ base. did (frame_in base m) (below m.values) (ends (end_of m.end) (state_of w)))
    (λ base. ap (λ t. after_flow t (frame_in base m) m.values (ends (end_of m.end) (state_of w))) c.in-Leave.is) (λ base. c.go_without-in-Leave.ensures.law base (state_of w))

pub returns-in-Try-clause-law : goal.returns-in-Try-clause-law
returns-in-Try-clause-law c =
    let m = c.args.machine.now in
    let w = c.args.world.now in
    let hs = does.handlers c.in-Try.handlers.now in
    held_as m c.catch.new.machine c.catch.new.world c.catch.result (λ base. after_flow c.args.task (frame_in base m) m.values (ends (end_of m.end) (state_of w)))
    (λ base. did (frame_in base m) m.values (steps.caught hs (end_of m.end) (frame_in base m) (state_of w)))
    (λ base. ap (λ t. after_flow t (frame_in base m) m.values (ends (end_of m.end) (state_of w))) c.in-Try.is
    ∙ ap (λ (o : Outcome Flow). did (frame_in base m) m.values o) (caught_is hs (end_of m.end) (does.block c.in-Try.field-1.now (frame_in base m)) (frame_in base m) (state_of w))) c.catch.ensures.law

pub returns-in-Handled-clause-law : goal.returns-in-Handled-clause-law
returns-in-Handled-clause-law c =
    let m = c.args.machine.now in
    let w = c.args.world.now in
    held_as m c.cut_handler.new.machine c.cut_handler.new.world c.cut_handler.result (λ base. after_flow c.args.task (frame_in base m) m.values (ends (end_of m.end) (state_of w)))
    (λ base. did (steps.handling (steps.thrown_of (top m.values)) (frame_in base m)) (below m.values)
    (exception.after (ends (end_of m.end) (state_of w)) (steps.without_as c.in-Handled.name (frame_in base m))))
    (λ base. ap (λ t. after_flow t (frame_in base m) m.values (ends (end_of m.end) (state_of w))) c.in-Handled.is) c.cut_handler.ensures.law

pub returns-in-Finally-clause-law : goal.returns-in-Finally-clause-law
returns-in-Finally-clause-law c =
    let m = c.args.machine.now in
    let w = c.args.world.now in
    let last = does.block c.in-Finally.last.now in
    held_as m c.cut_finally.new.machine w c.cut_finally.result (λ base. after_flow c.args.task (frame_in base m) m.values (ends (end_of m.end) (state_of w)))
    (λ base. did (frame_in base m) m.values (steps.finished last (end_of m.end) (frame_in base m) (state_of w)))
    (λ base. ap (λ t. after_flow t (frame_in base m) m.values (ends (end_of m.end) (state_of w))) c.in-Finally.is
    ∙ ap (λ (o : Outcome Flow). did (frame_in base m) m.values o) (finished_is last (end_of m.end) (frame_in base m) (state_of w)))
    (moves_executes m c.cut_finally.new.machine c.cut_finally.result (steps.finished last (end_of m.end)) w c.cut_finally.ensures.law)

pub returns-in-StoreEach-clause-law : goal.returns-in-StoreEach-clause-law
returns-in-StoreEach-clause-law c =
    let m = c.args.machine.now in
    let w = c.args.world.now in
    held_by m c.go_less.new.machine w c.go_less.result (λ base. after_flow c.args.task (frame_in base m) m.values (ends (end_of m.end) (state_of w)))
    (λ base. after_flow (flow.StoreEach c.in-StoreEach.targets) (frame_in base m) m.values (ends (end_of m.end) (state_of w)))
    (λ base. ap (λ t. after_flow t (frame_in base m) m.values (ends (end_of m.end) (state_of w))) c.in-StoreEach.is) (λ base. c.go_less.ensures.law base (state_of w))

pub returns-in-Class-clause-law : goal.returns-in-Class-clause-law
returns-in-Class-clause-law c =
    let m = c.args.machine.now in
    let w = c.args.world.now in
    held_by m c.go_less-in-Class.new.machine w c.go_less-in-Class.result (λ base. after_flow c.args.task (frame_in base m) m.values (ends (end_of m.end) (state_of w)))
    (λ base. did (frame_in base m) (drop c.in-Class.count m.values) (ends (end_of m.end) (state_of w)))
    (λ base. ap (λ t. after_flow t (frame_in base m) m.values (ends (end_of m.end) (state_of w))) c.in-Class.is) (λ base. c.go_less-in-Class.ensures.law base (state_of w))

pub returns-in-Clause-clause-law : goal.returns-in-Clause-clause-law
returns-in-Clause-clause-law c =
    let m = c.args.machine.now in
    let w = c.args.world.now in
    held_by m c.go-in-Clause.new.self w c.go-in-Clause.result (λ base. after_flow c.args.task (frame_in base m) m.values (ends (end_of m.end) (state_of w)))
    (λ base. did (frame_in base m) m.values (ends (end_of m.end) (state_of w)))
    (λ base. ap (λ t. after_flow t (frame_in base m) m.values (ends (end_of m.end) (state_of w))) c.in-Clause.is) (λ base. c.go-in-Clause.ensures.law base (state_of w))
