-- What the session runs with was lent to the world.
use Rattle.rp_session.proofs.Lent.{Ran, behind, ran}
use Rattle.rp_session.proofs.session.Session.run.Goals as goal

abbrev done : (c : goal.After-self-2-1) → Ran c.args.units.now c.args.statements.now c.args.is_last c.args.world.now c.args.self.now
    (record c.run_statements-end.new.world { running = c.swap-2.new.x }) (behind c.args.self.now c.swap-2.new.y c.in_ok-self.field-0)
done c =
    ran c.args.units.now c.args.world.now c.args.self.now c.args.statements.now c.args.is_last c.swap.new.x c.swap.new.y
    c.run_statements-end.new.world c.swap-2.new.x c.swap-2.new.y c.in_ok-end.field-0 c.in_ok-self.field-0
    c.swap.ensures.x_after c.swap.ensures.y_after c.swap-2.ensures.x_after c.swap-2.ensures.y_after
    c.in_ok-end.ensures.law c.in_ok-self.ensures
    c.requires.faithful c.requires.home c.in_ok-end.ensures.faithful c.run_statements-end.ensures.shape

pub returns-clause-runs : goal.returns-clause-runs
returns-clause-runs c = (done c).runs

pub returns-clause-faithful : goal.returns-clause-faithful
returns-clause-faithful c = (done c).faithful

pub returns-clause-home : goal.returns-clause-home
returns-clause-home c = (done c).home

pub returns-clause-others : goal.returns-clause-others
returns-clause-others c = (done c).others

pub run_statements-end-requires-clause-indexed : goal.run_statements-end-requires-clause-indexed
run_statements-end-requires-clause-indexed c = λ side. (c.requires.laid side).indexed
