-- It has ended, no statement is left, or the next one ran.
use Rattle.std.proofs.Common.{refl, sym, ap, ◌∙◌, arith}
use Rattle.std.proofs.lemmas.Result.{on_ok_weaker}
use Rattle.rp_engine.specs.Moment.{run_of}
use Rattle.rp_tree.specs.StatementViews.{view_stmts}
use Rattle.rp_session.proofs.Settled.{some_run}
use Rattle.rp_session.proofs.Turning.{first-of, none-of, turn-past, turn-ran}
use Rattle.rp_session.proofs.session.Session.turn.Goals as goal

pub returns-then-self-body-clause-turn : goal.returns-then-self-body-clause-turn
returns-then-self-body-clause-turn c base =
    turn-past (run_of base c.args.units.now) c.args.world.now c.args.self.now c.as_slice-body.result.now
    (sym (ap view_stmts (c.as_slice-body.ensures.value ∙ ap (λ p. p.tree.now.body.items) c.program.ensures)))
    (none-of c.args.self.now.end (cc)) c.if-self-body.true

pub returns-clause-turn : goal.returns-clause-turn
returns-clause-turn c =
    on_ok_weaker c.run.result (λ runs base.
    turn-ran (run_of base c.args.units.now) c.args.world.now c.args.self.now c.run.new.world c.run.new.self c.as_slice-body.result.now
    _ _ (first-of c.as_slice-body.result.now (omega arith))
    (sym (ap view_stmts (c.as_slice-body.ensures.value ∙ ap (λ p. p.tree.now.body.items) c.program.ensures)))
    (none-of c.args.self.now.end (cc)) c.if-self-body.false
    refl refl (runs base)) c.run.ensures.runs

pub returns-clause-number : goal.returns-clause-number
returns-clause-number c = on_ok_weaker c.run.result (λ runs. ap (λ side. side.0) (runs some_run).side) c.run.ensures.runs
