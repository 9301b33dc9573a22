use Rattle.std.proofs.Common.{◌∙◌, arith}
use Rattle.rp_engine.specs.Moment.{run_of}
use Rattle.rp_session.specs.View.{sessions_view}
use Rattle.rp_session.proofs.Turning.{turns_of-done, turns_of-step}
use Rattle.rp_session.proofs.sessions.Sessions.turns_of.Goals as goal

pub loop-left-preserved : goal.loop-left-preserved
loop-left-preserved c = record {
  ready = c.in_ok-turn.ensures.ready;
  count = c.in_ok-turn.ensures.count ∙ c.loop-left.invariant.count;
  given = c.in_ok-turn.ensures.given ∙ c.loop-left.invariant.given;
  left = λ base.
      turns_of-step (run_of base c.args.units.now) c.loop-left.left c.args.number (sessions_view c.loop-left.self) (sessions_view c.turn.new.self)
      (omega arith) (c.in_ok-turn.ensures.turn base) ∙ c.loop-left.invariant.left base;
}

pub returns-clause-turns : goal.returns-clause-turns
returns-clause-turns c = λ base.
    turns_of-done (run_of base c.args.units.now) c.loop-left.left c.args.number (sessions_view c.loop-left.self) _ (omega arith)
    (c.loop-left.invariant.left base)
