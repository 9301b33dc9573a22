use Rattle.std.proofs.Common.{◌∙◌, arith}
use Rattle.rp_engine.specs.Moment.{run_of}
use Rattle.rp_session.specs.View.{sessions_view}
use Rattle.rp_session.proofs.Turning.{turns-done, turns-step}
use Rattle.rp_session.proofs.sessions.Sessions.turns.Goals as goal

pub loop-number-preserved : goal.loop-number-preserved
loop-number-preserved c = record {
  ready = c.in_ok-turn.ensures.ready;
  count = c.in_ok-turn.ensures.count ∙ c.loop-number.invariant.count;
  given = c.in_ok-turn.ensures.given ∙ c.loop-number.invariant.given;
  left = λ base.
      turns-step (run_of base c.args.units.now) c.args.listed.now c.loop-number.number-index _ (sessions_view c.loop-number.self) (sessions_view c.turn.new.self)
      c.loop-number-test.true (c.in_ok-turn.ensures.turn base) ∙ c.loop-number.invariant.left base;
}

pub returns-clause-turns : goal.returns-clause-turns
returns-clause-turns c = λ base.
    turns-done (run_of base c.args.units.now) c.args.listed.now c.loop-number.number-index (sessions_view c.loop-number.self) _ (omega arith)
    (c.loop-number.invariant.left base)
