use Rattle.std.proofs.Common.{◌≡◌, drop, length}
use Rattle.rp_meaning.specs.Sessions.{turns}
use Rattle.rp_meaning.specs.Frame.{Run}
use Rattle.rp_session.specs.Ready.{AreReady}
use Rattle.rp_session.specs.View.{given_to, sessions_view}
use Rattle.rp_engine.specs.Moment.{run_of}
use Rattle.rp_session.proofs.sessions.Sessions.turns.Given as goal

-- the turns that are left do what all of them were to do
abbrev pub invariant-loop-number : goal.invariant-loop-number
invariant-loop-number l = record {
  ready : AreReady l.self;
  count : length l.self.list.items ≡ length l.initial.self.list.items;
  given : given_to l.self ≡ given_to l.initial.self;
  left : (base : Run)
      → turns (run_of base l.units) (drop l.number-index l.listed) (sessions_view l.self) ≡ turns (run_of base l.units) l.listed (sessions_view l.initial.self);
}
