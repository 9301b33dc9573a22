use Rattle.std.proofs.Common.{◌≡◌, drop, length, map}
use Rattle.rp_meaning.specs.Sessions.{finished}
use Rattle.rp_meaning.specs.Frame.{Run}
use Rattle.rp_session.specs.Ready.{AreReady}
use Rattle.rp_session.specs.View.{given_to, sessions_view}
use Rattle.rp_engine.specs.Moment.{run_of}
use Rattle.rp_session.specs.View.{session_view}
use Rattle.rp_session.proofs.sessions.Sessions.finish.Given as goal

-- what is left of the sessions does what all of them were to do
abbrev pub invariant-loop-place : goal.invariant-loop-place
invariant-loop-place l = record {
  ready : AreReady l.self;
  count : length l.self.list.items ≡ length l.initial.self.list.items;
  given : given_to l.self ≡ given_to l.initial.self;
  left : (base : Run)
      → finished (run_of base l.units) (drop l.place (map session_view l.initial.self.list.items)) (sessions_view l.self)
      ≡ finished (run_of base l.units) (map session_view l.initial.self.list.items) (sessions_view l.initial.self);
}
