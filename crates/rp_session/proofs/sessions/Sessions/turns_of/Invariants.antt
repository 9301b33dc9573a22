use Rattle.std.proofs.Common.{◌≡◌, length}
use Rattle.rp_meaning.specs.Sessions.{turns_of}
use Rattle.rp_meaning.specs.Frame.{Run}
use Rattle.rp_session.specs.Ready.{AreReady}
use Rattle.rp_session.specs.View.{given_to, sessions_view}
use Rattle.rp_engine.specs.Moment.{run_of}
use Rattle.rp_session.proofs.sessions.Sessions.turns_of.Given as goal

abbrev pub decreases-loop-left : goal.decreases-loop-left
decreases-loop-left l = l.left

-- the turns that are left do what all of them were to do
abbrev pub invariant-loop-left : goal.invariant-loop-left
invariant-loop-left l = record {
  ready : AreReady l.self;
  count : length l.self.list.items ≡ length l.initial.self.list.items;
  given : given_to l.self ≡ given_to l.initial.self;
  left : (base : Run)
      → turns_of (run_of base l.units) l.left l.number (sessions_view l.self) ≡ turns_of (run_of base l.units) l.initial.left l.number (sessions_view l.initial.self);
}
