use Rattle.std.proofs.Common.{◌≡◌, ◌+◌, ℕ, length, map}
use Rattle.std.specs.List.{All}
use Rattle.std.specs.Vec.Iter.{into_iter_items, into_iter_len}
use Rattle.rp_meaning.specs.Frame.{Run}
use Rattle.rp_engine.specs.Moment.{run_of}
use Rattle.rp_session.specs.Played.{with_new_sessions}
use Rattle.rp_session.specs.Ready.{AnswersIn, AreReady}
use Rattle.rp_session.specs.View.{given_to, sessions_view}
use Rattle.rp_session.proofs.playing.begin_all.Given as goal

-- the sessions that are left, begun behind those so far, are all of them
abbrev pub invariant-loop-who : goal.invariant-loop-who
invariant-loop-who l = record {
  left : into_iter_len l.who-iterator ≡ length (into_iter_items l.who-iterator);
  ready : AreReady l.sessions;
  grants : All (AnswersIn l.sessions.world) (into_iter_items l.who-iterator);
  count : length l.sessions.list.items + length (into_iter_items l.who-iterator) ≡ length (into_iter_items l.initial.who-iterator);
  given : All (λ (n : ℕ). n ≡ l.steps) (given_to l.initial.sessions) → All (λ (n : ℕ). n ≡ l.steps) (given_to l.sessions);
  begun : (base : Run) → with_new_sessions (run_of base l.units) (map (λ who. who.ids) (into_iter_items l.who-iterator)) l.steps (sessions_view l.sessions)
      ≡ with_new_sessions (run_of base l.units) (map (λ who. who.ids) (into_iter_items l.initial.who-iterator)) l.steps (sessions_view l.initial.sessions);
}
