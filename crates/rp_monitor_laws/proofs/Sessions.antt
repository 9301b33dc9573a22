-- Sessions take their turns as without the monitor, where it refuses nothing.
use Rattle.std.proofs.Common.{◌≡◌, refl, ap, sym, subst, ℕ, zero, suc, nat_eq, List, [], ◌∷◌, map, find, Option, Some, None}
use Rattle.rp_trail.specs.Entry.{Entry}
use Rattle.rp_tree.specs.Statements as stmt_tree
use Rattle.rp_meaning.specs.Frame.{Run}
use Rattle.rp_meaning.specs.Sessions.{Session, SessionEnd, World, count, finished, played, run_all, state_of, statement_at, turn, turn_of, turns, turns_of}
use Rattle.rp_meaning.specs.Sessions.{unless_ended, world_after}
use Rattle.rp_meaning.specs.Unmonitored.{AllAllowed, monitored, told_of, unmonitored}
use Rattle.rp_monitor_laws.specs.Unseen.{RefusingNothingLeavesNoTrace, WorldsAreTheSame}
use Rattle.rp_monitor_laws.proofs.Programs.{statement-follows}

abbrev with_log : List Entry → World → World
with_log k w = record w { log = k }

-- the worlds with the monitor, where this was logged before, and without it
record WorldFollows (k old : List Entry) (w v : World) : Type 0 where
  kept : AllAllowed w.log → AllAllowed old
  same : AllAllowed w.log → v ≡ with_log k w

-- nothing is done
stays : {k : List Entry} (w : World) → WorldFollows k w.log w (with_log k w)
stays w = record { kept = λ a. a; same = λ a. refl }

-- what is made of a world
via : {k old : List Entry} (make other : World → World) (w v : World)
    → WorldFollows k old w v → WorldFollows k w.log (make w) (other (with_log k w)) → WorldFollows k old (make w) (other v)
via {k} {old} make other w v h i = record {
  kept = λ a. h.kept (i.kept a);
  same = λ a. subst (λ u. other u ≡ with_log k (make w)) (sym (h.same (i.kept a))) (i.same a);
}

module _ (run : Run) (k : List Entry) where
  abbrev on : Run
  on = monitored run

  abbrev off : Run
  off = unmonitored run

  played-follows : (w : World) (j : Session) (x : Option stmt_tree.Stmt) → WorldFollows k w.log (played on w j x) (played off (with_log k w) j x)
  played-follows w j None = stays w
  played-follows w j (Some x) =
      let h = statement-follows run k j.side j.globals x (state_of w j) in
      record {
        kept = h.kept;
        same = λ a. ap (world_after (with_log k w) (count (run.programs j.side).body) j) (h.same a);
      }

  unless-follows : (w : World) (j : Session) (end : Option SessionEnd) → WorldFollows k w.log (unless_ended on w j end) (unless_ended off (with_log k w) j end)
  unless-follows w j (Some e) = stays w
  unless-follows w j None = played-follows w j (statement_at j.next (run.programs j.side).body)

  of-follows : (w : World) (j : Option Session) → WorldFollows k w.log (turn_of on w j) (turn_of off (with_log k w) j)
  of-follows w None = stays w
  of-follows w (Some j) = unless-follows w j j.end

  turn-follows : (n : ℕ) (w : World) → WorldFollows k w.log (turn on n w) (turn off n (with_log k w))
  turn-follows n w = of-follows w (find (λ j. nat_eq j.side.0 n) w.sessions)

  turns-follow : (ns : List ℕ) (w : World) → WorldFollows k w.log (turns on ns w) (turns off ns (with_log k w))
  turns-follow [] w = stays w
  turns-follow (n ∷ ns) w =
      via (turns on ns) (turns off ns) (turn on n w) (turn off n (with_log k w)) (turn-follows n w) (turns-follow ns (turn on n w))

  many-follow : (i n : ℕ) (w : World) → WorldFollows k w.log (turns_of on i n w) (turns_of off i n (with_log k w))
  many-follow zero n w = stays w
  many-follow (suc i) n w =
      via (turns_of on i n) (turns_of off i n) (turn on n w) (turn off n (with_log k w)) (turn-follows n w) (many-follow i n (turn on n w))

  finished-follow : (js : List Session) (w : World) → WorldFollows k w.log (finished on js w) (finished off js (with_log k w))
  finished-follow [] w = stays w
  finished-follow (j ∷ js) w =
      let n = count (run.programs j.side).body in
      via (finished on js) (finished off js) (turns_of on n j.side.0 w) (turns_of off n j.side.0 (with_log k w))
      (many-follow n j.side.0 w) (finished-follow js (turns_of on n j.side.0 w))

  all-follow : (listed : List ℕ) (w : World) → WorldFollows k w.log (run_all on listed w) (run_all off listed (with_log k w))
  all-follow listed w =
      via (finished on w.sessions) (finished off w.sessions) (turns on listed w) (turns off listed (with_log k w))
      (turns-follow listed w) (finished-follow w.sessions (turns on listed w))

pub worlds-are-the-same : WorldsAreTheSame
worlds-are-the-same run listed w a = (all-follow run w.log listed w).same a

pub refusing-nothing-leaves-no-trace : RefusingNothingLeavesNoTrace
refusing-nothing-leaves-no-trace run listed w a = ap (λ (v : World). map told_of v.sessions) (sym (worlds-are-the-same run listed w a))
