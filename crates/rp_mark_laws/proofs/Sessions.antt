-- Sessions of programs take their turns as without marks.
use Rattle.std.proofs.Common.{◌≡◌, ◌∙◌, refl, ap, ℕ, zero, suc, ◌+◌, nat_eq, List, [], ◌∷◌, ◌++◌, length, find, Option, Some, None, option_map}
use Rattle.rp_tree.specs.Maps.{map_stmt}
use Rattle.rp_tree.specs.Marks.{erase, no_marks}
use Rattle.rp_tree.specs.Statements as stmt_tree
use Rattle.rp_meaning.specs.Frame.{Run}
use Rattle.rp_meaning.specs.Load.{with_new_session}
use Rattle.rp_meaning.specs.Sessions.{Session, SessionEnd, World, count, finished, first_end, played, state_of, statement_at, turn, turn_of, turns, turns_of, unless_ended, world_after}
use Rattle.rp_mark_laws.specs.Unmarked.{MarksMeanNothing, SessionsBeginAlike, unmarked}
use Rattle.rp_mark_laws.proofs.Programs.{statement-same}

-- the statements of a program

at-same : (i : ℕ) (xs : stmt_tree.Stmts) → statement_at i (erase xs) ≡ option_map (map_stmt no_marks) (statement_at i xs)
at-same i stmt_tree.no_stmts = refl
at-same zero (stmt_tree.stmt x xs) = refl
at-same (suc i) (stmt_tree.stmt x xs) = at-same i xs

count-same : (xs : stmt_tree.Stmts) → count (erase xs) ≡ count xs
count-same stmt_tree.no_stmts = refl
count-same (stmt_tree.stmt x xs) = ap (λ n. n + 1) (count-same xs)

first-same : (xs : stmt_tree.Stmts) → first_end (erase xs) ≡ first_end xs
first-same stmt_tree.no_stmts = refl
first-same (stmt_tree.stmt x xs) = refl

pub sessions-begin-alike : SessionsBeginAlike
sessions-begin-alike run who steps w = λ j. record (with_new_session run who steps w) {
  sessions = w.sessions ++ record {
    side = record { 0 = suc (length w.sessions) };
    who = who;
    globals = record { 0 = length w.store.heap };
    steps = steps;
    printed = [];
    next = 0;
    end = first-same (run.programs (record { 0 = suc (length w.sessions) })).body j;
  } ∷ [];
}

module _ (run : Run) where
  played-same : (w : World) (k : Session) (o : Option stmt_tree.Stmt) → played (unmarked run) w k (option_map (map_stmt no_marks) o) ≡ played run w k o
  played-same w k None = refl
  played-same w k (Some x) = λ j.
      world_after w (count-same (run.programs k.side).body j) k (statement-same run k.side k.globals x (state_of w k) j)

  unless-same : (w : World) (k : Session) (end : Option SessionEnd) → unless_ended (unmarked run) w k end ≡ unless_ended run w k end
  unless-same w k (Some e) = refl
  unless-same w k None =
      (λ j. played (unmarked run) w k (at-same k.next (run.programs k.side).body j))
      ∙ played-same w k (statement_at k.next (run.programs k.side).body)

  of-same : (w : World) (o : Option Session) → turn_of (unmarked run) w o ≡ turn_of run w o
  of-same w None = refl
  of-same w (Some k) = unless-same w k k.end

  turn-same : (n : ℕ) (w : World) → turn (unmarked run) n w ≡ turn run n w
  turn-same n w = of-same w (find (λ k. nat_eq k.side.0 n) w.sessions)

  turns-same : (ns : List ℕ) (w : World) → turns (unmarked run) ns w ≡ turns run ns w
  turns-same [] w = refl
  turns-same (n ∷ ns) w = turns-same ns (turn (unmarked run) n w) ∙ ap (turns run ns) (turn-same n w)

  many-same : (i n : ℕ) (w : World) → turns_of (unmarked run) i n w ≡ turns_of run i n w
  many-same zero n w = refl
  many-same (suc i) n w = many-same i n (turn (unmarked run) n w) ∙ ap (turns_of run i n) (turn-same n w)

  finished-same : (ks : List Session) (w : World) → finished (unmarked run) ks w ≡ finished run ks w
  finished-same [] w = refl
  finished-same (k ∷ ks) w =
      let body = (run.programs k.side).body in
      finished-same ks (turns_of (unmarked run) (count (erase body)) k.side.0 w)
      ∙ ap (finished run ks) ((λ j. turns_of (unmarked run) (count-same body j) k.side.0 w) ∙ many-same (count body) k.side.0 w)

pub marks-mean-nothing : MarksMeanNothing
marks-mean-nothing run listed w =
    finished-same run w.sessions (turns (unmarked run) listed w) ∙ ap (finished run w.sessions) (turns-same run listed w)
