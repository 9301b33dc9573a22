-- The statements of programs, by their numbers.
use Rattle.std.proofs.Common.{◌≡◌, refl, ap, ◌∙◌, ℕ, zero, suc, ◌+◌, ◌-◌, ◌<◌, ◌≤◌, nat_eq, List, [], ◌∷◌, length, take, drop, get_or, slice_range, Some, None, Result, Ok, Err, arith}
use Rattle.rp_ops.specs.Outcome.{End}
use Rattle.rp_meaning.specs.Frame.{Frame, Run}
use Rattle.rp_meaning.specs.Meaning.{exec}
use Rattle.rp_meaning.specs.Running.{program_frame}
use Rattle.rp_meaning.specs.Sessions.{count, end_after, first_end, statement_at}
use Rattle.rp_meaning.specs.State.{Outcome, Flow, next, broke, continued, returned, on_next}
use Rattle.rp_meaning.specs.Statements as stmt_forms
use Rattle.rp_proxy.specs.declared.world.World.{World}
use Rattle.rp_engine.specs.Does as does
use Rattle.rp_tree.specs.StatementViews.{view_stmt, view_stmts}
use Rattle.rp_tree.specs.declared.stmt.Stmt.{Stmt}
use Rattle.rp_session.specs.Turns.{comes_of, moment}
use Rattle.rp_session.specs.View.{ended, session_view}
use Rattle.rp_session.specs.declared.session.Session.{Session}

pub first-left : (xs : List Stmt) → 1 ≤ length xs → None ≡ first_end (view_stmts xs)
first-left [] h = absurd (omega arith)
first-left (x ∷ xs) h = refl

pub statement-at : (xs : List Stmt) (i : ℕ) (d : Stmt) → i < length xs → statement_at i (view_stmts xs) ≡ Some (view_stmt (get_or xs i d))
statement-at [] i d inside = absurd (omega arith)
statement-at (x ∷ xs) zero d inside = refl
statement-at (x ∷ xs) (suc i) d inside = statement-at xs i d (omega arith)

pub statement-none : (xs : List Stmt) (i : ℕ) → length xs ≤ i → statement_at i (view_stmts xs) ≡ None
statement-none [] zero past = refl
statement-none [] (suc i) past = refl
statement-none (x ∷ xs) zero past = absurd (omega arith)
statement-none (x ∷ xs) (suc i) past = statement-none xs i (omega arith)

pub count-of : (xs : List Stmt) → count (view_stmts xs) ≡ length xs
count-of [] = refl
count-of (x ∷ xs) = let e : count (view_stmts xs) ≡ length xs = count-of xs in omega arith

one-taken : (xs : List Stmt) (i : ℕ) (d : Stmt) → i < length xs → take 1 (drop i xs) ≡ get_or xs i d ∷ []
one-taken [] i d inside = absurd (omega arith)
one-taken (x ∷ xs) zero d inside = refl
one-taken (x ∷ xs) (suc i) d inside = one-taken xs i d (omega arith)

-- a slice of one statement
pub one-statement : (xs : List Stmt) (i : ℕ) (d : Stmt) → i < length xs → slice_range xs i (i + 1) ≡ get_or xs i d ∷ []
one-statement xs i d inside =
    let e : i + 1 - i ≡ 1 = omega arith in
    ap (λ n. take n (drop i xs)) e ∙ one-taken xs i d inside

single : (o : Outcome Flow) (frame : Frame) → on_next o (stmt_forms.block [] frame) ≡ o
single o frame = by o.answer where
  by : (answer : Result Flow End) → on_next (record { answer = answer; state = o.state }) (stmt_forms.block [] frame) ≡ record { answer = answer; state = o.state }
  by (Ok next) = refl
  by (Ok broke) = refl
  by (Ok continued) = refl
  by (Ok (returned v)) = refl
  by (Err e) = refl

-- a block of one statement
pub comes-single : (run : Run) (x : Stmt) (w : World) (k : Session)
    → comes_of run (x ∷ []) w k ≡ exec (view_stmt x) (program_frame run (session_view k).side k.globals) (moment w k)
unfolding does.stmt
comes-single run x w k =
    single (exec (view_stmt x) (program_frame run (session_view k).side k.globals) (moment w k)) (program_frame run (session_view k).side k.globals)

pub end-after : (m n : ℕ) (answer : Result Flow End) → ended (nat_eq m n) answer ≡ end_after m n answer
end-after m n (Ok flow) = refl
end-after m n (Err e) = refl
