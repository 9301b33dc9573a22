-- Worlds stay such that their objects fit the programs.
use Rattle.std.proofs.Common.{◌≡◌, refl, suc, List, length, Some, None}
use Rattle.rp_base.specs.declared.value.Side.{Side}
use Rattle.rp_store.specs.Heap.{Owned}
use Rattle.rp_store.specs.Object as object
use Rattle.rp_tree.specs.Statements as stmt_tree
use Rattle.rp_meaning.specs.Expressions.{empty_slots}
use Rattle.rp_meaning.specs.Frame.{Run}
use Rattle.rp_meaning.specs.Load.{locals_of}
use Rattle.rp_meaning.specs.Meaning.{exec}
use Rattle.rp_meaning.specs.Running.{program_frame}
use Rattle.rp_meaning.specs.Sessions.{Session, World, count, session_after, state_of, statement_at, world_after}
use Rattle.rp_meaning.specs.State.{Flow, Outcome, heap_of}
use Rattle.rp_apart_laws.proofs.Lists.{each_append}
use Rattle.rp_apart_laws.specs.Apart.{Each}
use Rattle.rp_keeper_laws.specs.Keepers.{with_new}
use Rattle.rp_keeper_laws.proofs.Turns.{run_keeps, session_put, turn_keeps}
use Rattle.rp_keeper_laws.proofs.Everything.{each_more}
use Rattle.rp_fit_laws.specs.Fit.{IsScope}
use Rattle.rp_fit_laws.specs.Laws.{IsFitRun}
use Rattle.rp_fit_laws.specs.Worlds.{IsFitWorld, RunsKeepFit, SessionsBeginFit, TurnsKeepFit}
use Rattle.rp_fit_laws.proofs.FitKeeper.{length_replicate}
use Rattle.rp_fit_laws.proofs.Keeping.{Grows, appended, last_scope}
use Rattle.rp_fit_laws.proofs.Laws.{AnySide, fit_of, kept_of, statement_fits, statement_has}
use Rattle.rp_fit_laws.proofs.Numbers.{whole_has}

-- the global scope of a session
abbrev Own : List Owned → Session → Type 0
Own heap k = IsScope heap k.side 0 k.globals

sessions_later : (old new : List Owned) → Grows old new → (ks : List Session) → Each (Own old) ks → Each (Own new) ks
sessions_later old new g ks p = each_more (Own old) (Own new) (λ k q. g k.globals k.side 0 q) ks p

pub sessions_begin_fit : SessionsBeginFit
sessions_begin_fit run who steps w h =
    let side : Side = record { 0 = suc (length w.sessions) } in
    let slots = empty_slots (length (locals_of (run.programs side))) in
    let these = appended run.programs AnySide w.store.heap side (object.scope (Some 0) None slots)
    ((length_replicate (length (locals_of (run.programs side))) None, refl), tt)
    (kept_of run.programs w.store.heap h.objects) in
    record {
      objects = fit_of run.programs AnySide (with_new w.store.heap side (object.scope (Some 0) None slots)) these.0;
      sessions = each_append (Own (with_new w.store.heap side (object.scope (Some 0) None slots))) w.sessions _
          (sessions_later w.store.heap (with_new w.store.heap side (object.scope
          (Some 0) None slots)) these.1 w.sessions
          h.sessions) (last_scope w.store.heap side 0 None slots, tt);
    }

module _ (run : Run) (fit : IsFitRun run) where
  -- a statement of a session
  statement_keeps : (w : World) → IsFitWorld run.programs w → (k : Session) → Own w.store.heap k
      → (x : stmt_tree.Stmt) → statement_at k.next (run.programs k.side).body ≡ Some x
      → IsFitWorld run.programs (world_after w (count (run.programs k.side).body) k
      (exec x (program_frame run k.side k.globals) (state_of w k)))
  statement_keeps w h k mine x e =
      let o : Outcome Flow = exec x (program_frame run k.side k.globals) (state_of w k) in
      let these = statement_fits run fit k.side 0 x
      (statement_has k.next (run.programs k.side).body x e (whole_has (run.programs k.side) (fit.programs k.side)))
      k.globals (state_of w k) mine h.objects in
      record {
        objects = fit_of run.programs AnySide (heap_of o.state) these.there.0;
        sessions = session_put (Own (heap_of o.state)) (session_after (count (run.programs k.side).body) k o)
            (these.grows k.globals k.side 0 mine) w.sessions
            (sessions_later w.store.heap (heap_of o.state) these.grows w.sessions h.sessions);
      }

pub turns_keep_fit : TurnsKeepFit
turns_keep_fit run fit n w h =
    turn_keeps run (IsFitWorld run.programs) (λ w. Own w.store.heap) (λ w h. h.sessions) (statement_keeps run fit) n w h

pub runs_keep_fit : RunsKeepFit
runs_keep_fit run fit listed w h =
    run_keeps run (IsFitWorld run.programs) (λ w. Own w.store.heap) (λ w h. h.sessions)
    (statement_keeps run fit) listed w
    h
