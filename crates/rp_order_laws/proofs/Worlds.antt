-- Worlds stay such that their objects are as code of their owners makes them.
use Rattle.std.proofs.Common.{◌≡◌, ◌∙◌, refl, sym, subst, ap, ℕ, zero, suc, ◌≤◌, nat_eq}
use Rattle.std.proofs.Common.{List, [], ◌∷◌, ◌++◌, find, length, Option, Some, None, arith}
use Rattle.rp_base.specs.declared.native.NativeId.TheVariants as native
use Rattle.rp_base.specs.declared.value.Oid.{Oid}
use Rattle.rp_base.specs.declared.value.Side.{Side}
use Rattle.rp_base.specs.declared.word.TheConstants.{LEN}
use Rattle.rp_store.specs.Heap.{Owned}
use Rattle.rp_store.specs.Object as object
use Rattle.rp_store.specs.Object.{Content}
use Rattle.rp_tree.specs.Statements as stmt_tree
use Rattle.rp_meaning.specs.Expressions.{empty_slots}
use Rattle.rp_meaning.specs.Frame.{Run}
use Rattle.rp_meaning.specs.Load.{locals_of, trusted}
use Rattle.rp_meaning.specs.Meaning.{exec}
use Rattle.rp_meaning.specs.Running.{program_frame}
use Rattle.rp_meaning.specs.Sessions.{Session, SessionEnd, World, count, finished, played, run_all, session_after}
use Rattle.rp_meaning.specs.Sessions.{state_of}
use Rattle.rp_meaning.specs.Sessions.{statement_at, turn, turn_of, turns, turns_of, unless_ended}
use Rattle.rp_meaning.specs.Sessions.{world_after}
use Rattle.rp_meaning.specs.State.{Flow, Outcome, State, heap_of}
use Rattle.rp_meaning.specs.Unmonitored.{monitored}
use Rattle.rp_apart_laws.proofs.Lists.{each_append, each_replicate}
use Rattle.rp_apart_laws.specs.Apart.{Each, OnSome}
use Rattle.rp_fixed_laws.specs.Fixed.{AreBuiltIn, IsQuietRun}
use Rattle.rp_fixed_laws.proofs.Monitors.{monitors}
use Rattle.rp_owner_laws.specs.Cut.{allowed_in}
use Rattle.rp_owner_laws.specs.Owners.{OthersStay}
use Rattle.rp_owner_laws.proofs.CutPrograms.{frame_follows, statements_leave_unallowed}
use Rattle.rp_owner_laws.proofs.CutTrees.{statement as cut_statement}
use Rattle.rp_order_laws.specs.Ordered.{AreOrdered, IsHeldBy, IsOf}
use Rattle.rp_order_laws.specs.Worlds.{HasScope, IsOrderlyWorld, RunsKeepOrder, SessionsBeginOrderly, TurnsKeepOrder}
use Rattle.rp_order_laws.specs.Worlds.{ListedTurnsLeaveUnallowed, RunsLeaveTrustedUnallowed, SideStays}
use Rattle.rp_order_laws.specs.Worlds.{TurnsLeaveOthersUnallowed}
use Rattle.rp_scope.specs.Blocks.{stmt_blocks}
use Rattle.rp_meaning.specs.Blocks.{of_stmt}
use Rattle.rp_keeper_laws.specs.Blocks.{telling_around}
use Rattle.rp_keeper_laws.proofs.Going.{Anything, Keeps}
use Rattle.rp_keeper_laws.proofs.Programs.{frame_fits, spot}
use Rattle.rp_keeper_laws.proofs.Trees.{statement}
use Rattle.rp_keeper_laws.proofs.Turns as going
use Rattle.rp_keeper_laws.proofs.Turns.{found_session, session_put}
use Rattle.rp_keeper_laws.proofs.Everything.{each_more}
use Rattle.rp_order_laws.proofs.Keeping.{Grows, all_are_ordered, appended_grows, appended_ordered, classes_later}
use Rattle.rp_order_laws.proofs.Keeping.{last_owner, own_place}
use Rattle.rp_order_laws.proofs.Laws.{any_has}
use Rattle.rp_order_laws.proofs.OrderKeeper.{order_keeper}

-- ---- sessions

abbrev Own : List Owned → Session → Type 0
Own heap k = HasScope heap k

sessions_later : (old new : List Owned) → Grows old new → (ks : List Session) → Each (Own old) ks → Each (Own new) ks
sessions_later old new g ks p = each_more (Own old) (Own new) (λ k q. (q.0, g k.globals k.side q.1)) ks p

pub sessions_begin_orderly : SessionsBeginOrderly
sessions_begin_orderly run who steps w h =
    let side : Side = record { 0 = suc (length w.sessions) } in
    let scope : Content = object.scope (Some 0) None (empty_slots (length (locals_of (run.programs side)))) in
    let new : List Owned = record { owner = side; content = scope } ∷ [] in
    let heap : List Owned = w.store.heap in
    record {
      objects = appended_ordered heap side scope
          (tt, each_replicate (OnSome (IsHeldBy heap side)) (length (locals_of (run.programs side))) None tt) h.objects;
      classes = classes_later heap (heap ++ new) (appended_grows heap new) w.declarations.classes h.classes;
      sessions = each_append (Own (heap ++ new)) w.sessions _
          (sessions_later heap (heap ++ new) (appended_grows heap new) w.sessions h.sessions)
          ((λ e. absurd (cc), last_owner heap side scope), tt);
    }

-- ---- turns

module _ (run : Run) (quiet : IsQuietRun run) where
  statement_keeps : (w : World) → IsOrderlyWorld w → (k : Session) → Own w.store.heap k → (x : stmt_tree.Stmt)
      → Keeps order_keeper (program_frame run k.side k.globals) w.store.heap Anything
      (exec x (program_frame run k.side k.globals) (state_of w k))
  statement_keeps w h k mine x =
      statement order_keeper (spot k.side 0) x (any_has k.side (of_stmt x) (stmt_blocks telling_around 0 x))
      (program_frame run k.side k.globals) (frame_fits order_keeper run quiet k.side 0 k.globals tt) (state_of w k)
      ((h.objects, h.classes), mine.1)

  -- behind the statement
  world_keeps : (w : World) → IsOrderlyWorld w → (k : Session) → Own w.store.heap k → (x : stmt_tree.Stmt)
      → statement_at k.next (run.programs k.side).body ≡ Some x
      → IsOrderlyWorld (world_after w (count (run.programs k.side).body) k
      (exec x (program_frame run k.side k.globals) (state_of w k)))
  world_keeps w h k mine x e =
      let o : Outcome Flow = exec x (program_frame run k.side k.globals) (state_of w k) in
      let i = statement_keeps w h k mine x in
      record {
        objects = i.there.0.0;
        classes = classes_later w.store.heap (heap_of o.state) i.grows w.declarations.classes h.classes;
        sessions = session_put (Own (heap_of o.state)) (session_after (count (run.programs k.side).body) k o)
            (mine.0, i.grows k.globals k.side mine.1) w.sessions
            (sessions_later w.store.heap (heap_of o.state) i.grows w.sessions h.sessions);
      }

  turn_keeps : (n : ℕ) (w : World) → IsOrderlyWorld w → IsOrderlyWorld (turn run n w)
  turn_keeps n w h =
      going.turn_keeps run IsOrderlyWorld (λ w. Own w.store.heap) (λ w h. h.sessions) world_keeps n w h

  turns_keep : (ns : List ℕ) (w : World) → IsOrderlyWorld w → IsOrderlyWorld (turns run ns w)
  turns_keep ns w h =
      going.turns_keep run IsOrderlyWorld (λ w. Own w.store.heap) (λ w h. h.sessions) world_keeps ns w h

  turns_of_keep : (i n : ℕ) (w : World) → IsOrderlyWorld w → IsOrderlyWorld (turns_of run i n w)
  turns_of_keep i n w h =
      going.turns_of_keep run IsOrderlyWorld (λ w. Own w.store.heap) (λ w h. h.sessions) world_keeps i n w h

  run_keeps : (listed : List ℕ) (w : World) → IsOrderlyWorld w → IsOrderlyWorld (run_all run listed w)
  run_keeps listed w h =
      going.run_keeps run IsOrderlyWorld (λ w. Own w.store.heap) (λ w h. h.sessions) world_keeps listed w h

pub turns_keep_order : TurnsKeepOrder
turns_keep_order run quiet n w h = turn_keeps run quiet n w h

pub runs_keep_order : RunsKeepOrder
runs_keep_order run quiet listed w h = run_keeps run quiet listed w h

-- ---- the objects of others

others_not : (n : ℕ) (heap : List Owned) → OthersStay n heap heap
others_not n heap at o e other = e

module _ (run : Run) (natives : AreBuiltIn run.natives) (lengths : run.natives.needs native.Len 0 1 ≡ Some LEN) where
  -- a statement of a session of that number
  statement_leaves : (n : ℕ) (side : Side) → side.0 ≡ suc n → (globals : Oid) (s : State) (x : stmt_tree.Stmt)
      → AreOrdered (heap_of s) → IsOf (heap_of s) side globals
      → allowed_in (exec x (program_frame (monitored run) side globals) s).state.log ≤ allowed_in s.log
      → OthersStay n (heap_of s) (heap_of (exec x (program_frame (monitored run) side globals) s).state)
  statement_leaves n side e globals s x h mine =
      subst (λ (side : Side).
      allowed_in (exec x (program_frame (monitored run) side globals) s).state.log ≤ allowed_in s.log
      → OthersStay n (heap_of s) (heap_of (exec x (program_frame (monitored run) side globals) s).state))
      (sym (ap (λ (m : ℕ). record { 0 = m }) e))
      (statements_leave_unallowed x run natives lengths n 0 globals s (all_are_ordered (heap_of s) h n)
      (own_place (heap_of s) n side globals e mine))

  played_leaves : (n : ℕ) (w : World) → IsOrderlyWorld w → (k : Session) → Own w.store.heap k → k.side.0 ≡ suc n
      → (x : Option stmt_tree.Stmt) → allowed_in (played (monitored run) w k x).log ≤ allowed_in w.log
      → OthersStay n w.store.heap (played (monitored run) w k x).store.heap
  played_leaves n w h k mine e None none = others_not n w.store.heap
  played_leaves n w h k mine e (Some x) none =
      statement_leaves n k.side e k.globals (state_of w k) x h.objects mine.1 none

  unless_leaves : (n : ℕ) (w : World) → IsOrderlyWorld w → (k : Session) → Own w.store.heap k → k.side.0 ≡ suc n
      → (end : Option SessionEnd) → allowed_in (unless_ended (monitored run) w k end).log ≤ allowed_in w.log
      → OthersStay n w.store.heap (unless_ended (monitored run) w k end).store.heap
  unless_leaves n w h k mine e (Some end) none = others_not n w.store.heap
  unless_leaves n w h k mine e None none =
      played_leaves n w h k mine e (statement_at k.next (run.programs k.side).body) none

  turn_leaves : (n : ℕ) (w : World) → IsOrderlyWorld w
      → allowed_in (turn (monitored run) (suc n) w).log ≤ allowed_in w.log
      → OthersStay n w.store.heap (turn (monitored run) (suc n) w).store.heap
  turn_leaves n w h = by (find (λ (k : Session). nat_eq k.side.0 (suc n)) w.sessions)
      (found_session (Own w.store.heap) (suc n) w.sessions h.sessions)
    where
      by : (o : Option Session) → OnSome (λ (k : Session). Own w.store.heap k × (k.side.0 ≡ suc n)) o
          → allowed_in (turn_of (monitored run) w o).log ≤ allowed_in w.log
          → OthersStay n w.store.heap (turn_of (monitored run) w o).store.heap
      by None p none = others_not n w.store.heap
      by (Some k) p none = unless_leaves n w h k p.0 p.1 k.end none

  -- what worlds have in common, one behind another, for the objects of a side: there are no fewer allowed entries, and
  -- where there are no more, these are as they were
  record Quietly (side : Side) (v w : World) : Type 0 where
    grows : allowed_in v.log ≤ allowed_in w.log
    stays : allowed_in w.log ≤ allowed_in v.log → SideStays side v.store.heap w.store.heap

  nothing_done : (side : Side) (w : World) → Quietly side w w
  nothing_done side w = record { grows = omega arith; stays = λ none at o e p. e }

  then_quietly : (side : Side) (u v w : World) → Quietly side u v → Quietly side v w → Quietly side u w
  then_quietly side u v w h i =
      let a = h.grows in let b = i.grows in
      record {
        grows = omega (arith, a, b);
        stays = λ none at o e p.
            i.stays (omega (arith, none, a)) at o (h.stays (omega (arith, none, b)) at o e p) p;
      }

  played_grows : (w : World) (k : Session) (x : Option stmt_tree.Stmt)
      → allowed_in w.log ≤ allowed_in (played (monitored run) w k x).log
  played_grows w k None = omega arith
  played_grows w k (Some x) = (frame_follows (exec x) (cut_statement x) run k.side 0 k.globals (state_of w k)).grows

  unless_grows : (w : World) (k : Session) (end : Option SessionEnd)
      → allowed_in w.log ≤ allowed_in (unless_ended (monitored run) w k end).log
  unless_grows w k (Some e) = omega arith
  unless_grows w k None = played_grows w k (statement_at k.next (run.programs k.side).body)

  turn_of_grows : (w : World) (o : Option Session) → allowed_in w.log ≤ allowed_in (turn_of (monitored run) w o).log
  turn_of_grows w None = omega arith
  turn_of_grows w (Some k) = unless_grows w k k.end

  -- a turn of another than that side; the trusted side has no session
  turn_quietly : (side : Side) (n : ℕ) → ((m : ℕ) → n ≡ suc m → n ≡ side.0 → ⊥) → (w : World) → IsOrderlyWorld w
      → Quietly side w (turn (monitored run) n w)
  turn_quietly side zero apart w h = by (find (λ (k : Session). nat_eq k.side.0 0) w.sessions)
      (found_session (Own w.store.heap) 0 w.sessions h.sessions)
    where
      by : (o : Option Session) → OnSome (λ (k : Session). Own w.store.heap k × (k.side.0 ≡ 0)) o
          → Quietly side w (turn_of (monitored run) w o)
      by None p = nothing_done side w
      by (Some k) p = absurd (p.0.0 p.1)
  turn_quietly side (suc m) apart w h = record {
    grows = turn_of_grows w (find (λ (k : Session). nat_eq k.side.0 (suc m)) w.sessions);
    stays = λ none at o e p. turn_leaves m w h none at o e
        (λ q. apart m refl (sym q ∙ ap (λ (s : Side). s.0) p));
  }

  quiet_run : IsQuietRun (monitored run)
  quiet_run = record { decides = (monitors run).0; natives = natives }

  turns_quietly : (side : Side) (ns : List ℕ) → Each (λ (n : ℕ). (m : ℕ) → n ≡ suc m → n ≡ side.0 → ⊥) ns → (w : World)
      → IsOrderlyWorld w → Quietly side w (turns (monitored run) ns w)
  turns_quietly side [] apart w h = nothing_done side w
  turns_quietly side (n ∷ ns) apart w h =
      let v : World = turn (monitored run) n w in
      then_quietly side w v (turns (monitored run) ns v) (turn_quietly side n apart.0 w h)
      (turns_quietly side ns apart.1 v (turn_keeps (monitored run) quiet_run n w h))

  -- the trusted side has no turn
  never : (n m : ℕ) → n ≡ suc m → n ≡ 0 → ⊥
  never n m e z = absurd (omega (arith, e, z))

  all_apart : (ns : List ℕ) → Each (λ (n : ℕ). (m : ℕ) → n ≡ suc m → n ≡ 0 → ⊥) ns
  all_apart [] = tt
  all_apart (n ∷ ns) = (never n, all_apart ns)

  turns_of_quietly : (i n : ℕ) (w : World) → IsOrderlyWorld w → Quietly trusted w (turns_of (monitored run) i n w)
  turns_of_quietly zero n w h = nothing_done trusted w
  turns_of_quietly (suc i) n w h =
      let v : World = turn (monitored run) n w in
      then_quietly trusted w v (turns_of (monitored run) i n v) (turn_quietly trusted n (never n) w h)
      (turns_of_quietly i n v (turn_keeps (monitored run) quiet_run n w h))

  finished_quietly : (ks : List Session) (w : World) → IsOrderlyWorld w
      → Quietly trusted w (finished (monitored run) ks w)
  finished_quietly [] w h = nothing_done trusted w
  finished_quietly (k ∷ ks) w h =
      let i : ℕ = count (run.programs k.side).body in
      let v : World = turns_of (monitored run) i k.side.0 w in
      then_quietly trusted w v (finished (monitored run) ks v) (turns_of_quietly i k.side.0 w h)
      (finished_quietly ks v (turns_of_keep (monitored run) quiet_run i k.side.0 w h))

  run_quietly : (listed : List ℕ) (w : World) → IsOrderlyWorld w
      → Quietly trusted w (run_all (monitored run) listed w)
  run_quietly listed w h =
      let v : World = turns (monitored run) listed w in
      then_quietly trusted w v (finished (monitored run) w.sessions v)
      (turns_quietly trusted listed (all_apart listed) w h)
      (finished_quietly w.sessions v (turns_keep (monitored run) quiet_run listed w h))

pub turns_leave_others_unallowed : TurnsLeaveOthersUnallowed
turns_leave_others_unallowed run natives lengths n w h none = turn_leaves run natives lengths n w h none

pub listed_turns_leave_unallowed : ListedTurnsLeaveUnallowed
listed_turns_leave_unallowed run natives lengths side listed apart w h none =
    (turns_quietly run natives lengths side listed
    (each_more (λ (n : ℕ). n ≡ side.0 → ⊥) (λ (n : ℕ). (m : ℕ) → n ≡ suc m → n ≡ side.0 → ⊥) (λ n p m e. p) listed
    apart) w h).stays none

pub runs_leave_trusted_unallowed : RunsLeaveTrustedUnallowed
runs_leave_trusted_unallowed run natives lengths listed w h none =
    (run_quietly run natives lengths listed w h).stays none
