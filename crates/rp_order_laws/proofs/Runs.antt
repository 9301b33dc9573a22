-- A whole run, from the module that is loaded on.
use Rattle.std.proofs.Common.{◌≡◌, ℕ, zero, suc, List, [], ◌∷◌, ◌++◌, slice_get, Some, arith}
use Rattle.rp_base.specs.declared.native.NativeId.TheVariants as native
use Rattle.rp_base.specs.declared.value.Side.{Side}
use Rattle.rp_base.specs.declared.word.TheConstants.{LEN}
use Rattle.rp_store.specs.Heap.{Owned}
use Rattle.rp_meaning.specs.Frame.{Run}
use Rattle.rp_meaning.specs.Load.{trusted, with_new_session}
use Rattle.rp_meaning.specs.Sessions.{World, run_all}
use Rattle.rp_meaning.specs.Unmonitored.{monitored}
use Rattle.rp_fixed_laws.specs.Fixed.{AreBuiltIn}
use Rattle.rp_owner_laws.specs.Cut.{allowed_in}
use Rattle.rp_order_laws.specs.Worlds.{IsOrderlyWorld, SideStays, UnallowedRunsLeaveTheModule, with_sessions}
use Rattle.rp_order_laws.proofs.Loading.{worlds_are_loaded_orderly}
use Rattle.rp_order_laws.proofs.Worlds.{runs_leave_trusted_unallowed, sessions_begin_orderly}

got_later : (heap news : List Owned) (i : ℕ) (o : Owned) → slice_get heap i ≡ Some o
    → slice_get (heap ++ news) i ≡ Some o
got_later [] news i o e = absurd (cc)
got_later (x ∷ xs) news zero o e = e
got_later (x ∷ xs) news (suc i) o e = got_later xs news i o e

begun_orderly : (run : Run) (whos : List (List (List ℕ))) (steps : ℕ) (w : World) → IsOrderlyWorld w
    → IsOrderlyWorld (with_sessions run whos steps w)
begun_orderly run [] steps w h = h
begun_orderly run (who ∷ whos) steps w h =
    begun_orderly run whos steps (with_new_session run who steps w) (sessions_begin_orderly run who steps w h)

begun_stays : (run : Run) (whos : List (List (List ℕ))) (steps : ℕ) (w : World) (side : Side)
    → SideStays side w.store.heap (with_sessions run whos steps w).store.heap
begun_stays run [] steps w side at o e p = e
begun_stays run (who ∷ whos) steps w side at o e p =
    begun_stays run whos steps (with_new_session run who steps w) side at o (got_later w.store.heap _ at.0 o e) p

-- from whatever world of such objects on
pub unallowed_runs_leave : (run : Run) → AreBuiltIn run.natives → run.natives.needs native.Len 0 1 ≡ Some LEN
    → (whos : List (List (List ℕ))) (steps : ℕ) (listed : List ℕ) (w : World) → IsOrderlyWorld w
    → allowed_in (run_all (monitored run) listed (with_sessions (monitored run) whos steps w)).log ≡ 0
    → SideStays trusted w.store.heap
    (run_all (monitored run) listed (with_sessions (monitored run) whos steps w)).store.heap
unallowed_runs_leave run natives lengths whos steps listed w h none at o e p =
    runs_leave_trusted_unallowed run natives lengths listed (with_sessions (monitored run) whos steps w)
    (begun_orderly (monitored run) whos steps w h) (omega (arith, none)) at o
    (begun_stays (monitored run) whos steps w trusted at o e p) p

pub unallowed_runs_leave_the_module : UnallowedRunsLeaveTheModule
unallowed_runs_leave_the_module loading quiet names d limit w its run natives lengths whos steps listed none =
    unallowed_runs_leave run natives lengths whos steps listed w
    (worlds_are_loaded_orderly loading quiet names d limit w its) none
