-- Worlds in which all objects are such as code of their owners makes them: those that are loaded, with sessions and
-- whatever their turns come to. So a turn of a session in which nothing is allowed leaves the objects of all others
-- (zope.security, proxies and interactions).
use Rattle.std.specs.Prelude.{◌≡◌, ℕ, suc, ◌≤◌, List, [], ◌∷◌, slice_get, Some, Ok}
use Rattle.rp_base.specs.declared.native.NativeId.TheVariants as native
use Rattle.rp_base.specs.declared.value.Oid.{Oid}
use Rattle.rp_base.specs.declared.value.Side.{Side}
use Rattle.rp_base.specs.declared.word.TheConstants.{LEN}
use Rattle.rp_decl.specs.Records.{Declarations}
use Rattle.rp_store.specs.Heap.{Owned}
use Rattle.rp_meaning.specs.Frame.{Run}
use Rattle.rp_meaning.specs.Load.{load, trusted, with_new_session}
use Rattle.rp_meaning.specs.Sessions.{Session, World, run_all, turn, turns}
use Rattle.rp_meaning.specs.Unmonitored.{monitored}
use Rattle.rp_apart_laws.specs.Apart.{Each}
use Rattle.rp_fixed_laws.specs.Fixed.{AreBuiltIn, IsQuietRun}
use Rattle.rp_owner_laws.specs.Cut.{allowed_in}
use Rattle.rp_owner_laws.specs.Owners.{OthersStay}
use Rattle.rp_order_laws.specs.Ordered.{AreOrdered, ClassesAreTrusted, IsOf}

-- the session is a script's, and its global scope is of its side
abbrev pub HasScope : List Owned → Session → Type 0
HasScope heap k = (k.side.0 ≡ 0 → ⊥) × IsOf heap k.side k.globals

-- all objects are such, and each session has its scope
pub record IsOrderlyWorld (w : World) : Type 0 where
  pub objects : AreOrdered w.store.heap
  pub classes : ClassesAreTrusted w.declarations.classes w.store.heap
  pub sessions : Each (HasScope w.store.heap) w.sessions

-- the world that is loaded
abbrev pub WorldsAreLoadedOrderly : Type 0
WorldsAreLoadedOrderly = (run : Run) → IsQuietRun run → (names : List (List ℕ)) (d : Declarations) (limit : ℕ)
    (w : World) → load run names d limit ≡ Ok w → IsOrderlyWorld w

-- with a session more
abbrev pub SessionsBeginOrderly : Type 0
SessionsBeginOrderly = (run : Run) (who : List (List ℕ)) (steps : ℕ) (w : World) → IsOrderlyWorld w
    → IsOrderlyWorld (with_new_session run who steps w)

-- behind a turn, and behind all turns
abbrev pub TurnsKeepOrder : Type 0
TurnsKeepOrder = (run : Run) → IsQuietRun run → (n : ℕ) (w : World) → IsOrderlyWorld w → IsOrderlyWorld (turn run n w)

abbrev pub RunsKeepOrder : Type 0
RunsKeepOrder = (run : Run) → IsQuietRun run → (listed : List ℕ) (w : World) → IsOrderlyWorld w
    → IsOrderlyWorld (run_all run listed w)

-- A turn of a session, behind which the trail has no more allowed entries, leaves each object of another owner as it
-- was.
abbrev pub TurnsLeaveOthersUnallowed : Type 0
TurnsLeaveOthersUnallowed = (run : Run) → AreBuiltIn run.natives → run.natives.needs native.Len 0 1 ≡ Some LEN
    → (n : ℕ) (w : World) → IsOrderlyWorld w
    → allowed_in (turn (monitored run) (suc n) w).log ≤ allowed_in w.log
    → OthersStay n w.store.heap (turn (monitored run) (suc n) w).store.heap

-- each object of a side is as it was
abbrev pub SideStays : Side → List Owned → List Owned → Type 0
SideStays side old new =
    (at : Oid) (o : Owned) → slice_get old at.0 ≡ Some o → o.owner ≡ side → slice_get new at.0 ≡ Some o

-- So listed turns, of whichever sessions, behind which the trail has no more allowed entries, leave each object of a
-- side that has none of them;
abbrev pub ListedTurnsLeaveUnallowed : Type 0
ListedTurnsLeaveUnallowed = (run : Run) → AreBuiltIn run.natives → run.natives.needs native.Len 0 1 ≡ Some LEN
    → (side : Side) (listed : List ℕ) → Each (λ n. n ≡ side.0 → ⊥) listed → (w : World) → IsOrderlyWorld w
    → allowed_in (turns (monitored run) listed w).log ≤ allowed_in w.log
    → SideStays side w.store.heap (turns (monitored run) listed w).store.heap

-- and all turns of a run leave each object of the trusted side.
abbrev pub RunsLeaveTrustedUnallowed : Type 0
RunsLeaveTrustedUnallowed = (run : Run) → AreBuiltIn run.natives → run.natives.needs native.Len 0 1 ≡ Some LEN
    → (listed : List ℕ) (w : World) → IsOrderlyWorld w
    → allowed_in (run_all (monitored run) listed w).log ≤ allowed_in w.log
    → SideStays trusted w.store.heap (run_all (monitored run) listed w).store.heap

-- a session more for each of these principals
abbrev pub with_sessions : Run → List (List (List ℕ)) → ℕ → World → World
with_sessions run [] steps w = w
with_sessions run (who ∷ whos) steps w = with_sessions run whos steps (with_new_session run who steps w)

-- So a run whose trail allows nothing leaves each object of the trusted side as it was when the module was loaded,
-- whatever the scripts are.
abbrev pub UnallowedRunsLeaveTheModule : Type 0
UnallowedRunsLeaveTheModule = (loading : Run) → IsQuietRun loading → (names : List (List ℕ)) (d : Declarations)
    (limit : ℕ) (w : World) → load loading names d limit ≡ Ok w
    → (run : Run) → AreBuiltIn run.natives → run.natives.needs native.Len 0 1 ≡ Some LEN
    → (whos : List (List (List ℕ))) (steps : ℕ) (listed : List ℕ)
    → allowed_in (run_all (monitored run) listed (with_sessions (monitored run) whos steps w)).log ≡ 0
    → SideStays trusted w.store.heap
    (run_all (monitored run) listed (with_sessions (monitored run) whos steps w)).store.heap
