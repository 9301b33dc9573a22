-- Worlds in which all objects fit the programs: those that are loaded, with sessions and whatever their turns come to
-- (Python Language Reference, Naming and binding; zope.security, interactions).
use Rattle.std.specs.Prelude.{◌≡◌, ◌≤◌, ◌+◌, ℕ, List, length, Ok}
use Rattle.rp_base.specs.declared.value.Side.{Side}
use Rattle.rp_decl.specs.Records.{Declarations}
use Rattle.rp_meaning.specs.Frame.{Program, Run}
use Rattle.rp_meaning.specs.Load.{load, locals_of, trusted, with_new_session}
use Rattle.rp_meaning.specs.Sessions.{Session, World, run_all, turn}
use Rattle.rp_apart_laws.specs.Apart.{Each}
use Rattle.rp_fixed_laws.specs.Fixed.{IsQuietRun}
use Rattle.rp_fit_laws.specs.Fit.{AreFit, IsScope}
use Rattle.rp_fit_laws.specs.Laws.{IsFitRun}
use Rattle.rp_fit_laws.specs.Programs.{IsLaidOut}

-- all objects fit, and the global scope of each session is one of its side's program
pub record IsFitWorld (programs : Side → Program) (w : World) : Type 0 where
  pub objects : AreFit programs w.store.heap
  pub sessions : Each (λ (k : Session). IsScope w.store.heap k.side 0 k.globals) w.sessions

-- The world that is loaded, where the module has a local name for each declared class and object, fits whatever programs
-- there are then beside the module.
abbrev pub WorldsAreLoadedFit : Type 0
WorldsAreLoadedFit = (run : Run) → IsQuietRun run → IsLaidOut (run.programs trusted) → (names : List (List ℕ))
    (d : Declarations) → length d.classes + length d.objects ≤ length (locals_of (run.programs trusted))
    → (limit : ℕ) (w : World) → load run names d limit ≡ Ok w
    → (programs : Side → Program) → run.programs trusted ≡ programs trusted → IsFitWorld programs w

-- with a session more
abbrev pub SessionsBeginFit : Type 0
SessionsBeginFit = (run : Run) (who : List (List ℕ)) (steps : ℕ) (w : World) → IsFitWorld run.programs w
    → IsFitWorld run.programs (with_new_session run who steps w)

-- behind a turn, and behind all turns
abbrev pub TurnsKeepFit : Type 0
TurnsKeepFit = (run : Run) → IsFitRun run → (n : ℕ) (w : World) → IsFitWorld run.programs w
    → IsFitWorld run.programs (turn run n w)

abbrev pub RunsKeepFit : Type 0
RunsKeepFit = (run : Run) → IsFitRun run → (listed : List ℕ) (w : World) → IsFitWorld run.programs w
    → IsFitWorld run.programs (run_all run listed w)
