-- The steps that are left to sessions that take turns over one store (docs/LANGUAGE.md, Limits): a turn adds none, to
-- the session whose turn it is or to another.
use Rattle.std.specs.Prelude.{◌≤◌, ℕ, nat_eq, List, find}
use Rattle.std.specs.Option.{option_map_or}
use Rattle.rp_meaning.specs.Frame.{Run}
use Rattle.rp_meaning.specs.Sessions.{Session, World, run_all, turn}
use Rattle.rp_meter_laws.specs.Metered.{AddNone}

-- the steps that are left to the session of a number; none where there is no such session
abbrev pub left_to : ℕ → World → ℕ
left_to n w = option_map_or (λ (k : Session). k.steps) (find (λ (k : Session). nat_eq k.side.0 n) w.sessions) 0

-- no more are left to any
abbrev pub NoneGains : World → World → Type 0
NoneGains old new = (n : ℕ) → left_to n new ≤ left_to n old

-- a turn of a session, and the listed turns with each session to its end behind them

abbrev pub TurnsAddNone : Type 0
TurnsAddNone = (run : Run) → AddNone run.natives → (n : ℕ) (w : World) → NoneGains w (turn run n w)

abbrev pub RunsAddNone : Type 0
RunsAddNone = (run : Run) → AddNone run.natives → (listed : List ℕ) (w : World) → NoneGains w (run_all run listed w)
