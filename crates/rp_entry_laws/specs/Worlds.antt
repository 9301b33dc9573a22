-- The trail of sessions that take turns over one store (zope.security, interactions and checkers): each entry tells the verdict of the written policy
-- on the principals of the session whose number stands in it.
use Rattle.std.specs.Prelude.{◌≡◌, ℕ, nat_eq, List, ◌++◌, All, find, Option, Some, option_map}
use Rattle.rp_trail.specs.Entry.{Entry}
use Rattle.rp_meaning.specs.Frame.{Run}
use Rattle.rp_meaning.specs.Sessions.{Session, World, run_all, turn}
use Rattle.rp_entry_laws.specs.Decided.{IsDecided}
use Rattle.rp_entry_laws.specs.Entries.{IsMonitored}

-- the principals of the session of a number, where there is one
abbrev pub principals_of : World → ℕ → Option (List (List ℕ))
principals_of w n = option_map (λ (k : Session). k.who) (find (λ (k : Session). nat_eq k.side.0 n) w.sessions)

-- an entry of a session of the world, which tells what the policy says of its principals
pub record IsLogged (w : World) (e : Entry) : Type 0 where
  pub who : List (List ℕ)
  pub runs : principals_of w e.session ≡ Some who
  pub decided : IsDecided w.declarations who e

-- the declarations and the principals are the same, and behind the entries that there were stand such alone
pub record Later (old new : World) : Type 0 where
  pub declarations : new.declarations ≡ old.declarations
  pub principals : (n : ℕ) → principals_of new n ≡ principals_of old n
  pub added : List Entry
  pub log : new.log ≡ old.log ++ added
  pub logged : All (IsLogged old) added

-- a turn of a session, and the listed turns with each session to its end behind them

abbrev pub TurnsAdd : Type 0
TurnsAdd = (run : Run) → IsMonitored run → (n : ℕ) (w : World) → Later w (turn run n w)

abbrev pub RunsAdd : Type 0
RunsAdd = (run : Run) → IsMonitored run → (listed : List ℕ) (w : World) → Later w (run_all run listed w)

-- So where a trail was empty before, or such, each of its entries is such in the end.
abbrev pub EachEntryIsLogged : Type 0
EachEntryIsLogged = (run : Run) → IsMonitored run → (listed : List ℕ) (w : World) → All (IsLogged w) w.log
    → All (IsLogged (run_all run listed w)) (run_all run listed w).log
