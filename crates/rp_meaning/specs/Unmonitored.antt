-- The meaning without a monitor (zope.security, proxies): what passes a proxy costs its cell, and is done. Every other definition is the same, with
-- another way to decide.
use Rattle.std.specs.Prelude.{◌≡◌, ℕ, ◌+◌, nat_lt, List, All, Option, map, Err, if◌then◌else◌}
use Rattle.rp_base.specs.declared.value.Value.{Value}
use Rattle.rp_base.specs.declared.value.Value.TheVariants as value
use Rattle.rp_checker.specs.RowOf.{Operation}
use Rattle.rp_ops.specs.Outcome.{no_cell}
use Rattle.rp_proxy.specs.Decide.{Monitor, Decision, decide, go}
use Rattle.rp_trail.specs.Entry.{Entry, Verdict, allowed}
use Rattle.rp_meaning.specs.Frame.{Run}
use Rattle.rp_meaning.specs.Sessions.{World, Session, SessionEnd, run_all}

abbrev pub decide_nothing : Value → Operation → Monitor → Decision × Monitor
decide_nothing (value.Rock r) op m = (go, m)
decide_nothing (value.Ref at) op m = (go, m)
decide_nothing (value.Prox at) op m =
    if nat_lt m.store.limit (m.store.used + 1) then (Err no_cell, m) else (go, record m { store = record m.store { used = m.store.used + 1 } })

abbrev pub monitored : Run → Run
monitored run = record run { decide = decide }

abbrev pub unmonitored : Run → Run
unmonitored run = record run { decide = decide_nothing }

abbrev pub IsAllowed : Verdict → Type 0
IsAllowed (allowed permission) = Unit {0}
IsAllowed _ = ⊥

-- nothing was denied or forbidden
abbrev pub AllAllowed : List Entry → Type 0
AllAllowed log = All (λ e. IsAllowed e.verdict) log

-- what is told of a session, beside the log
abbrev pub told_of : Session → Option SessionEnd × List ℕ
told_of k = (k.end, k.printed)

-- The law that a monitor which refuses nothing is not seen: where nothing was denied or forbidden, the ends and the outputs are those of the meaning
-- without a monitor. It is stated here and not proved.
abbrev pub NoRefusalNoTrace : Run → List ℕ → World → Type 0
NoRefusalNoTrace run listed w =
    AllAllowed (run_all (monitored run) listed w).log
    → map told_of (run_all (monitored run) listed w).sessions ≡ map told_of (run_all (unmonitored run) listed w).sessions
