-- The sessions as their meaning has them.
use Rattle.std.specs.Prelude.{◌≡◌, ◌<◌, ◌≤◌, ◌+◌, ◌-◌, ℕ, List, map, Bool, if◌then◌else◌, Option, Some, None, Result, Ok, Err}
use Rattle.std.specs.Option.{option_map}
use Rattle.rp_decl.specs.View.{declarations_view}
use Rattle.rp_ops.specs.Outcome.{End, raised, no_step, no_cell}
use Rattle.rp_meaning.specs.Sessions as meant
use Rattle.rp_meaning.specs.State.{State, Outcome, Flow}
use Rattle.rp_proxy.specs.declared.world.World.{World}
use Rattle.rp_trail.specs.View.{trail_view}
use Rattle.rp_session.specs.declared.session.Session.{Session}
use Rattle.rp_session.specs.declared.session_end.SessionEnd.{SessionEnd}
use Rattle.rp_session.specs.declared.session_end.SessionEnd.TheVariants.{Well, Raised, StopSteps, StopCells}
use Rattle.rp_session.specs.declared.session_halt.SessionHalt.{SessionHalt}
use Rattle.rp_session.specs.declared.sessions.Sessions.{Sessions}

abbrev pub end_view : SessionEnd → meant.SessionEnd
end_view Well = meant.well
end_view (Raised r) = meant.cut_off (raised r)
end_view StopSteps = meant.cut_off no_step
end_view StopCells = meant.cut_off no_cell

abbrev pub session_view : Session → meant.Session
session_view k = record {
  side = record { 0 = k.running.session };
  who = k.running.interaction.ids;
  globals = k.globals;
  steps = k.running.meter.left;
  printed = k.running.printed;
  next = k.next;
  end = option_map end_view k.end;
}

-- the steps that it has used
abbrev pub played_of : Session → ℕ
played_of k = k.given - k.running.meter.left

-- it was given so many steps: those that it has used and those that are left to it
pub record AddsUp (steps : ℕ) (k : Session) : Type 0 where
  pub given : k.given ≡ steps
  pub sum : played_of k + (session_view k).steps ≡ steps

-- what sessions share, and some sessions
abbrev pub shared : World → List meant.Session → meant.World
shared w ks = record {
  store = w.store;
  log = trail_view w.names w.decl.permissions w.trail;
  names = w.names;
  declarations = declarations_view w.names w.decl;
  sessions = ks;
}

abbrev pub sessions_view : Sessions → meant.World
sessions_view x = shared x.world (map session_view x.list.items)

-- the steps that each was given, in order
abbrev pub given_to : Sessions → List ℕ
given_to x = map (λ (k : Session). k.given) x.list.items

-- whether a session has ended with what a statement came to, which may be its last
abbrev pub ended : Bool → Result Flow End → Option meant.SessionEnd
ended is_last (Err e) = Some (meant.cut_off e)
ended is_last (Ok flow) = if is_last then Some meant.well else None

abbrev pub EndsSo : Option SessionEnd → Bool → State → Outcome Flow → Type 0
EndsSo end is_last s o = (o.state ≡ s) × (option_map end_view end ≡ ended is_last o.answer)

-- it is one of so many sessions, numbered from 1, whose machine does not go on
abbrev pub IsHaltOf : ℕ → SessionHalt → Type 0
IsHaltOf sessions halt = (0 < halt.session) × (halt.session ≤ sessions)
