-- The world as decisions see it, and what comes of one.
use Rattle.std.specs.Prelude.{◌≡◌, ◌⊎◌, IsNone, IsSome, if◌then◌else◌, List, [], ◌∷◌, ◌++◌, Result, Ok, Err}
use Rattle.std.specs.Map.{lookup}
use Rattle.rp_base.specs.declared.value.Value.{Value}
use Rattle.rp_base.specs.declared.value.Value.TheVariants as value
use Rattle.rp_base.specs.declared.value.Oid.{Oid}
use Rattle.rp_base.specs.declared.value.Op.{Op}
use Rattle.rp_base.specs.declared.value.OpEnd.{OpEnd}
use Rattle.rp_base.specs.declared.value.OpEnd.TheVariants.{Raised, StopSteps, StopCells, Memory}
use Rattle.rp_checker.specs.Tables.{row_in}
use Rattle.rp_decl.specs.View.{declarations_view}
use Rattle.rp_decl.specs.declared.row.Row.{Row}
use Rattle.rp_decl.specs.declared.row.Row.TheVariants.{Public, Needs, Default, Forbidden}
use Rattle.rp_decl.specs.declared.records.Perm.{Perm}
use Rattle.rp_interact.specs.Interacting.{Interacting, has_in}
use Rattle.rp_interact.specs.Kept.{IsKeptOrNot, is_perm, used}
use Rattle.rp_trail.specs.View.{is_named, trail_view}
use Rattle.rp_trail.specs.declared.entry.Entry.{Entry}
use Rattle.rp_trail.specs.declared.entry.Verdict.{Verdict}
use Rattle.rp_trail.specs.declared.entry.Verdict.TheVariants as verdict
use Rattle.rp_ops.specs.Outcome.{no_cell}
use Rattle.rp_proxy.specs.Decide.{Monitor, Decision, class_at, go, refuses}
use Rattle.rp_proxy.specs.declared.world.World.{World}

abbrev pub monitor_of : World → Monitor
monitor_of w = record {
  declarations = declarations_view w.names w.decl;
  names = w.names;
  store = w.store;
  log = trail_view w.names w.decl.permissions w.trail;
  session = w.running.session;
  who = w.running.interaction.ids;
}

-- The answer is the one of the decision, with what it leaves; want of memory leaves all as it was.
abbrev pub GivesDecision : {T : Type 0} → Result T OpEnd → Monitor → Monitor → Decision × Monitor → Type 0
GivesDecision (Ok x) old new decided = decided ≡ (go, new)
GivesDecision (Err (Raised r)) old new decided = decided ≡ (refuses r, new)
GivesDecision (Err StopSteps) old new decided = ⊥
GivesDecision (Err StopCells) old new decided = decided ≡ (Err no_cell, new)
GivesDecision (Err Memory) old new decided = new ≡ old

-- only the cells used, the trail and the answers that are kept are other ones
pub record OnlyDecides (old new : World) : Type 0 where
  pub world : new ≡ record old {
    store = record old.store { used = new.store.used };
    trail = new.trail;
    running = record old.running { interaction = new.running.interaction };
  }
  pub interaction : new.running.interaction ≡ record old.running.interaction { kept = new.running.interaction.kept }

-- the value is no proxy
abbrev pub IsPlain : Value → Type 0
IsPlain (value.Rock rock) = Unit {0}
IsPlain (value.Ref at) = Unit {0}
IsPlain (value.Prox at) = ⊥

-- the verdict by a row, as the program keeps it
abbrev pub verdict_in : Interacting → Row → Verdict
verdict_in i Public = verdict.Allowed Public
verdict_in i (Needs permission) = if has_in i permission then verdict.Allowed (Needs permission) else verdict.Denied permission
verdict_in i Default = verdict.Allowed Default
verdict_in i Forbidden = verdict.Forbidden

-- the entry of an operation on the object at a place, as the program keeps it
abbrev pub entry_in : World → Oid → Op → Entry
entry_in w at op = record {
  session = w.running.session;
  named = is_named w.names op;
  op = op;
  class = class_at w.store.heap at;
  verdict = verdict_in w.running.interaction (row_in w.checkers (class_at w.store.heap at) op);
}

-- Each answer of a decision has its entry, the latest one of the trail. Where no cell is left, or memory was refused, there
-- is none.
abbrev pub IsLogged : {T : Type 0} → Result T OpEnd → Entry → List Entry → List Entry → Type 0
IsLogged (Ok x) entry old new = new ≡ old ++ entry ∷ []
IsLogged (Err (Raised r)) entry old new = new ≡ old ++ entry ∷ []
IsLogged (Err StopSteps) entry old new = ⊥
IsLogged (Err StopCells) entry old new = new ≡ old
IsLogged (Err Memory) entry old new = new ≡ old

-- an interaction after `decide` of a permission: a kept answer comes to the front, and another is kept if there is memory for it
pub record IsDecided (permission : Perm) (old new : Interacting) : Type 0 where
  pub held : IsSome (lookup (is_perm permission) old.kept) → new ≡ used old permission
  pub other : IsNone (lookup (is_perm permission) old.kept) → IsKeptOrNot old permission new

-- an interaction after it was asked for the permission of a row, if there is one
abbrev pub IsAsked : Row → Interacting → Interacting → Type 0
IsAsked Public old new = new ≡ old
IsAsked (Needs permission) old new = IsDecided permission old new
IsAsked Default old new = new ≡ old
IsAsked Forbidden old new = new ≡ old

-- it is asked for each entry, and perhaps where memory was refused
abbrev pub IsAskedBy : {T : Type 0} → Result T OpEnd → Row → Interacting → Interacting → Type 0
IsAskedBy (Ok x) row old new = IsAsked row old new
IsAskedBy (Err (Raised r)) row old new = IsAsked row old new
IsAskedBy (Err StopSteps) row old new = ⊥
IsAskedBy (Err StopCells) row old new = new ≡ old
IsAskedBy (Err Memory) row old new = IsAsked row old new ⊎ (new ≡ old)
