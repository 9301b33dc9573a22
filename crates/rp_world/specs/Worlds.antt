-- The world in which the module of declarations begins, and what comes of it once the module has run. What stands in them is said by `Load` of
-- rp_meaning.
use Rattle.std.specs.Prelude.{◌≡◌, ℕ, List, [], length, map, Option, Some, None, Result, Err}
use Rattle.rp_base.specs.declared.value.Name.{Name}
use Rattle.rp_base.specs.declared.value.Oid.{Oid}
use Rattle.rp_base.specs.declared.value.Value.{Value}
use Rattle.rp_decl.specs.View.{Placed, declarations_view}
use Rattle.rp_meaning.specs.Load.{AllMade, Refused, declared_made, exposed_value, loaded, module_ended, module_limit, module_scope, not_bound, trusted}
use Rattle.rp_meaning.specs.Sessions as sessions
use Rattle.rp_meaning.specs.State.{State, heap_of}
use Rattle.rp_ops.specs.Outcome.{no_cell, no_step, raised}
use Rattle.rp_proxy.specs.declared.world.World.{World}
use Rattle.rp_store.specs.Heap.{Owned, content_at, owner_at}
use Rattle.rp_store.specs.Object.{scope}
use Rattle.rp_store.specs.Store.{added}
use Rattle.rp_trail.specs.View.{trail_view}
use Rattle.rp_world.specs.declared.beginning.Begun.{Begun}
use Rattle.rp_world.specs.declared.refusal.NoWorld.{NoWorld}
use Rattle.rp_world.specs.declared.refusal.NoWorld.TheVariants.{Raised, StopSteps, StopCells, Unbound, TooLong, Memory}

-- the classes and objects of declarations that were read into names
abbrev pub made_of : List (List ℕ) → Placed → AllMade
made_of names d = declared_made names (declarations_view names d)

-- The world in which the module of declarations begins that were read into the names, where its program has so many global names. Nobody runs it,
-- and its global scope stands last.
pub record Begins (names : List (List ℕ)) (d : Placed) (locals : ℕ) (b : Begun) : Type 0 where
  pub store : b.world.store ≡ added (made_of names d).1 trusted (module_scope names (declarations_view names d) locals (made_of names d).0)
  pub globals : b.globals ≡ record { 0 = length (made_of names d).1.heap }
  pub names_same : b.world.names ≡ names
  pub decl_same : b.world.decl ≡ d
  pub unlogged : b.world.trail ≡ []
  pub session : b.world.running.session ≡ 0
  pub who : b.world.running.interaction.ids ≡ []
  pub steps : b.world.running.meter.left ≡ module_limit
  pub printed : b.world.running.printed ≡ []

-- what all sessions share of a world, before the first one
abbrev pub world_view : World → sessions.World
world_view w = record {
  store = w.store;
  log = trail_view w.names w.decl.permissions w.trail;
  names = w.names;
  declarations = declarations_view w.names w.decl;
  sessions = [];
}

-- the moment has the objects, the names and the declarations of the world
pub record IsMomentOf (w : World) (s : State) : Type 0 where
  pub heap : heap_of s ≡ w.store.heap
  pub names : s.names ≡ w.names
  pub declarations : s.declarations ≡ declarations_view w.names w.decl

-- loading comes to this, once a module with these global names has run, whose scope is at a place, where so many cells may be used from then on
abbrev pub ComesTo : List Name → Oid → ℕ → World → Result sessions.World Refused → Type 0
ComesTo locals globals cells w result =
    (s : State) → IsMomentOf w s → loaded cells (map (exposed_value locals globals s) s.declarations.expose) s ≡ result

-- What loading comes to where there is no world. A machine whose count is full, and want of memory, say nothing.
abbrev pub Refuses : NoWorld → (Result sessions.World Refused → Type 0) → Type 0
Refuses (Raised r) comes = comes (Err (module_ended (raised r)))
Refuses StopSteps comes = comes (Err (module_ended no_step))
Refuses StopCells comes = comes (Err (module_ended no_cell))
Refuses (Unbound word) comes = comes (Err (not_bound word))
Refuses TooLong comes = Unit {0}
Refuses Memory comes = Unit {0}

-- the first object is the scope of the exposed names, of which there are so many; trusted code owns it
pub record HasExposed (names : ℕ) (heap : List Owned) : Type 0 where
  pub slots : List (Option Value)
  pub many : length slots ≡ names
  pub content : content_at heap (record { 0 = 0 }) ≡ Some (scope None None slots)
  pub owner : owner_at heap (record { 0 = 0 }) ≡ Some trusted
