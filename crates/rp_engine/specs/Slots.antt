-- Slots of scopes, as the code has them, and what is known of a name that has none.
use Rattle.std.specs.Prelude.{List, Option}
use Rattle.rp_base.specs.Names.{word_of}
use Rattle.rp_base.specs.declared.value.Name.{Name}
use Rattle.rp_base.specs.declared.value.Oid.{Oid}
use Rattle.rp_scope.specs.Scopes.{Scope}
use Rattle.rp_scope.specs.declared.place.Place2.{Place2}
use Rattle.rp_store.specs.Heap.{Owned}
use Rattle.rp_engine.specs.Moment.{layouts_view, place_view}
use Rattle.rp_meaning.specs.Scopes as scopes
use Rattle.rp_meaning.specs.Scopes.{Place, slot_in, unbound_kind}
use Rattle.rp_meaning.specs.State.{State, Outcome, Flow}
use Rattle.rp_ops.specs.Outcome.{raises}
use Rattle.rp_engine.specs.declared.names.Slot.{Slot}

abbrev pub slot_view : Slot → scopes.Slot
slot_view x = slot_in x.scope x.index

-- the slot of a name that is found at a place, by the layouts of the code
abbrev pub slot_found : List Scope → List Owned → Oid → Place2 → Name → Option scopes.Slot
slot_found table heap at place name = scopes.slot_at (layouts_view table) heap at (place_view place) name

-- a name is to be unbound that is not bound
abbrev pub unbound_at : Place → Name → State → Outcome Flow
unbound_at place name s = raises (unbound_kind place) (word_of s.names name) s
