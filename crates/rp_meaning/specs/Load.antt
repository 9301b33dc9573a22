-- What there is before the first session: the exposed names, the declared classes and objects, and what the module's text made of them. Nothing but
-- what that text makes costs cells. These are rules of our own. A module whose text is no program is refused before.
use Rattle.std.specs.Prelude.{ℕ, suc, ◌-◌, List, [], ◌∷◌, ◌++◌, map, length, true, option_map, Option, Some, None, Result, Ok, Err, position}
use Rattle.std.specs.List.{position_or_len}
use Rattle.rp_base.specs.declared.value.Name.{Name}
use Rattle.rp_base.specs.declared.value.Oid.{Oid}
use Rattle.rp_base.specs.declared.value.Rock.TheVariants as rock
use Rattle.rp_base.specs.declared.value.Side.{Side}
use Rattle.rp_base.specs.declared.value.Value.{Value}
use Rattle.rp_base.specs.declared.value.Value.TheVariants as value
use Rattle.rp_base.specs.Same.{same_text}
use Rattle.rp_decl.specs.Order.{least}
use Rattle.rp_decl.specs.Records as records
use Rattle.rp_decl.specs.Records.{Declarations, Class, Object, Field, Fields, Entries}
use Rattle.rp_ops.specs.Outcome as plain
use Rattle.rp_ops.specs.Outcome.{End}
use Rattle.rp_store.specs.Key.{same_name}
use Rattle.rp_store.specs.Object as object
use Rattle.rp_store.specs.Object.{Content}
use Rattle.rp_store.specs.Store.{Cells, added}
use Rattle.rp_store.specs.Writers.{on_slots, with_rock}
use Rattle.rp_meaning.specs.BuiltIn.{name_of}
use Rattle.rp_meaning.specs.Expressions.{empty_slots}
use Rattle.rp_meaning.specs.Frame.{Run, Program}
use Rattle.rp_meaning.specs.Meaning.{block}
use Rattle.rp_meaning.specs.Running.{program_frame}
use Rattle.rp_meaning.specs.Scopes.{held, slot_in}
use Rattle.rp_meaning.specs.Sessions.{World, first_end}
use Rattle.rp_meaning.specs.State.{State, Outcome, Flow, heap_of, with_change}

abbrev pub trusted : Side
trusted = record { 0 = 0 }

-- as many steps, and as many cells, as the module's text may use
abbrev pub module_limit : ℕ
module_limit = 1000000

-- a value, and the store in which it was made
abbrev pub Made : Type 0
Made = Value × Cells

-- an object put last
abbrev pub made_in : Content → Cells → Made
made_in c cells = (value.Ref (record { 0 = length cells.heap }), added cells trusted c)

-- the value of a declared field; the lists and dicts within it come before it
abbrev mutual
  pub field_made : Field → Cells → Made
  field_made (records.int z) cells = (value.Rock (rock.Int z), cells)
  field_made (records.text t) cells = (value.Rock (rock.Text t), cells)
  field_made (records.truth b) cells = (value.Rock (rock.Truth b), cells)
  field_made (records.list fs) cells = list_made [] fs cells
  field_made (records.table es) cells = table_made (object.dict []) es cells

  pub list_made : List Value → Fields → Cells → Made
  list_made vs records.no_fields cells = made_in (object.list vs) cells
  list_made vs (records.field f fs) cells = let made = field_made f cells in list_made (vs ++ made.0 ∷ []) fs made.1

  pub table_made : Content → Entries → Cells → Made
  table_made content records.no_entries cells = made_in content cells
  table_made content (records.entry key f es) cells = let made = field_made f cells in table_made (with_rock (rock.Text key) made.0 content) es made.1

-- some values, and the store in which they were made
abbrev pub AllMade : Type 0
AllMade = List Value × Cells

abbrev pub and_made : AllMade → Made → AllMade
and_made all made = (all.0 ++ made.0 ∷ [], made.1)

module _ (names : List (List ℕ)) (d : Declarations) where
  -- the scope of the exposed names, which is the first object; their values come last
  abbrev pub exposing : Cells
  exposing = added (record { heap = []; used = 0; limit = module_limit }) trusted (object.scope None None (empty_slots (length d.expose)))

  -- the classes, in order
  abbrev pub classes_made : List Class → AllMade → AllMade
  classes_made [] all = all
  classes_made (c ∷ cs) all = classes_made cs (and_made all (made_in (object.class (name_of names c.name) true []) all.1))

  -- the place of a declared class: they stand behind the scope of the exposed names
  abbrev pub class_place : List ℕ → Oid
  class_place word = record { 0 = suc (position_or_len (λ c. same_text word c.name) d.classes) }

  -- an instance of the class at a place, with fields behind those that are made
  abbrev pub instance_made : Oid → List (List ℕ × Field) → List (Name × Value) → Cells → Made
  instance_made of [] fs cells = made_in (object.instance of fs) cells
  instance_made of (f ∷ more) fs cells = let made = field_made f.1 cells in instance_made of more (fs ++ (name_of names f.0, made.0) ∷ []) made.1

  -- the objects, in order
  abbrev pub objects_made : List Object → AllMade → AllMade
  objects_made [] all = all
  objects_made (o ∷ os) all = objects_made os (and_made all (instance_made (class_place o.class) o.fields [] all.1))

  abbrev pub declared_made : AllMade
  declared_made = objects_made d.objects (classes_made d.classes ([], exposing))

  -- the global scope of the module, of so many names, of which the classes and the objects are the first
  abbrev pub module_scope : ℕ → List Value → Content
  module_scope locals vs = object.scope (Some 0) None (map Some vs ++ empty_slots (locals - length vs))

  -- the moment in which the module begins; its scope is the last object
  abbrev pub module_state : ℕ → AllMade → State
  module_state locals all = record {
    plain = plain.state_of (added all.1 trusted (module_scope locals all.0)) module_limit;
    log = [];
    session = 0;
    who = [];
    printed = [];
    names = names;
    declarations = d;
  }

abbrev pub locals_of : Program → List Name
locals_of program = program.layouts.locals 0

-- the value of an exposed name among the globals of the module
abbrev pub exposed_value : List Name → Oid → State → List ℕ → Option Value
exposed_value locals globals s word =
    held (heap_of s) (option_map (slot_in globals) (position (same_name (name_of s.names word)) locals))

-- the exposed names that have no value
abbrev pub unbound : List (List ℕ) → List (Option Value) → List (List ℕ)
unbound (word ∷ words) (None ∷ vs) = word ∷ unbound words vs
unbound (word ∷ words) (Some v ∷ vs) = unbound words vs
unbound _ _ = []

-- why there is no world: the module ended so, or this name is the least in byte order that is exposed and not bound
pub data Refused : Type 0 where
  module_ended : End → Refused
  not_bound : List ℕ → Refused

-- the exposed names have their values, and cells are counted anew
abbrev pub world_of : ℕ → List (Option Value) → State → World
world_of limit exposed s = record {
  store = record { heap = heap_of (with_change (record { 0 = 0 }) (on_slots (λ _. exposed)) s); used = 0; limit = limit };
  log = [];
  names = s.names;
  declarations = s.declarations;
  sessions = [];
}

abbrev pub loaded : ℕ → List (Option Value) → State → Result World Refused
loaded limit exposed s = of (least (unbound s.declarations.expose exposed)) where
  of : Option (List ℕ) → Result World Refused
  of None = Ok (world_of limit exposed s)
  of (Some word) = Err (not_bound word)

abbrev pub loaded_after : List Name → ℕ → Oid → Outcome Flow → Result World Refused
loaded_after locals limit globals o = by o.answer where
  by : Result Flow End → Result World Refused
  by (Err e) = Err (module_ended e)
  by (Ok flow) = loaded limit (map (exposed_value locals globals o.state) o.state.declarations.expose) o.state

-- the module of a run, done from a moment; its global scope is at a place
abbrev pub module_run : Run → ℕ → Oid → State → Result World Refused
module_run run limit globals s =
    loaded_after (locals_of (run.programs trusted)) limit globals (block (run.programs trusted).body (program_frame run trusted globals) s)

-- the world before the first session, where so many cells may be used
abbrev pub load : Run → List (List ℕ) → Declarations → ℕ → Result World Refused
load run names d limit =
    let all = declared_made names d in
    module_run run limit (record { 0 = length all.1.heap }) (module_state names d (length (locals_of (run.programs trusted))) all)

-- the world with a session more, whose global scope costs nothing
abbrev pub with_new_session : Run → List (List ℕ) → ℕ → World → World
with_new_session run who steps w = of (record { 0 = suc (length w.sessions) }) where
  of : Side → World
  of side = record w {
    store = added w.store side (object.scope (Some 0) None (empty_slots (length (locals_of (run.programs side)))));
    sessions = w.sessions ++ record {
      side = side;
      who = who;
      globals = record { 0 = length w.store.heap };
      steps = steps;
      printed = [];
      next = 0;
      end = first_end (run.programs side).body;
    } ∷ [];
  }
