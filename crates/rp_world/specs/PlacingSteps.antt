-- The steps of loading, over the records as the program keeps them: names by their places, and the slots of the module's global scope in place of the
-- values that it binds. `Load` of rp_meaning has the same over texts.
use Rattle.std.specs.Prelude.{◌≡◌, ℕ, suc, ◌-◌, true, List, [], ◌∷◌, ◌++◌, length, map, position, Option, Some, None}
use Rattle.std.specs.List.{All, list_any, position_or_len}
use Rattle.std.specs.Map.{lookup}
use Rattle.std.specs.Option.{IfSome, option_map}
use Rattle.rp_base.specs.declared.value.Name.{Name}
use Rattle.rp_base.specs.declared.value.Oid.{Oid}
use Rattle.rp_base.specs.declared.value.Value.{Value}
use Rattle.rp_decl.specs.declared.records.ClassDecl.{ClassDecl}
use Rattle.rp_decl.specs.declared.records.Field.{Field}
use Rattle.rp_decl.specs.declared.records.ObjectDecl.{ObjectDecl}
use Rattle.rp_decl.specs.View.{Placed, field_view}
use Rattle.rp_dict.specs.Dict.{insert_entry}
use Rattle.rp_meaning.specs.Expressions.{empty_slots}
use Rattle.rp_meaning.specs.Load.{Made, field_made, made_in, module_limit, trusted}
use Rattle.rp_meaning.specs.Scopes.{held, slot_in}
use Rattle.rp_store.specs.Heap.{Owned, Names}
use Rattle.rp_store.specs.Kept.{IsSound}
use Rattle.rp_store.specs.Key.{same_name}
use Rattle.rp_store.specs.Object.{Content, instance, class, scope}
use Rattle.rp_store.specs.Parts.{IsClass}
use Rattle.rp_store.specs.Store.{Cells, added, written}
use Rattle.rp_store.specs.Writers.{on_slots}

-- the slots of the global scope that are filled so far, and the store
abbrev pub SlotsMade : Type 0
SlotsMade = List (Option Value) × Cells

abbrev pub and_slot : List (Option Value) → Made → SlotsMade
and_slot slots made = (slots ++ Some made.0 ∷ [], made.1)

-- a declared class in the store, which has no methods yet
abbrev pub class_owned : ClassDecl → Owned
class_owned c = record { owner = trusted; content = class c.name true [] }

-- the classes
abbrev pub classes_placed : List ClassDecl → SlotsMade → SlotsMade
classes_placed [] all = all
classes_placed (c ∷ cs) all = classes_placed cs (and_slot all.0 (made_in (class c.name true []) all.1))

-- fields with their values, and the store in which these were made
abbrev pub FieldsMade : Type 0
FieldsMade = List (Name × Value) × Cells

abbrev pub and_field : List (Name × Value) → Name → Made → FieldsMade
and_field fields name made = (insert_entry same_name fields name made.0, made.1)

abbrev pub fields_placed : List (Name × Field) → FieldsMade → FieldsMade
fields_placed [] all = all
fields_placed (f ∷ fs) all = fields_placed fs (and_field all.0 f.0 (field_made (field_view f.1) all.1))

-- a class with the name is declared
abbrev pub IsDeclared : List ClassDecl → Name → Type 0
IsDeclared classes name = list_any (λ c. same_name name c.name) classes ≡ true

-- the table tells of each name the first of the classes that has it
abbrev pub TellsPlaces : List ClassDecl → List (Name × ℕ) → Type 0
TellsPlaces classes table =
    (name : Name) → lookup (same_name name) table ≡ position (λ c. same_name name c.name) classes

-- the place of a declared class, behind the scope of the exposed names
abbrev pub place_of_class : List ClassDecl → Name → Oid
place_of_class classes name = record { 0 = suc (position_or_len (λ c. same_name name c.name) classes) }

-- an instance with its fields
abbrev pub instance_in : Oid → FieldsMade → Made
instance_in of all = made_in (instance of all.0) all.1

abbrev pub object_placed : List ClassDecl → ObjectDecl → Cells → Made
object_placed classes o cells = instance_in (place_of_class classes o.class) (fields_placed o.fields.items ([], cells))

abbrev pub objects_placed : List ClassDecl → List ObjectDecl → SlotsMade → SlotsMade
objects_placed classes [] all = all
objects_placed classes (o ∷ os) all = objects_placed classes os (and_slot all.0 (object_placed classes o all.1))

-- the scope of the exposed names, which have no values yet, and its place
abbrev pub exposing : List Name → Content
exposing expose = scope None None (map (λ _. None) expose)

abbrev pub first : Oid
first = record { 0 = 0 }

-- some slots, and empty ones behind them up to so many
abbrev pub slots_to : ℕ → List (Option Value) → List (Option Value)
slots_to locals slots = slots ++ empty_slots (locals - length slots)

-- the empty store in which the module is to run
abbrev pub nothing : Cells
nothing = record { heap = []; used = 0; limit = module_limit }

-- the declared classes and objects
abbrev pub declared_placed : Placed → Cells → SlotsMade
declared_placed d cells = objects_placed d.classes d.objects (classes_placed d.classes ([], added cells trusted (exposing d.expose)))

-- the global scope of the module put last, of so many names, of which those of the classes and objects are the first
abbrev pub globals_behind : ℕ → SlotsMade → Cells
globals_behind locals all = added all.1 trusted (scope (Some 0) None (slots_to locals all.0))

-- all that is in the store before the module runs
abbrev pub filled : Placed → ℕ → Cells → Cells
filled d locals cells = globals_behind locals (declared_placed d cells)

-- the value of a name among global ones, whose scope is at a place
abbrev pub global_value : List Name → Oid → List Owned → Name → Option Value
global_value locals globals heap name = held heap (option_map (slot_in globals) (position (same_name name) locals))

-- the store in which the exposed names have their values
abbrev pub exposed_in : List Name → List Name → Oid → Cells → Cells
exposed_in expose locals globals cells = written cells first (on_slots (λ _. map (global_value locals globals cells.heap) expose))

-- the class of each of the objects is a class of the store
abbrev pub AreClassed : List Owned → List ClassDecl → List ObjectDecl → Type 0
AreClassed heap classes objects = All (λ o. Names heap IsClass (place_of_class classes o.class)) objects

-- the value in each slot, where it has one, may be held
abbrev pub AreBound : List Owned → List (Option Value) → Type 0
AreBound heap slots = All (λ slot. IfSome slot (IsSound heap)) slots
