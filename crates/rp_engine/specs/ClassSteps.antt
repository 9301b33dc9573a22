-- What a `class` statement still does once some statements of its block are done, as the code has a function for it; each is a part of its form of
-- rp_meaning. Functions that were made stand at hand, the last one upon the others.
use Rattle.std.specs.Prelude.{ℕ, suc, List, [], ◌∷◌, Option, Some, None, false}
use Rattle.rp_base.specs.Names.{word_of}
use Rattle.rp_base.specs.declared.value.Name.{Name}
use Rattle.rp_base.specs.declared.value.Oid.{Oid}
use Rattle.rp_base.specs.declared.value.Side.{Side}
use Rattle.rp_base.specs.declared.value.Value.{Value}
use Rattle.rp_base.specs.declared.value.Value.TheVariants as value
use Rattle.rp_dict.specs.Dict.{insert_entry}
use Rattle.rp_frame.specs.Top.{below, top}
use Rattle.rp_meaning.specs.Classes.{Methods, Part, class_made, declared_at, functions_in, method, methods_made, other, part_done}
use Rattle.rp_meaning.specs.Frame.{Doing, bind_name}
use Rattle.rp_meaning.specs.State.{State, Outcome, heap_of, makes}
use Rattle.rp_ops.specs.Outcome.{on_value}
use Rattle.rp_store.specs.Key.{same_name}
use Rattle.rp_store.specs.Object as object
use Rattle.rp_access.specs.ClassObjects.{renewed}
use Rattle.rp_engine.specs.ComprehensionSteps.{place_at}

-- the name of the method that a statement makes, where it makes one
abbrev pub name_of : Part → Option Name
name_of (method n m) = Some n
name_of (other d) = None

-- the methods of some statements, the last one first, by the functions at hand
abbrev pub held_methods : List Part → List Value → Methods
held_methods [] vs = []
held_methods (method n m ∷ ps) vs = insert_entry same_name (held_methods ps (below vs)) n (place_at (top vs))
held_methods (other d ∷ ps) vs = held_methods ps vs

-- how many methods these are
abbrev pub count_of : List Part → ℕ
count_of [] = 0
count_of (method n m ∷ ps) = suc (count_of ps)
count_of (other d ∷ ps) = count_of ps

-- the class of a name with these methods, bound to that
abbrev pub class_bound : Name → Methods → Doing
class_bound n ms frame s =
    on_value (class_made (declared_at frame (heap_of s) (word_of s.names n) s.declarations.classes) n (functions_in (heap_of s) ms) frame s)
    (λ at s. bind_name n (value.Ref at) frame s)

-- the statements that are left, behind these methods
abbrev pub class_behind : Name → List Part → Methods → Doing
class_behind n ps ms frame s = on_value (methods_made ps ms frame s) (λ ms s. class_bound n ms frame s)

-- a statement behind its step, and those behind it
abbrev pub class_with : Name → Part → List Part → Methods → Doing
class_with n p ps ms frame s = on_value (part_done p ms frame s) (λ ms s. class_behind n ps ms frame s)

-- the class of a side: a new one, or a declared one, which gets the methods in place of its own
abbrev pub made_by : Side → Option Oid → Name → Methods → State → Outcome Oid
made_by side (Some at) n ms s = renewed at ms s
made_by side None n ms s = makes side (object.class n false ms) s
