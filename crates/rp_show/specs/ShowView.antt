-- What the code that shows values has printed, and what each of its parts prints. These are views for the proofs, which follow the code
-- part by part: no clause of a public function cites them, and the proofs tie them to the definitions of how values are shown.
use Rattle.std.specs.Prelude.{ℕ, zero, suc, Bool, true, false, List, [], ◌∷◌, ◌++◌, map, codes, Option, Some, None, Result, Ok, Err, if◌then◌else◌}
use Rattle.std.specs.Option.{option_map_or}
use Rattle.rp_base.specs.declared.value.Oid.{Oid}
use Rattle.rp_base.specs.declared.value.OpEnd.{OpEnd}
use Rattle.rp_base.specs.declared.value.Rock.{Rock}
use Rattle.rp_base.specs.declared.value.Rock.TheVariants as rock
use Rattle.rp_base.specs.declared.value.Value.{Value}
use Rattle.rp_store.specs.declared.key.Key.{Key}
use Rattle.rp_store.specs.Counters.{KeepsCounters}
use Rattle.rp_store.specs.Heap.{Owned, content_at}
use Rattle.rp_store.specs.Object as object
use Rattle.rp_store.specs.Object.{Content}
use Rattle.rp_store.specs.Store.{Cells}
use Rattle.rp_ops.specs.Outcome.{State, Outcome, Meets, gives, on_value, state_of, stepped}
use Rattle.rp_base.specs.Names.{word_of}
use Rattle.rp_show.specs.Show.{Showing, callee_word, class_word, content_shown, cut_text, followed, function_name, further, is_among, printed, separated, shown, tuple_end}
use Rattle.rp_show.specs.Shown.{shown_inside}

-- the cells used and the most that may be used, apart from the heap
pub record Room : Type 0 where
  pub used : ℕ
  pub limit : ℕ

abbrev pub cells_of : List Owned → Room → Cells
cells_of heap room = record { heap = heap; used = room.used; limit = room.limit }

-- the limit stays, and no cell that was used is given back
abbrev pub KeepsRoom : Room → Room → Type 0
KeepsRoom old new = KeepsCounters (cells_of [] old) (cells_of [] new)

abbrev pub moment : List Owned → Room → ℕ → State
moment heap room steps = state_of (cells_of heap room) steps

-- the text of an outcome, behind what is written already
abbrev pub added : List ℕ → Outcome (List ℕ) → Outcome (List ℕ)
added line o = on_value o (λ t s. gives (line ++ t) s)

-- a function that writes met the meaning, and the line is then so
abbrev pub Writes : Result (Unit {0}) OpEnd → List ℕ → State → Outcome (List ℕ) → Type 0
Writes (Ok u) line s o = Meets (Ok line) s o
Writes (Err e) line s o = Meets {A = List ℕ} (Err e) s o

-- an element, and those from it on: the first has no separator
abbrev pub turn : {A : Type 0} → (A → State → Outcome (List ℕ)) → Bool → A → State → Outcome (List ℕ)
turn one true x s = one x s
turn one false x s = followed (printed (codes ", ") s) (one x)

abbrev pub rest : {A : Type 0} → (A → State → Outcome (List ℕ)) → Bool → List A → State → Outcome (List ℕ)
rest one true xs s = separated one xs s
rest one false xs s = further one xs s

-- what stands before an element
abbrev pub gap : Bool → List ℕ
gap true = []
gap false = codes ", "

abbrev pub opening : Content → List ℕ
opening (object.list xs) = codes "["
opening (object.tuple xs) = codes "("
opening (object.dict es) = codes "{"
opening (object.instance of fields) = codes "<"
opening (object.class name declared methods) = codes "<class '"
opening (object.function name unit block within defaults) = codes "<function "
opening (object.method receiver called) = codes "<method "
opening (object.scope block parent slots) = []

abbrev pub closing : Content → List ℕ
closing (object.list xs) = codes "]"
closing (object.tuple xs) = tuple_end xs
closing (object.dict es) = codes "}"
closing (object.instance of fields) = codes " object>"
closing (object.class name declared methods) = codes "'>"
closing (object.function name unit block within defaults) = codes ">"
closing (object.method receiver called) = codes ">"
closing (object.scope block parent slots) = []

abbrev pub is_container : Content → Bool
is_container (object.list xs) = true
is_container (object.tuple xs) = true
is_container (object.dict es) = true
is_container c = false

-- the name that is shown of an object that is no container
abbrev pub word_in : List (List ℕ) → List Owned → Content → List ℕ
word_in names heap (object.instance of fields) = option_map_or (class_word names) (content_at heap of) []
word_in names heap (object.class name declared methods) = word_of names name
word_in names heap (object.function name unit block within defaults) = function_name names name
word_in names heap (object.method receiver called) = callee_word names heap called
word_in names heap c = []

abbrev pub named_text : List (List ℕ) → List Owned → Content → List ℕ
named_text names heap c = opening c ++ word_in names heap c ++ closing c

-- what is shown of a container: an element of a list or a tuple has no key, an entry of a dict has one
pub record Item : Type 0 where
  pub key : Option Rock
  pub value : Value

abbrev pub element_item : Value → Item
element_item v = record { key = None; value = v }

abbrev pub entry_item : Key × (Rock × Value) → Item
entry_item e = record { key = Some e.1.0; value = e.1.1 }

abbrev pub items : Content → List Item
items (object.list xs) = map element_item xs
items (object.tuple xs) = map element_item xs
items (object.dict es) = map entry_item es
items c = []

-- the key and what stands between it and the value
abbrev pub before_value : Rock → List ℕ
before_value r = shown_inside r ++ codes ": "

abbrev pub key_text : Option Rock → List ℕ
key_text key = option_map_or before_value key []

-- an item takes a step before its text
abbrev pub item : Showing → Item → State → Outcome (List ℕ)
item show i s = stepped s (λ s. followed (printed (key_text i.key) s) (show i.value))

-- a rock alone: a text is handed on, an exception value is shown as its text
abbrev pub rock_shown : Rock → State → Outcome (List ℕ)
rock_shown (rock.Text t) s = gives t s
rock_shown (rock.Exc k t) s = printed t s
rock_shown r s = printed (shown_inside r) s

-- what shows the elements of a container, where a depth is left for them
abbrev pub inner : List (List ℕ) → ℕ → List Oid → Option Showing
inner names zero outer = None
inner names (suc left) outer = Some (shown names left outer)

abbrev pub item_of : List (List ℕ) → ℕ → List Oid → Item → State → Outcome (List ℕ)
item_of names left outer = item (shown names left outer)

-- an object that stands at a place, within containers at other places
abbrev pub object_within : List (List ℕ) → ℕ → List Oid → Oid → Content → State → Outcome (List ℕ)
object_within names left outer at c s = if is_among outer at then printed (cut_text c) s else content_shown names (inner names left (at ∷ outer)) c s
