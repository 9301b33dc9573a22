-- How values are shown (Python Standard Library, str and repr). Each character costs its bytes, in order, and each element within a
-- container a step before its text. Other way: each part gives a text of its own, of which each character is charged, and the parts are
-- joined; the code writes all into one line, and charges a part at once where all of it fits.
use Rattle.std.specs.Prelude.{ℕ, zero, suc, ◌==◌, Bool, List, [], ◌∷◌, ◌++◌, length, codes, encode_utf8_all, Option, Some, None, if◌then◌else◌}
use Rattle.std.specs.List.{list_any}
use Rattle.std.specs.Option.{option_map_or}
use Rattle.rp_base.specs.declared.value.Name.{Name}
use Rattle.rp_base.specs.declared.value.Oid.{Oid}
use Rattle.rp_base.specs.declared.value.Rock.{Rock}
use Rattle.rp_base.specs.declared.value.Rock.TheVariants as rock
use Rattle.rp_base.specs.declared.value.Value.{Value}
use Rattle.rp_base.specs.declared.value.Value.TheVariants as value
use Rattle.rp_base.specs.Native.{native_name}
use Rattle.rp_store.specs.declared.object.Callee.{Callee}
use Rattle.rp_store.specs.declared.object.Callee.TheVariants as callee
use Rattle.rp_store.specs.declared.key.Key.{Key}
use Rattle.rp_store.specs.Heap.{Owned, content_at}
use Rattle.rp_store.specs.Object as object
use Rattle.rp_store.specs.Object.{Content}
use Rattle.rp_ops.specs.Depth.{deepest, nested}
use Rattle.rp_ops.specs.Outcome.{State, Outcome, gives, on_value, stepped, charged}
use Rattle.rp_base.specs.Names.{word_of}
use Rattle.rp_show.specs.Shown.{shown_inside}

-- a text that is written, of which each character costs its bytes
abbrev pub printed : List ℕ → State → Outcome (List ℕ)
printed [] s = gives [] s
printed (c ∷ cs) s = charged (length (encode_utf8_all (c ∷ []))) s (λ s. on_value (printed cs s) (λ t s. gives (c ∷ t) s))

-- one text behind another
abbrev pub followed : Outcome (List ℕ) → (State → Outcome (List ℕ)) → Outcome (List ℕ)
followed first next = on_value first (λ t s. on_value (next s) (λ u s. gives (t ++ u) s))

-- what shows a value within a container
abbrev pub Showing : Type 0
Showing = Value → State → Outcome (List ℕ)

-- an element: its step, then its text
abbrev pub element : Showing → Value → State → Outcome (List ℕ)
element show v s = stepped s (show v)

-- an entry of a dict is one element: its key and its value
abbrev pub entry : Showing → Key × (Rock × Value) → State → Outcome (List ℕ)
entry show e s = stepped s (λ s. followed (printed (shown_inside e.1.0 ++ codes ": ") s) (show e.1.1))

-- further elements, each behind a separator
abbrev pub further : {A : Type 0} → (A → State → Outcome (List ℕ)) → List A → State → Outcome (List ℕ)
further one [] s = gives [] s
further one (x ∷ xs) s = followed (followed (printed (codes ", ") s) (one x)) (further one xs)

abbrev pub separated : {A : Type 0} → (A → State → Outcome (List ℕ)) → List A → State → Outcome (List ℕ)
separated one [] s = gives [] s
separated one (x ∷ xs) s = followed (one x s) (further one xs)

abbrev pub enclosed : List ℕ → List ℕ → (State → Outcome (List ℕ)) → State → Outcome (List ℕ)
enclosed opening closing inside s = followed (followed (printed opening s) inside) (printed closing)

-- a tuple of one element ends with a comma
abbrev pub tuple_end : List Value → List ℕ
tuple_end xs = if length xs == 1 then codes ",)" else codes ")"

-- a container within itself
abbrev pub cut_text : Content → List ℕ
cut_text (object.list xs) = codes "[...]"
cut_text (object.tuple xs) = codes "(...)"
cut_text (object.dict es) = codes "{...}"
cut_text c = []

abbrev pub is_among : List Oid → Oid → Bool
is_among outer at = list_any (λ o. o.0 == at.0) outer

-- where the names are these words
module _ (names : List (List ℕ)) where
  abbrev pub function_name : Option Name → List ℕ
  function_name (Some n) = word_of names n
  function_name None = codes "<lambda>"

  abbrev pub function_word : Content → List ℕ
  function_word (object.function name unit block within defaults) = function_name name
  function_word c = []

  -- the name of what a bound method calls
  abbrev pub callee_word : List Owned → Callee → List ℕ
  callee_word heap (callee.Function at) = option_map_or function_word (content_at heap at) []
  callee_word heap (callee.Native id) = native_name id

  abbrev pub class_word : Content → List ℕ
  class_word (object.class name declared methods) = word_of names name
  class_word c = []

  -- of an object that is no container
  abbrev pub object_text : List Owned → Content → List ℕ
  object_text heap (object.instance of fields) = codes "<" ++ option_map_or class_word (content_at heap of) [] ++ codes " object>"
  object_text heap (object.class name declared methods) = codes "<class '" ++ word_of names name ++ codes "'>"
  object_text heap (object.function name unit block within defaults) = codes "<function " ++ function_name name ++ codes ">"
  object_text heap (object.method receiver called) = codes "<method " ++ callee_word heap called ++ codes ">"
  object_text heap c = []

  -- a container, where what shows its elements is given, or another object
  abbrev pub content_shown : Option Showing → Content → State → Outcome (List ℕ)
  content_shown inner (object.list xs) s = nested inner s (λ show. enclosed (codes "[") (codes "]") (separated (element show) xs) s)
  content_shown inner (object.tuple xs) s = nested inner s (λ show. enclosed (codes "(") (tuple_end xs) (separated (element show) xs) s)
  content_shown inner (object.dict es) s = nested inner s (λ show. enclosed (codes "{") (codes "}") (separated (entry show) es) s)
  content_shown inner c s = printed (object_text s.store.heap c) s

  -- the object at a place, within containers at other places
  abbrev pub object_shown : (List Oid → Option Showing) → List Oid → Oid → State → Outcome (List ℕ)
  object_shown inner outer at s =
      option_map_or (λ c. if is_among outer at then printed (cut_text c) s else content_shown (inner (at ∷ outer)) c s) (content_at s.store.heap at) (gives [] s)

  abbrev pub shown_by : (List Oid → Option Showing) → List Oid → Showing
  shown_by inner outer (value.Rock r) s = printed (shown_inside r) s
  shown_by inner outer (value.Ref at) s = object_shown inner outer at s
  shown_by inner outer (value.Prox at) s = object_shown inner outer at s

  -- a value within the containers at these places, where containers may lie so deep within it
  abbrev pub shown : ℕ → List Oid → Showing
  shown zero = shown_by (λ outer. None)
  shown (suc d) = shown_by (λ outer. Some (shown d outer))

  -- a text is handed on, an exception value is shown as its text, all else as within a container
  abbrev pub show : Value → State → Outcome (List ℕ)
  show (value.Rock (rock.Text t)) s = gives t s
  show (value.Rock (rock.Exc k t)) s = printed t s
  show v s = shown deepest [] v s
