-- Items of lists, tuples, texts and dicts: reading, storing and deleting (Python Language Reference, Subscriptions, Assignment
-- statements, The del statement; Data model, sequences and mappings). Other way: an index below 0 is a whole number to which the
-- length is added, and elements, characters and entries are looked up in lists. The code takes the number of places before the end off
-- the length, takes one byte of an ASCII text and one of the characters that another keeps, and searches a dict that may be hashed.
use Rattle.std.specs.Prelude.{ℕ, ℤ, pos, negsuc, ◌+ℤ◌, nat_lt, int_lt, List, [], ◌∷◌, length, codes, slice_get, Result, Ok, if◌then◌else◌}
use Rattle.std.specs.Option.{option_map_or}
use Rattle.rp_base.specs.declared.kind.Kind.TheVariants.{TypeError, IndexError, KeyError}
use Rattle.rp_base.specs.declared.value.Oid.{Oid}
use Rattle.rp_base.specs.declared.value.Raised.{Raised}
use Rattle.rp_base.specs.declared.value.Rock.{Rock}
use Rattle.rp_base.specs.declared.value.Rock.TheVariants as rock
use Rattle.rp_base.specs.declared.value.Value.{Value}
use Rattle.rp_base.specs.declared.value.Value.TheVariants as value
use Rattle.rp_store.specs.Cost.{cell_if_new}
use Rattle.rp_store.specs.Heap.{content_at, entry_of}
use Rattle.rp_store.specs.Key.{key_form}
use Rattle.rp_store.specs.declared.key.Key.{Key}
use Rattle.rp_store.specs.Object as object
use Rattle.rp_store.specs.Object.{Content}
use Rattle.rp_store.specs.Writers.{with_element, without_element, with_rock, without_entry}
use Rattle.rp_ops.specs.Binary.{new_text}
use Rattle.rp_ops.specs.Numbers.{refused}
use Rattle.rp_ops.specs.Keys.{entry_in, index_number, key_named}
use Rattle.rp_ops.specs.Operand.{lent}
use Rattle.rp_ops.specs.Outcome.{State, Outcome, gives, raises, on_value, charged, on_found, with_change}
use Rattle.rp_show.specs.Shown.{shown_inside}

-- an index below 0 has the length added once
abbrev pub from_end : ℕ → ℤ → ℤ
from_end n i = if int_lt i (pos 0) then i +ℤ pos n else i

abbrev pub place_within : ℕ → ℤ → Result ℕ Raised
place_within n (pos p) = if nat_lt p n then Ok p else refused IndexError (codes "index")
place_within n (negsuc p) = refused IndexError (codes "index")

-- the place that an index names in so many elements
abbrev pub place_named : ℕ → Value → Result ℕ Raised
place_named n i = option_map_or (λ z. place_within n (from_end n z)) (index_number i) (refused TypeError (codes "index"))

abbrev pub no_items : {A : Type 0} → State → Outcome A
no_items s = raises TypeError (codes "item") s

abbrev pub missing_key : {A : Type 0} → Rock → State → Outcome A
missing_key r s = raises KeyError (shown_inside r) s

-- the element at a place, which is there
abbrev pub element_at : List Value → ℕ → State → Outcome Value
element_at xs p s = option_map_or (λ v. gives v s) (slice_get xs p) (raises IndexError (codes "index") s)

-- a character of a text, as a text of its own
abbrev pub character_at : List ℕ → ℕ → State → Outcome Value
character_at t p s = option_map_or (λ c. new_text (c ∷ []) s) (slice_get t p) (raises IndexError (codes "index") s)

abbrev pub elements_item : List Value → Value → State → Outcome Value
elements_item xs i s = on_found (place_named (length xs) i) s (element_at xs)

abbrev pub entries_item : List (Key × (Rock × Value)) → Value → State → Outcome Value
entries_item es i s = on_found (key_named i) s (λ r s. option_map_or (λ e. gives e.1 s) (entry_in es r) (missing_key r s))

abbrev pub content_item : Content → Value → State → Outcome Value
content_item (object.list xs) i s = elements_item xs i s
content_item (object.tuple xs) i s = elements_item xs i s
content_item (object.dict es) i s = entries_item es i s
content_item c i s = no_items s

abbrev pub rock_item : Rock → Value → State → Outcome Value
rock_item (rock.Text t) i s = on_found (place_named (length t) i) s (character_at t)
rock_item r i s = no_items s

-- goes on with the content of the object at a place
abbrev pub at_content : {A : Type 0} → Oid → State → (Content → Outcome A) → Outcome A
at_content at s go = option_map_or go (content_at s.store.heap at) (no_items s)

-- what is got through a proxy is lent (zope.security, proxies)
abbrev pub lent_out : Outcome Value → Outcome Value
lent_out o = on_value o (λ v s. gives (lent v) s)

-- `a[i]`
abbrev pub item : Value → Value → State → Outcome Value
item (value.Rock r) i s = rock_item r i s
item (value.Ref at) i s = at_content at s (λ c. content_item c i s)
item (value.Prox at) i s = lent_out (at_content at s (λ c. content_item c i s))

-- storing and deleting

abbrev pub changed : Oid → (Content → Content) → State → Outcome (Unit {0})
changed at change s = gives tt (with_change s at change)

-- a dict with a key's value set, for one cell where the key is new
abbrev pub entry_put : Oid → Rock → Value → State → Outcome (Unit {0})
entry_put at r v s = charged (cell_if_new (entry_of s.store.heap at r)) s (changed at (with_rock r v))

abbrev pub without_rock : Rock → Content → Content
without_rock r c = option_map_or (λ key. without_entry key c) (key_form r) c

abbrev pub content_set : Oid → Content → Value → Value → State → Outcome (Unit {0})
content_set at (object.list xs) i v s = on_found (place_named (length xs) i) s (λ p s. changed at (with_element p v) s)
content_set at (object.dict es) i v s = on_found (key_named i) s (λ r s. entry_put at r v s)
content_set at c i v s = no_items s

abbrev pub content_del : Oid → Content → Value → State → Outcome (Unit {0})
content_del at (object.list xs) i s = on_found (place_named (length xs) i) s (λ p s. changed at (without_element p) s)
content_del at (object.dict es) i s = on_found (key_named i) s (λ r s. option_map_or (λ e. changed at (without_rock r) s) (entry_in es r) (missing_key r s))
content_del at c i s = no_items s

-- `a[i] = v`
abbrev pub set_item : Value → Value → Value → State → Outcome (Unit {0})
set_item (value.Rock r) i v s = no_items s
set_item (value.Ref at) i v s = at_content at s (λ c. content_set at c i v s)
set_item (value.Prox at) i v s = at_content at s (λ c. content_set at c i v s)

-- `del a[i]`
abbrev pub del_item : Value → Value → State → Outcome (Unit {0})
del_item (value.Rock r) i s = no_items s
del_item (value.Ref at) i s = at_content at s (λ c. content_del at c i s)
del_item (value.Prox at) i s = at_content at s (λ c. content_del at c i s)
