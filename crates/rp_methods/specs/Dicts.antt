-- The methods of dicts (Python Standard Library, Mapping Types). Other way: a dict is the list of its entries, and an entry is the first of them whose key
-- is the same. The code walks and searches dicts that may be hashed.
use Rattle.std.specs.Prelude.{ℕ, ◌+◌, ◌*◌, List, [], ◌∷◌, ◌++◌, length, map, nat_lt, slice_get, Option, Some, None, is_some, if◌then◌else◌}
use Rattle.std.specs.Option.{option_map_or}
use Rattle.rp_base.specs.declared.native.NativeId.{NativeId}
use Rattle.rp_base.specs.declared.native.NativeId.TheVariants as native
use Rattle.rp_base.specs.declared.value.Oid.{Oid}
use Rattle.rp_base.specs.declared.value.Rock.{Rock}
use Rattle.rp_base.specs.declared.value.Side.{Side}
use Rattle.rp_base.specs.declared.value.Value.{Value}
use Rattle.rp_base.specs.declared.value.Value.TheVariants as value
use Rattle.rp_store.specs.Heap.{Owned, content_at, entry_of}
use Rattle.rp_store.specs.Object as object
use Rattle.rp_store.specs.Object.{Content}
use Rattle.rp_store.specs.Parts.{entries}
use Rattle.rp_store.specs.Store.{added}
use Rattle.rp_store.specs.declared.key.Key.{Key}
use Rattle.rp_ops.specs.Binary.{new_object}
use Rattle.rp_ops.specs.Keys.{key_named}
use Rattle.rp_ops.specs.Operand.{lent}
use Rattle.rp_ops.specs.Outcome.{State, Outcome, gives, ends, no_cell, on_value, on_found, charged, with_change}
use Rattle.rp_ops.specs.View.{key_rock}
use Rattle.rp_items.specs.Items.{missing_key, set_item, without_rock}
use Rattle.rp_items.specs.Slices.{owner_of}
use Rattle.rp_methods.specs.Faults.{no_method, wrong_argument, wrong_arguments}
use Rattle.rp_methods.specs.Lists.{none}

-- goes on with the key, which is the first argument
abbrev pub with_key : List Value → State → (Value → State → Outcome Value) → Outcome Value
with_key args s go = option_map_or (λ k. go k s) (slice_get args 0) (wrong_arguments s)

-- the default, which is the second argument, or else None
abbrev pub default_in : List Value → Value
default_in args = option_map_or (λ d. d) (slice_get args 1) none

-- the value at a key, or what is given in its place
abbrev pub get_or : Oid → Value → Value → State → Outcome Value
get_or at k d s = on_found (key_named k) s (λ r s. option_map_or (λ e. gives e.1 s) (entry_of s.store.heap at r) (gives d s))

-- `d.get(k)` and `d.get(k, x)`
abbrev pub get : Oid → List Value → State → Outcome Value
get at args s = with_key args s (λ k. get_or at k (default_in args))

-- a key that is missing: the default, or else an exception
abbrev pub missed : Option Value → Rock → State → Outcome Value
missed (Some d) r s = gives d s
missed None r s = missing_key r s

-- the key is taken out, and its value is the answer
abbrev pub pop_or : Oid → Value → Option Value → State → Outcome Value
pop_or at k d s =
    on_found (key_named k) s (λ r s. option_map_or (λ e. gives e.1 (with_change s at (without_rock r))) (entry_of s.store.heap at r) (missed d r s))

-- `d.pop(k)` and `d.pop(k, x)`
abbrev pub dict_pop : Oid → List Value → State → Outcome Value
dict_pop at args s = with_key args s (λ k. pop_or at k (slice_get args 1))

-- a key that is missing is set, for one cell
abbrev pub set_default : Oid → Value → Value → State → Outcome Value
set_default at k d s =
    on_found (key_named k) s (λ r s. option_map_or (λ e. gives e.1 s) (entry_of s.store.heap at r)
    (on_value (set_item (value.Ref at) (value.Rock r) d s) (λ _ s. gives d s)))

-- `d.setdefault(k)` and `d.setdefault(k, x)`
abbrev pub setdefault : Oid → List Value → State → Outcome Value
setdefault at args s = with_key args s (λ k. set_default at k (default_in args))

-- the entries of the dict at a place
abbrev pub entries_of : List Owned → Oid → List (Key × (Rock × Value))
entries_of heap at = option_map_or entries (content_at heap at) []

-- `d.keys()`, `d.values()` and `d.copy()`
abbrev pub keys : Oid → List Value → State → Outcome Value
keys at [] s = new_object (owner_of at s) (object.list (map key_rock (entries_of s.store.heap at))) s
keys at args s = wrong_arguments s

abbrev pub values : Oid → List Value → State → Outcome Value
values at [] s = new_object (owner_of at s) (object.list (map (λ e. e.1.1) (entries_of s.store.heap at))) s
values at args s = wrong_arguments s

abbrev pub copy : Oid → List Value → State → Outcome Value
copy at [] s = new_object (owner_of at s) (object.dict (entries_of s.store.heap at)) s
copy at args s = wrong_arguments s

-- the state with an object of a side put last, whose cells are used already
abbrev pub with_added : Side → Content → State → State
with_added side c s = record s { store = added s.store side c }

-- the object that is put next
abbrev pub next_object : State → Value
next_object s = value.Ref (record { 0 = length s.store.heap })

-- a tuple of each entry's key and value, and then the list of the tuples
abbrev pub tuples_listed : Side → List (Rock × Value) → List Value → State → Outcome Value
tuples_listed side [] made s = gives (next_object s) (with_added side (object.list made) s)
tuples_listed side (e ∷ es) made s =
    tuples_listed side es (made ++ next_object s ∷ []) (with_added side (object.tuple (value.Rock e.0 ∷ e.1 ∷ [])) s)

-- the rock of each entry, and its value as it is seen
abbrev pub pairs : (Value → Value) → List (Key × (Rock × Value)) → List (Rock × Value)
pairs seen es = map (λ e. (e.1.0, seen e.1.1)) es

-- `d.items()`: a list of tuples of two, whose cells are used as a whole
abbrev pub items : Oid → List Value → State → Outcome Value
items at [] s = by (pairs (λ v. v) (entries_of s.store.heap at)) where
  by : List (Rock × Value) → Outcome Value
  by es = charged (1 + length es * 4) s (λ t. tuples_listed (owner_of at s) es [] t)
items at args s = wrong_arguments s

-- the entries that a value gives; what comes out of a lent dict is lent
abbrev pub content_pairs : (Value → Value) → Content → Option (List (Rock × Value))
content_pairs seen (object.dict es) = Some (pairs seen es)
content_pairs seen c = None

abbrev pub pairs_in : (Value → Value) → List Owned → Oid → Option (List (Rock × Value))
pairs_in seen heap at = option_map_or (content_pairs seen) (content_at heap at) None

abbrev pub pairs_given : List Owned → Value → Option (List (Rock × Value))
pairs_given heap (value.Rock r) = None
pairs_given heap (value.Ref at) = pairs_in (λ v. v) heap at
pairs_given heap (value.Prox at) = pairs_in lent heap at

-- n, and how many of the keys a dict does not have
abbrev pub new_keys : List Owned → Oid → ℕ → List (Rock × Value) → ℕ
new_keys heap at n [] = n
new_keys heap at n (e ∷ es) = new_keys heap at (if is_some (entry_of heap at e.0) then n else n + 1) es

-- each key is given its value
abbrev pub put_all : Oid → List (Rock × Value) → State → Outcome Value
put_all at [] s = gives none s
put_all at (e ∷ es) s = on_value (set_item (value.Ref at) (value.Rock e.0) e.1 s) (λ _ s. put_all at es s)

-- goes on where there is room for so many cells
abbrev pub roomed : ℕ → State → (State → Outcome Value) → Outcome Value
roomed cells s go = if nat_lt s.store.limit (s.store.used + cells) then ends no_cell s else go s

-- `d.update(e)`: nothing is put where the cells of all new keys are over the limit
abbrev pub update : Oid → List Value → State → Outcome Value
update at (d ∷ []) s =
    option_map_or (λ es. roomed (new_keys s.store.heap at 0 es) s (put_all at es)) (pairs_given s.store.heap d) (wrong_argument s)
update at args s = wrong_arguments s

-- a method of the dict at a place
abbrev pub dict_method : Oid → NativeId → List Value → State → Outcome Value
dict_method at native.Get args s = get at args s
dict_method at native.Keys args s = keys at args s
dict_method at native.Values args s = values at args s
dict_method at native.Pop args s = dict_pop at args s
dict_method at native.SetDefault args s = setdefault at args s
dict_method at native.Copy args s = copy at args s
dict_method at native.Items args s = items at args s
dict_method at native.Update args s = update at args s
dict_method at id args s = no_method s
