-- The binding of arguments (Python Language Reference, Calls, Function definitions). Other way: what may fill a parameter is a list of values, and it
-- is bound where that list has one value, or has none and there is a default. The code looks for a second one, copies what it finds, and counts
-- places.
use Rattle.std.specs.Prelude.{ℕ, nat_le, Bool, true, false, List, [], ◌∷◌, ◌++◌, map, length, drop, codes, slice_get, Option, Some, None, is_some, if◌then◌else◌}
use Rattle.std.specs.List.{list_any, list_all}
use Rattle.std.specs.Map.{lookup}
use Rattle.std.specs.Option.{option_map, option_map_or, option_to_list}
use Rattle.rp_base.specs.Same.{same_text}
use Rattle.rp_base.specs.declared.kind.Kind.TheVariants.{TypeError}
use Rattle.rp_base.specs.declared.value.Oid.{Oid}
use Rattle.rp_base.specs.declared.value.Raised.{Raised}
use Rattle.rp_base.specs.declared.value.Rock.{Rock}
use Rattle.rp_base.specs.declared.value.Rock.TheVariants as rock
use Rattle.rp_base.specs.declared.value.Side.{Side}
use Rattle.rp_base.specs.declared.value.Value.{Value}
use Rattle.rp_dict.specs.Dict.{insert_entry}
use Rattle.rp_store.specs.Heap.{Owned, content_at}
use Rattle.rp_store.specs.Key.{same_key}
use Rattle.rp_store.specs.declared.key.Key.{Key}
use Rattle.rp_store.specs.declared.key.Key.TheVariants as key
use Rattle.rp_store.specs.Object as object
use Rattle.rp_store.specs.Object.{Content}
use Rattle.rp_ops.specs.Binary.{new_object}
use Rattle.rp_ops.specs.Outcome.{State, Outcome, raised, ends, gives, on_value}
use Rattle.rp_base.specs.Names.{word_of}
use Rattle.rp_tree.specs.declared.expr.Expr.{Expr}
use Rattle.rp_tree.specs.declared.expr.Params.{Params, out-Params}
use Rattle.rp_tree.specs.Expressions.{Named}

-- the parameters without a star, and whether there is `*NAME` and `**NAME`
abbrev pub plain : Params → List (Named × Option Expr)
plain ps = (out-Params ps).plain.items

abbrev pub has_list : Params → Bool
has_list ps = is_some (out-Params ps).list

abbrev pub has_dict : Params → Bool
has_dict ps = is_some (out-Params ps).dict

-- a parameter without a star, and what a call offers it beside the arguments by name
pub record Parameter : Type 0 where
  pub word : List ℕ
  pub positional : Option Value
  pub default : Option Value

-- the first default, for a parameter that has one, and those that are left
abbrev pub default_of : Bool → List Value → Option Value
default_of true defaults = slice_get defaults 0
default_of false defaults = None

abbrev pub defaults_after : Bool → List Value → List Value
defaults_after true defaults = drop 1 defaults
defaults_after false defaults = defaults

-- the first of some parameters, and what a call offers it
abbrev pub parameter : List (List ℕ) → Named → Bool → List Value → List Value → Parameter
parameter names named has_default args defaults =
    record { word = word_of names named.name; positional = slice_get args 0; default = default_of has_default defaults }

-- each of some parameters: the arguments in order, the defaults in order of the parameters that have one
abbrev pub offered : List (List ℕ) → List (Named × Option Expr) → List Value → List Value → List Parameter
offered names [] args defaults = []
offered names (p ∷ ps) args defaults =
    parameter names p.0 (is_some p.1) args defaults ∷ offered names ps (drop 1 args) (defaults_after (is_some p.1) defaults)

-- the arguments by this name
abbrev pub given : List (List ℕ × Value) → List ℕ → List Value
given [] word = []
given (g ∷ gs) word = if same_text g.0 word then g.1 ∷ given gs word else given gs word

-- the only one, else the default; none where there are two, or neither
abbrev pub sole : List Value → Option Value → Option Value
sole [] default = default
sole (v ∷ []) default = Some v
sole (v ∷ w ∷ vs) default = None

abbrev pub value_of : Parameter → List (List ℕ × Value) → Option Value
value_of p named = sole (option_to_list p.positional ++ given named p.word) p.default

abbrev pub put : {A : Type 0} → Option A → Option (List A) → Option (List A)
put (Some v) vs = option_map (λ vs. v ∷ vs) vs
put None vs = None

-- the values of the parameters without a star; none where one is filled twice or stays empty
abbrev pub filled : List Parameter → List (List ℕ × Value) → Option (List Value)
filled [] named = Some []
filled (p ∷ ps) named = put (value_of p named) (filled ps named)

-- a parameter without a star has this name
abbrev pub is_plain : List (List ℕ) → List (Named × Option Expr) → List ℕ → Bool
is_plain names ps word = list_any (λ p. same_text word (word_of names p.0.name)) ps

abbrev pub are_plain : List (List ℕ) → List (Named × Option Expr) → List (List ℕ × Value) → Bool
are_plain names ps named = list_all (λ g. is_plain names ps g.0) named

-- these entries, and those of the arguments by other names, in order; none where one is given twice
abbrev pub other_entries : List (List ℕ) → List (Named × Option Expr) → List (Key × (Rock × Value)) → List (List ℕ × Value) → Option (List (Key × (Rock × Value)))
other_entries names ps es [] = Some es
other_entries names ps es (g ∷ gs) =
    if is_plain names ps g.0 then other_entries names ps es gs
    else if is_some (lookup (same_key (key.Text g.0)) es) then None
    else other_entries names ps (insert_entry same_key es (key.Text g.0) (rock.Text g.0, g.1)) gs

-- the entries of `**NAME`; where there is no such parameter, each name has to be that of a parameter without a star
abbrev pub entries_for : Bool → List (List ℕ) → List (Named × Option Expr) → List (List ℕ × Value) → Option (List (Key × (Rock × Value)))
entries_for true names ps named = other_entries names ps [] named
entries_for false names ps named = if are_plain names ps named then Some [] else None

-- the elements of `*NAME`; where there is no such parameter, no positional argument may be left
abbrev pub elements_for : Bool → ℕ → List Value → Option (List Value)
elements_for true n args = Some (drop n args)
elements_for false n args = if nat_le (length args) n then Some [] else None

-- the exception that is raised where arguments cannot be bound
abbrev pub refused : Raised
refused = record { kind = TypeError; text = codes "arguments" }

abbrev pub no_binding : {A : Type 0} → State → Outcome A
no_binding s = ends (raised refused) s

-- the slots with one for a new object, where there is such a parameter
abbrev pub slot_made : Bool → Side → Content → List (Option Value) → State → Outcome (List (Option Value))
slot_made true side c slots s = on_value (new_object side c s) (λ v s. gives (slots ++ Some v ∷ []) s)
slot_made false side c slots s = gives slots s

-- the tuple is made, then the dict
abbrev pub all_made : Side → Params → List (Option Value) → List Value → List (Key × (Rock × Value)) → State → Outcome (List (Option Value))
all_made side ps slots rest es s =
    on_value (slot_made (has_list ps) side (object.tuple rest) slots s) (λ slots s. slot_made (has_dict ps) side (object.dict es) slots s)

-- the slots of a call: the causes of an exception first, and then what is made
abbrev pub bind : Side → List (List ℕ) → Params → List Value → List Value → List (List ℕ × Value) → State → Outcome (List (Option Value))
bind side names ps defaults args named s =
    option_map_or (λ rest.
    option_map_or (λ values.
    option_map_or (λ es. all_made side ps (map Some values) rest es s)
    (entries_for (has_dict ps) names (plain ps) named) (no_binding s))
    (filled (offered names (plain ps) args defaults) named) (no_binding s))
    (elements_for (has_list ps) (length (plain ps)) args) (no_binding s)

-- the defaults of the function at a place
abbrev pub defaults_in : Content → List Value
defaults_in (object.function name unit block within defaults) = defaults
defaults_in c = []

abbrev pub defaults_at : List Owned → Oid → List Value
defaults_at heap at = option_map_or defaults_in (content_at heap at) []
