-- The binding of arguments (Python Language Reference, Calls), over the parameters of a pure tree. What binds is rp_calls' own; here its rules are
-- put together once more, as the parameters are no vector.
use Rattle.std.specs.Prelude.{ℕ, Bool, true, false, List, [], ◌∷◌, map, drop, length, is_some, Option, Some, None}
use Rattle.std.specs.Option.{option_map_or}
use Rattle.rp_base.specs.declared.value.Side.{Side}
use Rattle.rp_base.specs.declared.value.Value.{Value}
use Rattle.rp_calls.specs.Binding.{Parameter, parameter, defaults_after, filled, entries_for, elements_for, slot_made, no_binding}
use Rattle.rp_ops.specs.Outcome.{State, Outcome, on_value}
use Rattle.rp_store.specs.Object as object
use Rattle.rp_store.specs.Object.{Entries}
use Rattle.rp_tree.specs.declared.expr.Expr.{Expr}
use Rattle.rp_tree.specs.Expressions.{Named}
use Rattle.rp_tree.specs.Expressions as tree

-- the arguments of a call: those without a name, in order, and those with one
pub record Arguments : Type 0 where
  pub plain : List Value
  pub named : List (List ℕ × Value)

abbrev pub none : Arguments
none = record { plain = []; named = [] }

abbrev pub only : List Value → Arguments
only vs = record { plain = vs; named = [] }

-- a value before all others
abbrev pub behind : Value → Arguments → Arguments
behind v a = record a { plain = v ∷ a.plain }

abbrev pub has_default : tree.Maybe → Bool
has_default tree.none = false
has_default (tree.some x) = true

-- the parameters without a star, with what a call offers each of them
abbrev pub offered : List (List ℕ) → tree.Plain → List Value → List Value → List Parameter
offered names tree.no_plain args defaults = []
offered names (tree.plain n x ps) args defaults =
    parameter names n (has_default x) args defaults ∷ offered names ps (drop 1 args) (defaults_after (has_default x) defaults)

-- their names; what a default is does not matter
abbrev pub plain_names : tree.Plain → List (Named × Option Expr)
plain_names tree.no_plain = []
plain_names (tree.plain n x ps) = (n, None) ∷ plain_names ps

-- the tuple is made, then the dict
abbrev pub all_made : Side → Bool → Bool → List Value → List Value → Entries → State → Outcome (List (Option Value))
all_made side has_list has_dict values rest es s =
    on_value (slot_made has_list side (object.tuple rest) (map Some values) s) (λ slots s. slot_made has_dict side (object.dict es) slots s)

-- the slots of a call of a function of a side, from the values of its defaults: the causes of an exception first, and then what is made
abbrev pub bind : Side → List (List ℕ) → tree.Params → List Value → Arguments → State → Outcome (List (Option Value))
bind side names (tree.params ps list dict) defaults a s =
    option_map_or (λ rest.
    option_map_or (λ values.
    option_map_or (λ es. all_made side (is_some list) (is_some dict) values rest es s)
    (entries_for (is_some dict) names (plain_names ps) a.named) (no_binding s))
    (filled (offered names ps a.plain defaults) a.named) (no_binding s))
    (elements_for (is_some list) (length (plain_names ps)) a.plain) (no_binding s)
