-- The least and the greatest of values, which are all numbers or all texts (Python Standard Library, Built-in Functions).
use Rattle.std.specs.Prelude.{Bool, true, false, ◌||◌, List, [], ◌∷◌, if◌then◌else◌}
use Rattle.std.specs.List.{list_all}
use Rattle.std.specs.Option.{option_map_or}
use Rattle.rp_base.specs.declared.value.Rock.TheVariants as rock
use Rattle.rp_base.specs.declared.value.Value.{Value}
use Rattle.rp_base.specs.declared.value.Value.TheVariants as value
use Rattle.rp_ops.specs.Outcome.{State, Outcome, gives, on_value}
use Rattle.rp_ops.specs.Walk.{elements}
use Rattle.rp_compare.specs.Order.{less}
use Rattle.rp_native.specs.Faults.{fails}
use Rattle.rp_native.specs.Walked.{are_numbers}
use Rattle.rp_native.specs.declared.extremes.Extreme.{Extreme}
use Rattle.rp_native.specs.declared.extremes.Extreme.TheVariants as extremes
use Rattle.rp_native.specs.declared.fault.Fault.TheVariants as fault

abbrev pub is_text : Value → Bool
is_text (value.Rock (rock.Text t)) = true
is_text v = false

-- all numbers and truth values, or all texts
abbrev pub have_order : List Value → Bool
have_order vs = are_numbers vs || list_all is_text vs

-- the first is less, of two numbers or two texts
abbrev pub is_less : Value → Value → Bool
is_less v w = option_map_or (λ b. b) (less v w) false

abbrev pub before : Extreme → Value → Value → Bool
before extremes.Least v w = is_less v w
before extremes.Greatest v w = is_less w v

-- the first that no other goes before
abbrev pub foremost : (Value → Value → Bool) → Value → List Value → Value
foremost before v [] = v
foremost before v (w ∷ ws) = foremost before (if before w v then w else v) ws

abbrev pub chosen : Extreme → List Value → State → Outcome Value
chosen which [] s = fails fault.Empty s
chosen which (v ∷ vs) s = if have_order (v ∷ vs) then gives (foremost (before which) v vs) s else fails fault.Argument s

-- `min(v)` and `max(v)`
abbrev pub extreme : Extreme → Value → State → Outcome Value
extreme which v s = on_value (elements v s) (chosen which)
