-- Calls of the built-in functions on values whose access decisions have been made (Python Standard Library, Built-in Functions): first what is
-- called, then the count of the arguments, then the function. `getattr`, `setattr` and `print` are done by the caller, and are not called here.
use Rattle.std.specs.Prelude.{ℕ, not, List, [], ◌∷◌, length, if◌then◌else◌}
use Rattle.rp_base.specs.declared.native.NativeId.{NativeId}
use Rattle.rp_base.specs.declared.native.NativeId.TheVariants as native
use Rattle.rp_base.specs.declared.value.Rock.TheVariants as rock
use Rattle.rp_base.specs.declared.value.Side.{Side}
use Rattle.rp_base.specs.declared.value.Value.{Value}
use Rattle.rp_base.specs.declared.value.Value.TheVariants as value
use Rattle.rp_store.specs.Object as object
use Rattle.rp_ops.specs.Binary.{new_object}
use Rattle.rp_ops.specs.Operand.{truth_of}
use Rattle.rp_ops.specs.Outcome.{State, Outcome, gives, on_value}
use Rattle.rp_ops.specs.declared.sequences.Sequence.TheVariants as sequence
use Rattle.rp_show.specs.Show.{show}
use Rattle.rp_native.specs.Copies.{dict_copy, sequence_copy}
use Rattle.rp_native.specs.Counts.{is_function, function_takes}
use Rattle.rp_native.specs.Extremes.{chosen, extreme}
use Rattle.rp_native.specs.Faults.{fails}
use Rattle.rp_native.specs.Numbers.{abs, int, len}
use Rattle.rp_native.specs.Ranges.{range}
use Rattle.rp_native.specs.Sorted.{sorted}
use Rattle.rp_native.specs.Tables.{enumerate}
use Rattle.rp_native.specs.Walked.{sum}
use Rattle.rp_native.specs.Zips.{zip}
use Rattle.rp_native.specs.declared.extremes.Extreme.TheVariants as extremes
use Rattle.rp_native.specs.declared.fault.Fault.TheVariants as fault

-- `bool(v)`
abbrev pub bool : Value → State → Outcome Value
bool v s = gives (value.Rock (rock.Truth (truth_of s.store.heap v))) s

-- `str(v)`, where the names are these words
abbrev pub str : List (List ℕ) → Value → State → Outcome Value
str names v s = on_value (show names v s) (λ t s. gives (value.Rock (rock.Text t)) s)

-- `removeSecurityProxy(v)` (zope.security): a proxy gives the plain reference
abbrev pub plain_value : Value → Value
plain_value (value.Prox at) = value.Ref at
plain_value v = v

-- of no argument
abbrev pub none_given : Side → NativeId → State → Outcome Value
none_given side native.List s = new_object side (object.list []) s
none_given side native.Tuple s = new_object side (object.tuple []) s
none_given side native.Dict s = new_object side (object.dict []) s
none_given side native.Zip s = zip side [] s
none_given side id s = fails fault.Call s

-- of one argument
abbrev pub one_given : List (List ℕ) → Side → NativeId → Value → State → Outcome Value
one_given names side native.Len v s = len v s
one_given names side native.Bool v s = bool v s
one_given names side native.Str v s = str names v s
one_given names side native.Int v s = int v s
one_given names side native.Abs v s = abs v s
one_given names side native.Sum v s = sum v s
one_given names side native.Min v s = extreme extremes.Least v s
one_given names side native.Max v s = extreme extremes.Greatest v s
one_given names side native.List v s = sequence_copy side sequence.List v s
one_given names side native.Tuple v s = sequence_copy side sequence.Tuple v s
one_given names side native.Dict v s = dict_copy side v s
one_given names side native.Sorted v s = sorted side v s
one_given names side native.Range v s = range side (v ∷ []) s
one_given names side native.Enumerate v s = enumerate side v s
one_given names side native.Zip v s = zip side (v ∷ []) s
one_given names side native.RemoveSecurityProxy v s = gives (plain_value v) s
one_given names side id v s = fails fault.Call s

-- of two arguments or more
abbrev pub more_given : Side → NativeId → List Value → State → Outcome Value
more_given side native.Min vs s = chosen extremes.Least vs s
more_given side native.Max vs s = chosen extremes.Greatest vs s
more_given side native.Range vs s = range side vs s
more_given side native.Zip vs s = zip side vs s
more_given side id vs s = fails fault.Call s

-- a function that takes so many
abbrev pub counted : List (List ℕ) → Side → NativeId → List Value → State → Outcome Value
counted names side id [] s = none_given side id s
counted names side id (v ∷ []) s = one_given names side id v s
counted names side id (v ∷ w ∷ more) s = more_given side id (v ∷ w ∷ more) s

-- a call of a built-in function with these arguments
abbrev pub function : List (List ℕ) → Side → NativeId → List Value → State → Outcome Value
function names side id args s =
    if not (is_function id) then fails fault.Call s
    else if not (function_takes id (length args)) then fails fault.Count s
    else counted names side id args s
