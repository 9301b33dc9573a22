-- Equality of values (Python Language Reference, Value comparisons), with the steps that it takes. Other way: what containers hold is
-- compared by a test that is handed in, none where it lies too deep, and goes down both lists at once, the dicts searched as lists
-- of entries; the code counts the depth left down and loops, on a pair of iterators or a walk, and asks the right dict for the key.
use Rattle.std.specs.Prelude.{ℕ, zero, suc, ◌==◌, ℤ, Bool, true, false, ◌&&◌, List, [], ◌∷◌, length, Option, Some, None, if◌then◌else◌}
use Rattle.std.specs.List.{zip}
use Rattle.std.specs.Map.{lookup}
use Rattle.std.specs.Option.{option_map_or}
use Rattle.std.specs.Ordering.{int_eq}
use Rattle.rp_base.specs.declared.value.Oid.{Oid}
use Rattle.rp_base.specs.declared.value.Rock.{Rock}
use Rattle.rp_base.specs.declared.value.Rock.TheVariants as rock
use Rattle.rp_base.specs.declared.value.Value.{Value}
use Rattle.rp_base.specs.declared.value.Value.TheVariants as value
use Rattle.rp_base.specs.Kind.{is_same_kind}
use denote.Enum.Bare.{sameb}
use Rattle.rp_base.specs.contracts.native.NativeId.{the_type}
use Rattle.rp_base.specs.Same.{same_text}
use Rattle.rp_store.specs.Heap.{content_at}
use Rattle.rp_store.specs.Key.{same_key}
use Rattle.rp_store.specs.declared.key.Key.{Key}
use Rattle.rp_store.specs.Object as object
use Rattle.rp_store.specs.Object.{Content}
use Rattle.rp_ops.specs.Depth.{nested}
use Rattle.rp_ops.specs.Operand.{rock_operand, number_of}
use Rattle.rp_ops.specs.Outcome.{State, Outcome, gives, on_value, stepped}

-- a test of two values that takes steps
abbrev pub Test : Type 0
Test = Value → Value → State → Outcome Bool

-- each of them is tested, up to the first that is unequal
abbrev pub all_equal : {A : Type 0} → (A → State → Outcome Bool) → List A → State → Outcome Bool
all_equal one [] s = gives true s
all_equal one (x ∷ xs) s = on_value (one x s) (λ b s. if b then all_equal one xs s else gives false s)

-- a pair of values takes a step
abbrev pub pair_equal : Test → Value × Value → State → Outcome Bool
pair_equal same pair s = stepped s (same pair.0 pair.1)

-- a value of the left dict and the entry of the right one at its key: where there is none the dicts are unequal
abbrev pub found_equal : Test → Value → Option (Rock × Value) → State → Outcome Bool
found_equal same v found s = option_map_or (λ entry. pair_equal same (v, entry.1) s) found (gives false s)

abbrev pub entry_equal : Test → List (Key × (Rock × Value)) → Key × (Rock × Value) → State → Outcome Bool
entry_equal same fs e s = found_equal same e.1.1 (lookup (same_key e.0) fs) s

-- containers of different lengths are unequal, and nothing in them is compared
abbrev pub of_length : ℕ → ℕ → State → Outcome Bool → Outcome Bool
of_length m n s go = if m == n then go else gives false s

-- the elements of two lists or two tuples, pair by pair
abbrev pub elements_equal : Test → List Value → List Value → State → Outcome Bool
elements_equal same xs ys s = of_length (length xs) (length ys) s (all_equal (pair_equal same) (zip xs ys) s)

-- the entries of the left dict, in their order
abbrev pub dicts_equal : Test → List (Key × (Rock × Value)) → List (Key × (Rock × Value)) → State → Outcome Bool
dicts_equal same es fs s = of_length (length es) (length fs) s (all_equal (entry_equal same fs) es s)

-- two different objects: containers of one kind by what they hold, all else is unequal
abbrev pub contents_equal : Option Test → Content → Content → State → Outcome Bool
contents_equal inner (object.list xs) (object.list ys) s = nested inner s (λ same. elements_equal same xs ys s)
contents_equal inner (object.tuple xs) (object.tuple ys) s = nested inner s (λ same. elements_equal same xs ys s)
contents_equal inner (object.dict es) (object.dict fs) s = nested inner s (λ same. dicts_equal same es fs s)
contents_equal inner c e s = gives false s

abbrev pub numbers_equal : Option ℤ → Option ℤ → Bool
numbers_equal (Some m) (Some n) = int_eq m n
numbers_equal m n = false

-- texts by their characters, exception values by kind and text, numbers and truth values by value, the rest with itself
abbrev pub rocks_equal : Rock → Rock → Bool
rocks_equal rock.Nil rock.Nil = true
rocks_equal (rock.Text t) (rock.Text u) = same_text t u
rocks_equal (rock.Exc j t) (rock.Exc k u) = is_same_kind j k && same_text t u
rocks_equal (rock.Kind j) (rock.Kind k) = is_same_kind j k
rocks_equal (rock.Native f) (rock.Native g) = sameb the_type f g
rocks_equal q r = numbers_equal (number_of (rock_operand q)) (number_of (rock_operand r))

-- the objects at two places: the same one, or two by what they hold
abbrev pub objects_equal : Option Test → Oid → Oid → State → Outcome Bool
objects_equal inner x y s =
    if x.0 == y.0 then gives true s
    else option_map_or (λ c. option_map_or (λ e. contents_equal inner c e s) (content_at s.store.heap y) (gives false s)) (content_at s.store.heap x) (gives false s)

-- references are equal by their places, lent or not
abbrev pub equal_by : Option Test → Test
equal_by inner (value.Rock q) (value.Rock r) s = gives (rocks_equal q r) s
equal_by inner (value.Ref x) (value.Ref y) s = objects_equal inner x y s
equal_by inner (value.Ref x) (value.Prox y) s = objects_equal inner x y s
equal_by inner (value.Prox x) (value.Ref y) s = objects_equal inner x y s
equal_by inner (value.Prox x) (value.Prox y) s = objects_equal inner x y s
equal_by inner a b s = gives false s

-- how what a container holds is compared, none where it lies too deep
unfoldable pub within : ℕ → Option Test
within zero = None
within (suc d) = Some (equal_by (within d))

-- whether two values are equal, where containers may lie so deep within one another
abbrev pub equal : ℕ → Test
equal d = equal_by (within d)
