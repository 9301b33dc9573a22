-- Order of numbers and of texts, and the comparison operators (Python Language Reference, Value comparisons). Other way: the order of
-- texts is written out here, byte by byte, where the code compares the shared texts by the comparison of std.
use Rattle.std.specs.Prelude.{ℕ, ◌==◌, nat_lt, ℤ, int_lt, Bool, true, false, ◌&&◌, ◌||◌, not, List, [], ◌∷◌, codes, encode_utf8_all, Option, Some, None}
use Rattle.std.specs.Option.{option_map}
use Rattle.rp_base.specs.declared.kind.Kind.TheVariants.{TypeError}
use Rattle.rp_base.specs.declared.operator.CmpOp.{CmpOp}
use Rattle.rp_base.specs.declared.operator.CmpOp.TheVariants.{Lt, Le, Gt, Ge, Eq, Ne}
use Rattle.rp_base.specs.declared.value.Rock.{Rock}
use Rattle.rp_base.specs.declared.value.Rock.TheVariants as rock
use Rattle.rp_base.specs.declared.value.Value.{Value}
use Rattle.rp_base.specs.declared.value.Value.TheVariants as value
use Rattle.rp_ops.specs.Depth.{deepest}
use Rattle.rp_ops.specs.Operand.{rock_operand, number_of}
use Rattle.rp_ops.specs.Outcome.{State, Outcome, gives, raises, on_value}
use Rattle.rp_compare.specs.Equality.{equal}

-- lexicographic order: by the first numbers that differ, and a front before what it begins
abbrev pub list_less : List ℕ → List ℕ → Bool
list_less xs [] = false
list_less [] (y ∷ ys) = true
list_less (x ∷ xs) (y ∷ ys) = nat_lt x y || ((x == y) && list_less xs ys)

-- texts are ordered by code points, which is the order of their bytes (RFC 3629)
abbrev pub texts_less : List ℕ → List ℕ → Bool
texts_less t u = list_less (encode_utf8_all t) (encode_utf8_all u)

abbrev pub numbers_less : Option ℤ → Option ℤ → Option Bool
numbers_less (Some m) (Some n) = Some (int_lt m n)
numbers_less m n = None

-- whether the first is less, of two numbers or two texts; all else has no order
abbrev pub rocks_less : Rock → Rock → Option Bool
rocks_less (rock.Text t) (rock.Text u) = Some (texts_less t u)
rocks_less q r = numbers_less (number_of (rock_operand q)) (number_of (rock_operand r))

abbrev pub less : Value → Value → Option Bool
less (value.Rock q) (value.Rock r) = rocks_less q r
less a b = None

abbrev pub ordered : Option Bool → State → Outcome Bool
ordered (Some b) s = gives b s
ordered None s = raises TypeError (codes "operand") s

-- `a op b`
abbrev pub compare : CmpOp → Value → Value → State → Outcome Bool
compare Eq a b s = equal deepest a b s
compare Ne a b s = on_value (equal deepest a b s) (λ same s. gives (not same) s)
compare Lt a b s = ordered (less a b) s
compare Gt a b s = ordered (less b a) s
compare Le a b s = ordered (option_map not (less b a)) s
compare Ge a b s = ordered (option_map not (less a b)) s
