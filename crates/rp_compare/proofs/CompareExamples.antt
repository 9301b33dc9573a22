-- Examples of the definitions. The answers are those of CPython, but for exception values, which are equal by kind and text here; the
-- steps, the depth and the texts of exceptions are own.
use Rattle.std.proofs.Common.{◌≡◌, ℕ, ◌^◌, ◌-◌, ℤ, pos, negsuc, neg_ℤ, Bool, true, false, List, [], ◌∷◌, map, codes, refl}
use Rattle.rp_base.specs.declared.kind.Kind.TheVariants.{RecursionError, TypeError, ValueError}
use Rattle.rp_base.specs.declared.native.NativeId.TheVariants.{Len, Abs}
use Rattle.rp_base.specs.declared.operator.CmpOp.TheVariants.{Lt, Le, Gt, Ge, Eq, Ne}
use Rattle.rp_base.specs.declared.value.Rock.{Rock}
use Rattle.rp_base.specs.declared.value.Rock.TheVariants as rock
use Rattle.rp_base.specs.declared.value.Value.{Value}
use Rattle.rp_base.specs.declared.value.Value.TheVariants as value
use Rattle.rp_store.specs.Heap.{Owned}
use Rattle.rp_store.specs.Object as object
use Rattle.rp_store.specs.Object.{Content}
use Rattle.rp_store.specs.declared.key.Key.{Key}
use Rattle.rp_store.specs.declared.key.Key.TheVariants as key
use Rattle.rp_ops.specs.Outcome.{State, ends, gives, no_step, raises}
use Rattle.rp_compare.specs.Equality.{equal, within}
use Rattle.rp_compare.specs.Membership.{contains, is_part}
use Rattle.rp_compare.specs.Order.{compare, list_less}

abbrev int : ℤ → Value
int n = value.Rock (rock.Int n)

abbrev truth : Bool → Value
truth b = value.Rock (rock.Truth b)

abbrev ref : ℕ → Value
ref at = value.Ref (record { 0 = at })

abbrev lent : ℕ → Value
lent at = value.Prox (record { 0 = at })

abbrev owned : Content → Owned
owned c = record { owner = record { 0 = 1 }; content = c }

-- a moment with these objects, and so many steps left
abbrev holding : List Content → ℕ → State
holding cs steps = record { store = record { heap = map owned cs; used = 0; limit = 0 }; steps = steps }

abbrev entry : ℤ → ℤ → Key × (Rock × Value)
entry k n = (key.Number k, (rock.Int k, int n))

abbrev one_two : Content
one_two = object.list (int (pos 1) ∷ int (pos 2) ∷ [])

lists-equal : compare Eq (ref 0) (ref 1) (holding (one_two ∷ one_two ∷ []) 5) ≡ gives true (holding (one_two ∷ one_two ∷ []) 3)
unfolding within
lists-equal = refl

-- [1, 2, 3] and [1, 5, 3]
abbrev unlike : List Content
unlike = object.list (int (pos 1) ∷ int (pos 2) ∷ int (pos 3) ∷ []) ∷ object.list (int (pos 1) ∷ int (pos 5) ∷ int (pos 3) ∷ []) ∷ []

lists-stop_at_unequal : compare Eq (ref 0) (ref 1) (holding unlike 5) ≡ gives false (holding unlike 3)
unfolding within
lists-stop_at_unequal = refl

lists-not_equal : compare Ne (ref 0) (ref 1) (holding unlike 5) ≡ gives true (holding unlike 3)
unfolding within
lists-not_equal = refl

lists-no_step : compare Eq (ref 0) (ref 1) (holding unlike 1) ≡ ends no_step (holding unlike 0)
unfolding within
lists-no_step = refl

-- [1] and [1, 1]
abbrev longer : List Content
longer = object.list (int (pos 1) ∷ []) ∷ object.list (int (pos 1) ∷ int (pos 1) ∷ []) ∷ []

lists-lengths : compare Eq (ref 0) (ref 1) (holding longer 5) ≡ gives false (holding longer 5)
unfolding within
lists-lengths = refl

-- (1,) and [1]
abbrev kinds : List Content
kinds = object.tuple (int (pos 1) ∷ []) ∷ object.list (int (pos 1) ∷ []) ∷ []

tuple-and_list : compare Eq (ref 0) (ref 1) (holding kinds 5) ≡ gives false (holding kinds 5)
unfolding within
tuple-and_list = refl

-- {1: 10, 2: 20} and {2: 20, 1: 10}
abbrev turned : List Content
turned = object.dict (entry (pos 1) (pos 10) ∷ entry (pos 2) (pos 20) ∷ []) ∷ object.dict (entry (pos 2) (pos 20) ∷ entry (pos 1) (pos 10) ∷ []) ∷ []

dicts-in_another_order : compare Eq (ref 0) (ref 1) (holding turned 5) ≡ gives true (holding turned 3)
unfolding within
dicts-in_another_order = refl

-- {1: 10} and {2: 10}
abbrev keyed : List Content
keyed = object.dict (entry (pos 1) (pos 10) ∷ []) ∷ object.dict (entry (pos 2) (pos 10) ∷ []) ∷ []

dicts-missing_key : compare Eq (ref 0) (ref 1) (holding keyed 0) ≡ gives false (holding keyed 0)
unfolding within
dicts-missing_key = refl

truth-is_one : (s : State) → compare Eq (truth true) (int (pos 1)) s ≡ gives true s
truth-is_one s = refl

zero-is_not_true : (s : State) → compare Eq (int (pos 0)) (truth true) s ≡ gives false s
zero-is_not_true s = refl

none-is_none : (s : State) → compare Eq (value.Rock rock.Nil) (value.Rock rock.Nil) s ≡ gives true s
none-is_none s = refl

none-is_not_zero : (s : State) → compare Eq (value.Rock rock.Nil) (int (pos 0)) s ≡ gives false s
none-is_not_zero s = refl

exceptions-equal : (s : State) → compare Eq (value.Rock (rock.Exc TypeError [])) (value.Rock (rock.Exc TypeError [])) s ≡ gives true s
exceptions-equal s = refl

exceptions-of_other_kinds : (s : State) → compare Eq (value.Rock (rock.Exc TypeError [])) (value.Rock (rock.Exc ValueError [])) s ≡ gives false s
exceptions-of_other_kinds s = refl

kind-is_no_exception : (s : State) → compare Eq (value.Rock (rock.Kind TypeError)) (value.Rock (rock.Exc TypeError [])) s ≡ gives false s
kind-is_no_exception s = refl

functions-equal : (s : State) → compare Eq (value.Rock (rock.Native Len)) (value.Rock (rock.Native Len)) s ≡ gives true s
functions-equal s = refl

functions-differ : (s : State) → compare Eq (value.Rock (rock.Native Len)) (value.Rock (rock.Native Abs)) s ≡ gives false s
functions-differ s = refl

lent-is_the_same : (s : State) → compare Eq (ref 3) (lent 3) s ≡ gives true s
lent-is_the_same s = refl

-- two lists that contain themselves
abbrev knots : List Content
knots = object.list (ref 0 ∷ []) ∷ object.list (ref 1 ∷ []) ∷ []

knot-is_itself : compare Eq (ref 0) (ref 0) (holding knots 0) ≡ gives true (holding knots 0)
knot-is_itself = refl

knots-too_deep : equal 3 (ref 0) (ref 1) (holding knots 9) ≡ raises RecursionError (codes "depth") (holding knots 6)
unfolding within
knots-too_deep = refl

greatest-and_least : (s : State) → compare Lt (int (neg_ℤ (pos (2 ^ 63)))) (int (pos (2 ^ 63 - 1))) s ≡ gives true s
greatest-and_least s = refl

truths-ordered : (s : State) → compare Le (truth true) (int (pos 1)) s ≡ gives true s
truths-ordered s = refl

not_greater : (s : State) → compare Gt (int (pos 1)) (int (pos 1)) s ≡ gives false s
not_greater s = refl

at_least : (s : State) → compare Ge (int (negsuc 0)) (int (pos 0)) s ≡ gives false s
at_least s = refl

lists-have_no_order : compare Lt (ref 0) (ref 1) (holding longer 5) ≡ raises TypeError (codes "operand") (holding longer 5)
lists-have_no_order = refl

none-has_no_order : (s : State) → compare Ge (value.Rock rock.Nil) (int (pos 0)) s ≡ raises TypeError (codes "operand") s
none-has_no_order s = refl

-- 'Z' and 'a', 'é' and 'z', the empty text and 'a', U+FFFD and U+10000
capital-before_small : list_less (90 ∷ []) (97 ∷ []) ≡ true
capital-before_small = refl

accent-behind_ascii : list_less (195 ∷ 169 ∷ []) (122 ∷ []) ≡ false
accent-behind_ascii = refl

empty-before_all : list_less [] (97 ∷ []) ≡ true
empty-before_all = refl

three_bytes-before_four : list_less (239 ∷ 191 ∷ 189 ∷ []) (240 ∷ 144 ∷ 128 ∷ 128 ∷ []) ≡ true
three_bytes-before_four = refl

front-before_whole : list_less (97 ∷ 98 ∷ []) (97 ∷ []) ≡ false
front-before_whole = refl

-- [0, True], {1: 2} and {}
abbrev sought : List Content
sought = object.list (int (pos 0) ∷ truth true ∷ []) ∷ object.dict (entry (pos 1) (pos 2) ∷ []) ∷ object.dict [] ∷ []

in-list : contains (int (pos 1)) (ref 0) (holding sought 5) ≡ gives true (holding sought 3)
in-list = refl

in-list_not : contains (int (pos 2)) (lent 0) (holding sought 5) ≡ gives false (holding sought 3)
in-list_not = refl

in-list_no_step : contains (int (pos 1)) (ref 0) (holding sought 1) ≡ ends no_step (holding sought 0)
in-list_no_step = refl

in-dict : contains (truth true) (ref 1) (holding sought 0) ≡ gives true (holding sought 0)
in-dict = refl

in-dict_no_key : contains (ref 0) (ref 2) (holding sought 0) ≡ raises TypeError (codes "key") (holding sought 0)
in-dict_no_key = refl

in-number : (s : State) → contains (int (pos 1)) (int (pos 1)) s ≡ raises TypeError (codes "operand") s
in-number s = refl

number-in_text : (s : State) → contains (int (pos 1)) (value.Rock (rock.Text (codes "a"))) s ≡ raises TypeError (codes "operand") s
number-in_text s = refl

part-in_the_middle : is_part (98 ∷ []) (97 ∷ 98 ∷ 99 ∷ []) ≡ true
part-in_the_middle = refl

part-empty : is_part [] [] ≡ true
part-empty = refl

part-with_a_gap : is_part (97 ∷ 99 ∷ []) (97 ∷ 98 ∷ 99 ∷ []) ≡ false
part-with_a_gap = refl
