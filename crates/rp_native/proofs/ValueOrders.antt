-- Values that are all numbers or all texts are ordered by their keys.
use Rattle.std.proofs.Common.{◌≡◌, ℤ, int_lt, pos, Bool, true, false, cond, ◌||◌, List, encode_utf8_all, refl}
use Rattle.std.specs.Cmp.{IsStrictWeakOrder}
use Rattle.std.specs.List.{list_all}
use Rattle.std.specs.Ordering.{int_cmp, is_lt}
use Rattle.std.specs.declared.cmp.Ordering.TheVariants.{Less, Equal, Greater}
use Rattle.std.proofs.lemmas.Cmp.{int_cmp_total, nat_list_cmp_total}
use Rattle.std.proofs.lemmas.List.MinMax.{ranks_by}
use Rattle.rp_base.specs.declared.value.Rock.TheVariants as rock
use Rattle.rp_base.specs.declared.value.Value.{Value}
use Rattle.rp_base.specs.declared.value.Value.TheVariants as value
use Rattle.rp_native.specs.Extremes.{is_less, is_text}
use Rattle.rp_native.specs.OrderSteps.{number_first, number_key, text_first, text_key}
use Rattle.rp_native.specs.Sorted.{in_order}
use Rattle.rp_native.specs.Walked.{are_numbers, is_number}
use Rattle.rp_native.proofs.StableOrders.{in_order-same}
use Rattle.rp_compare.proofs.CallerLemmas.{list_less-cmp}

pub number_first-order : IsStrictWeakOrder number_first
number_first-order = ranks_by int_cmp_total number_key

pub text_first-order : IsStrictWeakOrder text_first
text_first-order = ranks_by nat_list_cmp_total text_key

numbers-tested : (x y : ℤ) → is_lt (int_cmp x y) ≡ int_lt x y
numbers-tested x y = by (int_lt x y) (int_lt y x) where
  by : (a b : Bool) → is_lt (cond a Less (cond b Greater Equal)) ≡ a
  by true b = refl
  by false true = refl
  by false false = refl

numbers-agree : (v w : Value) → is_number v ≡ true → is_number w ≡ true → number_first v w ≡ is_less v w
numbers-agree (value.Rock (rock.Int m)) (value.Rock (rock.Int n)) h g = numbers-tested m n
numbers-agree (value.Rock (rock.Int m)) (value.Rock (rock.Truth true)) h g = numbers-tested m (pos 1)
numbers-agree (value.Rock (rock.Int m)) (value.Rock (rock.Truth false)) h g = numbers-tested m (pos 0)
numbers-agree (value.Rock (rock.Truth true)) (value.Rock (rock.Int n)) h g = numbers-tested (pos 1) n
numbers-agree (value.Rock (rock.Truth false)) (value.Rock (rock.Int n)) h g = numbers-tested (pos 0) n
numbers-agree (value.Rock (rock.Truth true)) (value.Rock (rock.Truth true)) h g = refl
numbers-agree (value.Rock (rock.Truth true)) (value.Rock (rock.Truth false)) h g = refl
numbers-agree (value.Rock (rock.Truth false)) (value.Rock (rock.Truth true)) h g = refl
numbers-agree (value.Rock (rock.Truth false)) (value.Rock (rock.Truth false)) h g = refl
numbers-agree v w h g = absurd (cc)

texts-agree : (v w : Value) → is_text v ≡ true → is_text w ≡ true → text_first v w ≡ is_less v w
texts-agree (value.Rock (rock.Text t)) (value.Rock (rock.Text u)) h g = list_less-cmp (encode_utf8_all t) (encode_utf8_all u)
texts-agree v w h g = absurd (cc)

-- numbers and truth values
pub numbers-same : (vs : List Value) → are_numbers vs ≡ true → in_order number_first vs ≡ in_order is_less vs
numbers-same vs h = in_order-same number_first is_less is_number numbers-agree vs h

-- texts
pub texts-same : (vs : List Value) → list_all is_text vs ≡ true → in_order text_first vs ≡ in_order is_less vs
texts-same vs h = in_order-same text_first is_less is_text texts-agree vs h

-- what has an order and is not all numbers is all texts
pub texts-left : (numbers texts : Bool) → numbers || texts ≡ true → numbers ≡ false → texts ≡ true
texts-left true texts h none = absurd (cc)
texts-left false texts h none = h
