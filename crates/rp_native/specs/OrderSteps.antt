-- How the code orders values: numbers and truth values by number, and texts by their bytes. What is no number counts as 0, and what is no text has no bytes.
use Rattle.std.specs.Prelude.{ℕ, ℤ, pos, Bool, List, [], encode_utf8_all}
use Rattle.std.specs.Cmp.Lexicographic.{slice_cmp}
use Rattle.std.specs.Option.{option_map_or}
use Rattle.std.specs.Ordering.{int_cmp, is_lt, nat_cmp}
use Rattle.std.specs.declared.cmp.Ordering.{Ordering}
use Rattle.rp_base.specs.declared.value.Rock.TheVariants as rock
use Rattle.rp_base.specs.declared.value.Value.{Value}
use Rattle.rp_base.specs.declared.value.Value.TheVariants as value
use Rattle.rp_ops.specs.Keys.{index_number}

abbrev pub number_key : Value → ℤ
number_key v = option_map_or (λ z. z) (index_number v) (pos 0)

abbrev pub text_key : Value → List ℕ
text_key (value.Rock (rock.Text t)) = encode_utf8_all t
text_key v = []

abbrev pub text_order : Value → Value → Ordering
text_order v w = slice_cmp nat_cmp (text_key v) (text_key w)

-- by number
abbrev pub number_first : Value → Value → Bool
number_first v w = is_lt (int_cmp (number_key v) (number_key w))

-- by the bytes of the text
abbrev pub text_first : Value → Value → Bool
text_first v w = is_lt (text_order v w)
