-- Slices of lists, tuples and texts (Python Language Reference, Slicings; Python Standard Library, Common sequence operations). Other
-- way: bounds are whole numbers held between the least and the greatest, and each place i + mk is looked up in the list of what is
-- sliced. The code bounds by cases within 64 bits, cuts an ASCII text by bytes, and another by the characters that it keeps.
use Rattle.std.specs.Prelude.{ℕ, ℤ, pos, negsuc, ◌+ℤ◌, ◌-ℤ◌, ◌*ℤ◌, unsigned_abs, int_lt, List, length, codes, filter_map, slice_get, Option, Some, None, Result, Ok, if◌then◌else◌}
use Rattle.std.specs.Ordering.{int_eq}
use Rattle.std.specs.Int.{div_ceil, int_min, int_max}
use Rattle.std.specs.List.{range_with_len}
use Rattle.std.specs.Option.{option_map_or}
use Rattle.rp_base.specs.declared.kind.Kind.TheVariants.{TypeError, ValueError}
use Rattle.rp_base.specs.declared.value.Raised.{Raised}
use Rattle.rp_base.specs.declared.value.Oid.{Oid}
use Rattle.rp_base.specs.declared.value.Rock.{Rock}
use Rattle.rp_base.specs.declared.value.Rock.TheVariants as rock
use Rattle.rp_base.specs.declared.value.Side.{Side}
use Rattle.rp_base.specs.declared.value.Value.{Value}
use Rattle.rp_base.specs.declared.value.Value.TheVariants as value
use Rattle.rp_store.specs.Heap.{owner_at}
use Rattle.rp_store.specs.Object as object
use Rattle.rp_store.specs.Object.{Content}
use Rattle.rp_ops.specs.Binary.{new_text, new_object, times}
use Rattle.rp_ops.specs.Keys.{index_number}
use Rattle.rp_items.specs.Items.{at_content, from_end, lent_out, no_items}
use Rattle.rp_ops.specs.Numbers.{refused}
use Rattle.rp_ops.specs.Outcome.{State, Outcome, on_found}

-- the bounds and the step of a slice; a bound may be missing
pub record Span : Type 0 where
  pub from : Option ℤ
  pub to : Option ℤ
  pub step : ℤ

abbrev pub span_of : Option ℤ → Option ℤ → ℤ → Span
span_of from to step = record { from = from; to = to; step = step }

-- a part of a slice, which is a number or None
abbrev pub part_named : Value → Result (Option ℤ) Raised
part_named (value.Rock rock.Nil) = Ok None
part_named v = option_map_or (λ z. Ok (Some z)) (index_number v) (refused TypeError (codes "index"))

abbrev pub span_by : Result (Option ℤ) Raised → Result (Option ℤ) Raised → Result (Option ℤ) Raised → Result Span Raised
span_by (Ok from) (Ok to) (Ok None) = Ok (span_of from to (pos 1))
span_by (Ok from) (Ok to) (Ok (Some k)) = if int_eq k (pos 0) then refused ValueError (codes "slice") else Ok (span_of from to k)
span_by _ _ _ = refused TypeError (codes "index")

abbrev pub span_named : Value → Value → Value → Result Span Raised
span_named from to step = span_by (part_named from) (part_named to) (part_named step)

-- bounds of n elements: from 0 to n where the step is forward, and from -1 to n - 1 where it is backward
abbrev pub least : ℤ → ℤ
least k = if int_lt k (pos 0) then negsuc 0 else pos 0

abbrev pub greatest : ℕ → ℤ → ℤ
greatest n k = pos n +ℤ least k

abbrev pub bound : ℕ → ℤ → ℤ → Option ℤ → ℤ
bound n k missing None = missing
bound n k missing (Some z) = int_max (least k) (int_min (from_end n z) (greatest n k))

-- the bound at which a slice begins, and the one before which it ends
abbrev pub first : ℕ → Span → ℤ
first n p = bound n p.step (if int_lt p.step (pos 0) then greatest n p.step else least p.step) p.from

abbrev pub last : ℕ → Span → ℤ
last n p = bound n p.step (if int_lt p.step (pos 0) then least p.step else greatest n p.step) p.to

-- the distance from one bound up to another, 0 where that is below
abbrev pub distance : ℤ → ℤ → ℕ
distance i j = times (j -ℤ i)

-- how many places there are before the last bound is reached
abbrev pub count : ℕ → Span → ℕ
count n p = div_ceil (if int_lt p.step (pos 0) then distance (last n p) (first n p) else distance (first n p) (last n p)) (unsigned_abs p.step)

-- the m-th place: i, i + k, i + 2k and so on
abbrev pub place : ℕ → Span → ℕ → ℤ
place n p m = first n p +ℤ pos m *ℤ p.step

-- the elements at the places of a slice
abbrev pub sliced : {A : Type 0} → Span → List A → List A
sliced p xs = filter_map (λ m. slice_get xs (unsigned_abs (place (length xs) p m))) (range_with_len 0 (count (length xs) p))

abbrev pub rock_slice : Rock → Result Span Raised → State → Outcome Value
rock_slice (rock.Text t) parts s = on_found parts s (λ p s. new_text (sliced p t) s)
rock_slice r parts s = no_items s

-- a new list or tuple of an owner, which holds the elements as they were stored
abbrev pub content_slice : Side → Content → Result Span Raised → State → Outcome Value
content_slice owner (object.list xs) parts s = on_found parts s (λ p s. new_object owner (object.list (sliced p xs)) s)
content_slice owner (object.tuple xs) parts s = on_found parts s (λ p s. new_object owner (object.tuple (sliced p xs)) s)
content_slice owner c parts s = no_items s

-- the owner of the object at a place
abbrev pub owner_of : Oid → State → Side
owner_of at s = option_map_or (λ o. o) (owner_at s.store.heap at) (record { 0 = 0 })

-- the owner of what is sliced owns the new one
abbrev pub object_slice : Oid → Result Span Raised → State → Outcome Value
object_slice at parts s = at_content at s (λ c. content_slice (owner_of at s) c parts s)

-- `a[from:to:step]`
abbrev pub slice : Value → Value → Value → Value → State → Outcome Value
slice (value.Rock r) from to step s = rock_slice r (span_named from to step) s
slice (value.Ref at) from to step s = object_slice at (span_named from to step) s
slice (value.Prox at) from to step s = lent_out (object_slice at (span_named from to step) s)
