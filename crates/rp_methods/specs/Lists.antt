-- The methods of lists, of which tuples have `index` and `count` (Python Standard Library, Mutable Sequence Types, Common Sequence Operations).
-- Other way: an index is a whole number, brought to a place by cases, and a search is a recursion on the elements that are left. The code computes
-- places within 64 bits, loops, and writes into the vector of the list.
use Rattle.std.specs.Prelude.{ℕ, zero, ◌+◌, ℤ, pos, negsuc, min, List, [], ◌∷◌, length, reverse, slice_get, codes, if◌then◌else◌}
use Rattle.std.specs.Option.{option_map_or}
use Rattle.rp_base.specs.declared.kind.Kind.TheVariants.{IndexError}
use Rattle.rp_base.specs.declared.native.NativeId.{NativeId}
use Rattle.rp_base.specs.declared.native.NativeId.TheVariants as native
use Rattle.rp_base.specs.declared.value.Oid.{Oid}
use Rattle.rp_base.specs.declared.value.Rock.TheVariants as rock
use Rattle.rp_base.specs.declared.value.Value.{Value}
use Rattle.rp_base.specs.declared.value.Value.TheVariants as value
use Rattle.rp_store.specs.Heap.{content_at, elements_at}
use Rattle.rp_store.specs.Object.{Content}
use Rattle.rp_store.specs.Writers.{extended, inserted, pushed, with_elements, without_element}
use Rattle.rp_ops.specs.Keys.{index_number}
use Rattle.rp_ops.specs.Outcome.{State, Outcome, gives, raises, on_value, on_found, charged, stepped, with_change}
use Rattle.rp_ops.specs.View.{held_by}
use Rattle.rp_ops.specs.Walk.{elements}
use Rattle.rp_ops.specs.Depth.{deepest}
use Rattle.rp_items.specs.Items.{from_end, place_within}
use Rattle.rp_compare.specs.Equality.{equal}
use Rattle.rp_methods.specs.Faults.{faults, no_method, wrong_argument, wrong_arguments}
use Rattle.rp_methods.specs.declared.fault.Fault.TheVariants as fault

abbrev pub none : Value
none = value.Rock rock.Nil

abbrev pub number : ℕ → Value
number n = value.Rock (rock.Int (pos n))

-- the object at a place is changed, for so many cells; the answer is None
abbrev pub grows : ℕ → Oid → (Content → Content) → State → Outcome Value
grows cells at change s = charged cells s (λ s. gives none (with_change s at change))

-- `xs.append(x)`
abbrev pub append : Oid → List Value → State → Outcome Value
append at (x ∷ []) s = grows 1 at (pushed x) s
append at args s = wrong_arguments s

-- `xs.extend(w)`: what is walked costs its steps, and a cell for each
abbrev pub extend : Oid → List Value → State → Outcome Value
extend at (w ∷ []) s = on_value (elements w s) (λ vs s. grows (length vs) at (extended vs) s)
extend at args s = wrong_arguments s

-- a place is brought into the range from 0 to n
abbrev pub brought : ℕ → ℤ → ℕ
brought n (pos p) = min p n
brought n (negsuc p) = zero

-- an index below 0 has the length added once
abbrev pub insert_at : Oid → ℤ → Value → State → Outcome Value
insert_at at i x s = by (length (elements_at s.store.heap at)) where
  by : ℕ → Outcome Value
  by n = grows 1 at (inserted (brought n (from_end n i)) x) s

-- `xs.insert(i, x)`
abbrev pub insert : Oid → List Value → State → Outcome Value
insert at (i ∷ x ∷ []) s = option_map_or (λ z. insert_at at z x s) (index_number i) (wrong_argument s)
insert at args s = wrong_arguments s

-- the element at a place is taken out, and is the answer
abbrev pub taken_out : Oid → ℕ → State → Outcome Value
taken_out at p s =
    option_map_or (λ v. gives v (with_change s at (without_element p))) (slice_get (elements_at s.store.heap at) p) (raises IndexError (codes "index") s)

abbrev pub pop_at : Oid → ℤ → State → Outcome Value
pop_at at i s = by (length (elements_at s.store.heap at)) where
  by : ℕ → Outcome Value
  by n = on_found (place_within n (from_end n i)) s (taken_out at)

-- `xs.pop()`, which is `xs.pop(-1)`, and `xs.pop(i)`
abbrev pub pop : Oid → List Value → State → Outcome Value
pop at [] s = pop_at at (negsuc 0) s
pop at (i ∷ []) s = option_map_or (λ z. pop_at at z s) (index_number i) (wrong_argument s)
pop at args s = wrong_arguments s

-- the first place from n on of an element that the value is equal to; each pair takes a step
abbrev pub sought : ℕ → Value → List Value → State → Outcome ℕ
sought n a [] s = faults fault.Absent s
sought n a (x ∷ xs) s = stepped s (λ s. on_value (equal deepest a x s) (λ b s. if b then gives n s else sought (n + 1) a xs s))

-- n, and how many elements the value is equal to
abbrev pub counted : ℕ → Value → List Value → State → Outcome ℕ
counted n a [] s = gives n s
counted n a (x ∷ xs) s = stepped s (λ s. on_value (equal deepest a x s) (λ b s. counted (if b then n + 1 else n) a xs s))

-- the elements of the list or tuple at a place
abbrev pub held_at : Oid → State → List Value
held_at at s = option_map_or held_by (content_at s.store.heap at) []

-- `xs.index(x)`
abbrev pub index : Oid → List Value → State → Outcome Value
index at (x ∷ []) s = on_value (sought 0 x (held_at at s) s) (λ n s. gives (number n) s)
index at args s = wrong_arguments s

-- `xs.count(x)`
abbrev pub count : Oid → List Value → State → Outcome Value
count at (x ∷ []) s = on_value (counted 0 x (held_at at s) s) (λ n s. gives (number n) s)
count at args s = wrong_arguments s

-- `xs.remove(x)`
abbrev pub remove : Oid → List Value → State → Outcome Value
remove at (x ∷ []) s = on_value (sought 0 x (elements_at s.store.heap at) s) (λ p s. gives none (with_change s at (without_element p)))
remove at args s = wrong_arguments s

-- `xs.reverse()`
abbrev pub reversed : Oid → List Value → State → Outcome Value
reversed at [] s = gives none (with_change s at (with_elements (reverse (elements_at s.store.heap at))))
reversed at args s = wrong_arguments s

-- a method of the list at a place
abbrev pub list_method : Oid → NativeId → List Value → State → Outcome Value
list_method at native.Append args s = append at args s
list_method at native.Extend args s = extend at args s
list_method at native.Insert args s = insert at args s
list_method at native.Pop args s = pop at args s
list_method at native.Remove args s = remove at args s
list_method at native.Index args s = index at args s
list_method at native.Count args s = count at args s
list_method at native.Reverse args s = reversed at args s
list_method at id args s = no_method s

-- a method of the tuple at a place
abbrev pub tuple_method : Oid → NativeId → List Value → State → Outcome Value
tuple_method at native.Index args s = index at args s
tuple_method at native.Count args s = count at args s
tuple_method at id args s = no_method s
