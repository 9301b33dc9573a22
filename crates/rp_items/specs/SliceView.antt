-- The bounds and the places of a slice, as the code keeps them, for the clauses of its private functions. Other way: the places of Slices
-- are whole numbers that go on by the step; the code's are a first place, the size of the step, its direction and how many there are.
use Rattle.std.specs.Prelude.{◌≡◌, ℕ, ◌+◌, ◌-◌, ◌*◌, ◌<◌, ◌≤◌, true, List, slice_get, filter_map, unsigned_abs, Result, Ok, Err, if◌then◌else◌}
use Rattle.std.specs.List.{range_with_len}
use Rattle.rp_base.specs.declared.value.Raised.{Raised}
use Rattle.rp_items.specs.Slices.{Span, count, place, span_of}
use Rattle.rp_ops.specs.Refused.{raised_by}
use Rattle.rp_ops.specs.declared.refusal.Refusal.{Refusal}
use Rattle.rp_items.specs.declared.spans.Places.{Places}
use Rattle.rp_items.specs.declared.spans.Span.{Span as Kept}

abbrev pub span_seen : Kept → Span
span_seen p = span_of p.from p.to p.step

abbrev pub described_span : Result Kept Refusal → Result Span Raised
described_span (Ok p) = Ok (span_seen p)
described_span (Err r) = Err (raised_by r)

abbrev pub place_at : Places → ℕ → ℕ
place_at p m = if p.backward then p.first - m * p.step else p.first + m * p.step

-- each place is one of so many elements, and no step goes below the first of them
abbrev pub AreWithin : ℕ → Places → Type 0
AreWithin n p = (m : ℕ) → m < p.count → (p.backward ≡ true → m * p.step ≤ p.first) × (place_at p m < n)

-- they are the places of a slice of so many elements
abbrev pub AreOf : ℕ → Span → Places → Type 0
AreOf n s p = (p.count ≡ count n s) × ((m : ℕ) → m < p.count → unsigned_abs (place n s m) ≡ place_at p m)

-- the elements at the places
abbrev pub taken : {A : Type 0} → Places → List A → List A
taken p xs = filter_map (λ m. slice_get xs (place_at p m)) (range_with_len 0 p.count)
