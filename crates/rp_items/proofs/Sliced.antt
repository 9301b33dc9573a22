-- What a slice costs, and what it holds.
use Rattle.std.proofs.Common.{◌≡◌, ℕ, zero, suc, arith, false, ◌+◌, ◌<◌, List, [], ◌∷◌, ◌++◌, append-nil, encode_utf8, encode_utf8_all, get_or, length, map, Option, Some, slice_get, refl, sym, ap, subst, ◌∙◌}
use Rattle.std.proofs.lemmas.Str.{encodes-append, length-le-encodes}
use Rattle.rp_base.specs.declared.value.Value.{Value}
use Rattle.std.specs.Option.{option_map_or}
use Rattle.rp_base.specs.declared.value.Oid.{Oid}
use Rattle.rp_base.specs.declared.value.Side.{Side}
use Rattle.rp_store.specs.Cost.{cost}
use Rattle.rp_store.specs.Heap.{owner_at}
use Rattle.rp_store.specs.Store.{Cells, IsOver}
use Rattle.rp_ops.specs.Outcome.{State}
use Rattle.rp_items.specs.Slices.{Span, owner_of, sliced}
use Rattle.rp_items.specs.SliceView.{AreOf, AreWithin, place_at}
use Rattle.rp_ops.specs.View.{handed, sequence_of}
use Rattle.rp_ops.specs.declared.sequences.Sequence.{Sequence}
use Rattle.rp_items.specs.declared.spans.Places.{Places}
use Rattle.rp_ops.proofs.CallerLemmas.{cost-sequence}
use Rattle.rp_items.proofs.SlicePlaces.{length-taken, slice_get-read, taken-sliced}

-- a cell, and one for each place
pub slice-cells : (kind : Sequence) (s : Span) (p : Places) (xs : List Value) (n : ℕ) → length xs ≡ n → AreOf n s p → AreWithin n p
    → 1 + p.count ≡ cost (sequence_of kind (sliced s xs))
slice-cells kind s p xs n e of within =
    sym (cost-sequence kind (sliced s xs)
    ∙ ap (λ k. 1 + k) (ap length (sym (taken-sliced n s p xs e of)) ∙ length-taken p xs (subst (λ (k : ℕ). AreWithin k p) (sym e) within)))

-- one character more
pub spelled-more : (cs : List ℕ) (c : ℕ) → encode_utf8_all cs ++ encode_utf8 c ≡ encode_utf8_all (cs ++ c ∷ [])
spelled-more cs c = ap (λ (bs : List ℕ). encode_utf8_all cs ++ bs) (sym (append-nil (encode_utf8 c))) ∙ sym (encodes-append cs (c ∷ []))

-- what is read at a place
pub read-at : {A : Type 0} (xs : List A) (p : Places) (m i : ℕ) (x : A) → i ≡ place_at p m → m < p.count → AreWithin (length xs) p → x ≡ get_or xs i x
    → slice_get xs (place_at p m) ≡ Some x
read-at xs p m i x is few within read =
    ap (slice_get xs) (sym is) ∙ slice_get-read xs i x (subst (λ (k : ℕ). k < length xs) (sym is) (within m few).1) read

-- elements that are handed out as they are
pub handed-own : (xs : List Value) → map (handed false) xs ≡ xs
handed-own [] = refl
handed-own (x ∷ xs) = ap (λ (ys : List Value). x ∷ ys) (handed-own xs)

-- the owner of the object at a place
pub owner-is : (at : Oid) (s : State) (side : Side) → owner_at s.store.heap at ≡ Some side → owner_of at s ≡ side
owner-is at s side e = ap (λ (x : Option Side). option_map_or (λ o. o) x (record { 0 = 0 })) e

-- what is read at a place that is there
pub slice_get-or : (xs : List ℕ) (i d : ℕ) → i < length xs → slice_get xs i ≡ Some (get_or xs i d)
slice_get-or [] i d h = absurd (omega arith)
slice_get-or (x ∷ xs) zero d h = refl
slice_get-or (x ∷ xs) (suc i) d h = slice_get-or xs i d (omega arith)

-- a text has no fewer bytes than characters
pub slice-over : (s : Span) (p : Places) (cs : List ℕ) (n : ℕ) (store : Cells) → length cs ≡ n → AreOf n s p → AreWithin n p → IsOver store p.count
    → IsOver store (length (encode_utf8_all (sliced s cs)))
slice-over s p cs n store e of within over =
    let same : length (sliced s cs) ≡ p.count = ap length (sym (taken-sliced n s p cs e of)) ∙ length-taken p cs (subst (λ (k : ℕ). AreWithin k p) (sym e) within) in
    omega (arith, length-le-encodes (sliced s cs))
