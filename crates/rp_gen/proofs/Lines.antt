-- Texts that are made of pieces, one for each number.
use Rattle.std.proofs.Common.{◌≡◌, ℕ, suc, ◌+◌, List, [], ◌∷◌, ◌++◌, flat_map, append_assoc, append-nil}
use Rattle.std.proofs.Common.{arith, ap, sym, ◌∙◌}
use Rattle.std.specs.List.{range_with_len}
use Rattle.rp_base.proofs.CallerLemmas.{range-last}

flat_map-last : (piece : ℕ → List ℕ) (ns : List ℕ) (n : ℕ)
    → flat_map piece (ns ++ n ∷ []) ≡ flat_map piece ns ++ piece n
flat_map-last piece [] n = append-nil (piece n)
flat_map-last piece (m ∷ ns) n =
    ap (λ (more : List ℕ). piece m ++ more) (flat_map-last piece ns n)
    ∙ sym (append_assoc (piece m) (flat_map piece ns) (piece n))

-- the piece of one number more
pub one_more : (piece : ℕ → List ℕ) (a k n : ℕ) (start front text : List ℕ) → n ≡ a + k
    → front ≡ start ++ flat_map piece (range_with_len a k) → text ≡ front ++ piece n
    → text ≡ start ++ flat_map piece (range_with_len a (k + 1))
one_more piece a k n start front text is_next at_front at_text =
    let next : suc k ≡ k + 1 = omega arith in
    at_text
    ∙ ap (λ (before : List ℕ). before ++ piece n) at_front
    ∙ append_assoc start (flat_map piece (range_with_len a k)) (piece n)
    ∙ ap (λ (m : ℕ). start ++ (flat_map piece (range_with_len a k) ++ piece m)) is_next
    ∙ ap (λ (more : List ℕ). start ++ more) (sym (flat_map-last piece (range_with_len a k) (a + k)))
    ∙ ap (λ (ns : List ℕ). start ++ flat_map piece ns) (sym (range-last a k))
    ∙ ap (λ (m : ℕ). start ++ flat_map piece (range_with_len a m)) next
