-- How a text is written piece by piece.
use Rattle.std.proofs.Common.{◌≡◌, ℕ, ◌+◌, ◌-◌, arith, List, ◌++◌, length, take, drop, Option, Some, None, option_map}
use Rattle.std.proofs.Common.{ap, sym, ◌∙◌, refl, append_assoc, length-drop}
use Rattle.std.proofs.lemmas.List.{take_all}
use Rattle.std.proofs.Math.Seq.{take-add}

joined : (k n : ℕ) (bytes : List ℕ) (old : Option (List ℕ))
    → option_map (λ before. before ++ take n (drop k bytes)) (option_map (λ before. before ++ take k bytes) old)
    ≡ option_map (λ before. before ++ take (k + n) bytes) old
joined k n bytes None = refl
joined k n bytes (Some before) =
    ap Some (append_assoc before (take k bytes) (take n (drop k bytes))
    ∙ ap (λ piece. before ++ piece) (sym (take-add k n bytes)))

-- a front, and then the front of the rest, are a longer front
pub written_front : (k n : ℕ) (bytes : List ℕ) (old front new : Option (List ℕ))
    → front ≡ option_map (λ before. before ++ take k bytes) old
    → new ≡ option_map (λ before. before ++ take n (take (length bytes - k) (drop k bytes))) front
    → new ≡ option_map (λ before. before ++ take (k + n) bytes) old
written_front k n bytes old front new at_front at_new =
    let rest : take (length bytes - k) (drop k bytes) ≡ drop k bytes =
    take_all _ _ (omega (arith, length-drop k bytes)) in
    at_new ∙ (ap (λ piece. option_map (λ before. before ++ take n piece) front) rest
    ∙ (ap (option_map (λ before. before ++ take n (drop k bytes))) at_front ∙ joined k n bytes old))
