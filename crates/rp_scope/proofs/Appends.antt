-- Lists that grow at their end, by what each element of another list gives.
use Rattle.std.proofs.Common.{◌≡◌, ℕ, suc, ◌+◌, ◌<◌, List, [], ◌∷◌, ◌++◌, length, get_or, drop, slice_get, Some, sym, ap, ◌∙◌, append_assoc, arith}
use Rattle.std.proofs.lemmas.List.{append-nil}
use Rattle.std.proofs.Math.Seq.{drop-cons}

pub ruleset appends = (append_assoc, append-nil)

-- one more element has given its part
pub grown : {A B : Type 0} (gives : List A → List B) (all : List A) (i : ℕ) (x : A) (part old new start : List B) → i < length all → x ≡ get_or all i x → ((rest : List A) → gives (x ∷ rest) ≡ part ++ gives rest) → new ≡ old ++ part → old ++ gives (drop i all) ≡ start ++ gives all → new ++ gives (drop (i + 1) all) ≡ start ++ gives all
grown gives all i x part old new start within is gives_part given before =
    ap (λ zs. zs ++ gives (drop (i + 1) all)) given ∙ (append_assoc old part (gives (drop (i + 1) all)) ∙ (ap (λ zs. old ++ zs) (sym (gives_part (drop (i + 1) all)) ∙ (ap (λ y. gives (y ∷ drop (i + 1) all)) is ∙ (ap (λ k. gives (get_or all i x ∷ drop k all)) (one_more i) ∙ sym (ap gives (drop-cons all i x within))))) ∙ before))
  where
    one_more : (i : ℕ) → i + 1 ≡ suc i
    one_more i = omega arith
