-- What holds of the item at an index holds of the element there.
use Rattle.std.proofs.Common.{ℕ, ◌<◌, List, length, Option, IsSomeAnd, slice_get, get_or, subst}
use Rattle.std.proofs.lemmas.Option.{slice_get-get_or}

pub of_element : {A : Type 0} (P : A → Type 0) (xs : List A) (i : ℕ) (d : A) → i < length xs → IsSomeAnd (slice_get xs i) P → P (get_or xs i d)
of_element P xs i d within h = subst (λ o. IsSomeAnd o P) (slice_get-get_or xs i d within) h
