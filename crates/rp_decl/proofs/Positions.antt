-- The first place at which a test passes.
use Rattle.std.proofs.Common.{◌≡◌, ◌+◌, Bool, List, [], ◌∷◌, cond, length, map, nat_lt, not, Some, None, refl}
use Rattle.std.specs.Prelude.{position}
use Rattle.std.specs.List.{position_or_len}
use Rattle.std.proofs.lemmas.List.{length-map}

place_of-map : {A B : Type 0} (p : B → Bool) (f : A → B) (xs : List A)
    → position_or_len p (map f xs) ≡ position_or_len (λ x. p (f x)) xs
place_of-map p f [] = refl
place_of-map p f (x ∷ xs) = λ k. cond (not (p (f x))) (1 + place_of-map p f xs k) 0

-- among what is made of a list
pub position-map : {A B : Type 0} (p : B → Bool) (f : A → B) (xs : List A)
    → position p (map f xs) ≡ position (λ x. p (f x)) xs
position-map p f xs =
    λ k. cond (nat_lt (place_of-map p f xs k) (length-map xs f k)) (Some (place_of-map p f xs k)) None
