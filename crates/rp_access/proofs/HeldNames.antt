-- Places of names that are held, by their numbers and by their words.
use Rattle.std.proofs.Common.{◌≡◌, ℕ, ◌+◌, false, List, [], ◌∷◌, cond, not, length, nat_eq, nat_lt, Some, None, refl}
use Rattle.std.specs.Prelude.{position}
use Rattle.std.specs.List.{All, position_or_len}
use Rattle.std.proofs.lemmas.Bool.{ltb-false}
use Rattle.std.proofs.lemmas.List.{get_or_past}
use Rattle.std.proofs.lemmas.List.Elements.{All-head, All-tail}
use Rattle.rp_base.specs.Names.{HoldsEachOnce, word_of}
use Rattle.rp_base.specs.Same.{same_text}
use Rattle.rp_base.specs.declared.value.Name.{Name}
use Rattle.rp_checker.proofs.Composition.{same_text-places}
use Rattle.rp_decl.specs.Places.{IsHeld}

-- a name that is not held has no word
pub no_word : (names : List (List ℕ)) (x : Name) → nat_lt x.0 (length names) ≡ false → word_of names x ≡ []
no_word names x past = get_or_past names x.0 [] (ltb-false x.0 (length names) past)

-- among what has held names the first with the word of a held name is the first with that name
module _ {A : Type 0} (named : A → Name) (names : List (List ℕ)) (x : Name) where
  first_by_word : (xs : List A) → HoldsEachOnce names → IsHeld names x → All (λ a. IsHeld names (named a)) xs
      → position_or_len (λ a. same_text (word_of names x) (word_of names (named a))) xs
      ≡ position_or_len (λ a. nat_eq x.0 (named a).0) xs
  first_by_word [] once here held = refl
  first_by_word (a ∷ xs) once here held =
      let first = same_text-places names x.0 (named a).0 once here (All-head (λ a. IsHeld names (named a)) a xs held) in
      let rest = first_by_word xs once here (All-tail (λ a. IsHeld names (named a)) a xs held) in
      λ k. cond (not (first k)) (1 + rest k) 0

  pub place_by_word : (xs : List A) → HoldsEachOnce names → IsHeld names x → All (λ a. IsHeld names (named a)) xs
      → position (λ a. same_text (word_of names x) (word_of names (named a))) xs
      ≡ position (λ a. nat_eq x.0 (named a).0) xs
  place_by_word xs once here held =
      λ k. cond (nat_lt (first_by_word xs once here held k) (length xs))
      (Some (first_by_word xs once here held k)) None
