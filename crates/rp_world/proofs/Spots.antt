-- The places of declared classes.
use Rattle.std.proofs.Common.{◌≡◌, ℕ, suc, ◌+◌, ◌<◌, ◌≤◌, Bool, true, false, true≢false, cond, not, ◌||◌, nat_lt, List, [], ◌∷◌, length, map, position, slice_get, unwrap_or, Some, None, refl, sym, ap, ◌∙◌, arith}
use Rattle.std.specs.List.{list_any, position_or_len}
use Rattle.std.specs.Map.{lookup}
use Rattle.std.proofs.lemmas.Bool.Decides.{nat_tests}
use Rattle.rp_base.specs.declared.value.Name.{Name}
use Rattle.rp_base.specs.declared.value.Oid.{Oid}
use Rattle.rp_decl.specs.declared.records.ClassDecl.{ClassDecl}
use Rattle.rp_store.specs.Key.{same_name}
use Rattle.rp_world.specs.PlacingSteps.{IsDeclared, TellsPlaces, place_of_class}

module _ {X : Type 0} (p : X → Bool) where
  pub spot-within : (xs : List X) → list_any p xs ≡ true → position_or_len p xs < length xs
  spot-within [] h = absurd (true≢false (sym h))
  spot-within (x ∷ xs) h = by (p x) (spot-within xs) h
    where
      by : (b : Bool) → (list_any p xs ≡ true → position_or_len p xs < length xs) → (b || list_any p xs) ≡ true → cond (not b) (1 + position_or_len p xs) 0 < suc (length xs)
      by true rest h = omega arith
      by false rest h = let low = rest h in omega arith

  pub spot-found : (xs : List X) → position_or_len p xs < length xs → position p xs ≡ Some (position_or_len p xs)
  spot-found xs low =
      let yes : nat_lt (position_or_len p xs) (length xs) ≡ true = grind (arith, nat_tests) in
      ap (λ b. cond b (Some (position_or_len p xs)) None) yes

  -- what a list of others has at the first place
  pub spot-holds : {Y : Type 0} (f : X → Y) (xs : List X) → list_any p xs ≡ true → (x : X) × (slice_get (map f xs) (position_or_len p xs) ≡ Some (f x))
  spot-holds f [] h = absurd (true≢false (sym h))
  spot-holds {Y} f (x ∷ xs) h = by (p x) (spot-holds f xs) h
    where
      by : (b : Bool) → (list_any p xs ≡ true → (y : X) × (slice_get (map f xs) (position_or_len p xs) ≡ Some (f y))) → (b || list_any p xs) ≡ true
          → (y : X) × (slice_get (f x ∷ map f xs) (cond (not b) (1 + position_or_len p xs) 0) ≡ Some (f y))
      by true tail h = (x, refl)
      by false tail h =
          let (y, found) = tail h in
          let next : 1 + position_or_len p xs ≡ suc (position_or_len p xs) = omega arith in
          (y, ap (slice_get (f x ∷ map f xs)) next ∙ found)

module _ (classes : List ClassDecl) (table : List (Name × ℕ)) (name : Name) (tells : TellsPlaces classes table) (there : IsDeclared classes name) where
  abbrev spot : ℕ
  spot = position_or_len (λ c. same_name name c.name) classes

  spot-told : unwrap_or (lookup (same_name name) table) 0 ≡ spot
  spot-told =
      let found = spot-found (λ (c : ClassDecl). same_name name c.name) classes (spot-within (λ c. same_name name c.name) classes there) in
      ap (λ o. unwrap_or o 0) (tells name ∙ found)

  -- the table's place is one of a class, and behind it stands the class
  pub class-behind : (place : ℕ) (at : Oid) → place ≡ unwrap_or (lookup (same_name name) table) 0 → at ≡ record { 0 = place + 1 } → at ≡ place_of_class classes name
  class-behind place at is made =
      let same : place ≡ spot = is ∙ spot-told in
      let next : place + 1 ≡ suc spot = omega arith in
      made ∙ (λ k. record { 0 = next k })

  pub class-within : (place : ℕ) → place ≡ unwrap_or (lookup (same_name name) table) 0 → length classes ≤ place → ⊥
  class-within place is past =
      let same : place ≡ spot = is ∙ spot-told in
      let low : spot < length classes = spot-within (λ c. same_name name c.name) classes there in
      let no : ⊥ = absurd (omega arith) in no
