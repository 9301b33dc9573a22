-- The place of a word among words, which is its name, and that different words have different names.
use Rattle.std.proofs.Common.{◌≡◌, refl, sym, ap, ◌∙◌, true≢false, ℕ, suc, ◌+◌, Bool, true, false, ◌||◌, not, cond}
use Rattle.std.proofs.Common.{if◌then◌else◌, List, [], ◌∷◌, Some, option_map, slice_get, arith}
use Rattle.std.specs.List.{position_or_len}
use Rattle.std.proofs.lemmas.Bool.{eqb-true}
use Rattle.rp_base.specs.Names.{is_held, same_name}
use Rattle.rp_base.specs.Same.{same_text}
use Rattle.rp_base.proofs.CallerLemmas.{same_text-refl}
use Rattle.rp_meaning.specs.BuiltIn.{name_of}
use Rattle.rp_program.proofs.Words.{place_finds, place_of}

-- a word that is held has a place, which is its name
pub place_held : (names : List (List ℕ)) (w : List ℕ) → is_held names w ≡ true
    → (j : ℕ) × (place_of names w ≡ Some j) × (position_or_len (same_text w) names ≡ j)
place_held [] w held = absurd (true≢false (sym held))
place_held (v ∷ vs) w held = by (same_text w v) refl held (place_held vs w) where
  by : (b : Bool) → same_text w v ≡ b → (b || is_held vs w) ≡ true
      → (is_held vs w ≡ true → (j : ℕ) × (place_of vs w ≡ Some j) × (position_or_len (same_text w) vs ≡ j))
      → (j : ℕ) × (place_of (v ∷ vs) w ≡ Some j) × (position_or_len (same_text w) (v ∷ vs) ≡ j)
  by true same held more = (
    0,
    ap (λ (b : Bool). if b then Some 0 else option_map (λ i. suc i) (place_of vs w)) same,
    ap (λ (b : Bool). cond (not b) (1 + position_or_len (same_text w) vs) 0) same,
  )
  by false same held more =
      let behind = more held in
      let place = behind.2 in
      let next : 1 + position_or_len (same_text w) vs ≡ suc behind.0 = omega (arith, place) in (
        suc behind.0,
        ap (λ (b : Bool). if b then Some 0 else option_map (λ i. suc i) (place_of vs w)) same
            ∙ ap (option_map (λ i. suc i)) behind.1,
        ap (λ (b : Bool). cond (not b) (1 + position_or_len (same_text w) vs) 0) same ∙ next,
      )

-- so words that differ, and are held, have names that differ
pub names_differ : (names : List (List ℕ)) (v w : List ℕ) → is_held names v ≡ true → is_held names w ≡ true
    → same_text v w ≡ false → same_name (name_of names v) (name_of names w) ≡ false
names_differ names v w held also differ = by (same_name (name_of names v) (name_of names w)) refl where
  first : (j : ℕ) × (place_of names v ≡ Some j) × (position_or_len (same_text v) names ≡ j)
  first = place_held names v held

  second : (j : ℕ) × (place_of names w ≡ Some j) × (position_or_len (same_text w) names ≡ j)
  second = place_held names w also

  one : (i j : ℕ) → i ≡ j → slice_get names i ≡ Some v → slice_get names j ≡ Some w → v ≡ w
  one i j e a b = let both : Some v ≡ Some w = sym a ∙ (ap (slice_get names) e ∙ b) in cc

  by : (b : Bool) → same_name (name_of names v) (name_of names w) ≡ b
      → same_name (name_of names v) (name_of names w) ≡ false
  by true e =
      let places = sym first.2 ∙ (eqb-true _ _ e ∙ second.2) in
      let same = one first.0 second.0 places (place_finds names v first.0 first.1)
      (place_finds names w second.0 second.1) in
      absurd (true≢false (sym (same_text-refl v) ∙ (ap (same_text v) same ∙ differ)))
  by false e = e
