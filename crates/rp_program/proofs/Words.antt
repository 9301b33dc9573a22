-- The place of a word among words.
use Rattle.std.proofs.Common.{◌≡◌, refl, sym, ap, ◌∙◌, subst, ℕ, zero, suc, Bool, true, false, if◌then◌else◌, List, [], ◌∷◌, ◌++◌, Option, Some, None, option_map, slice_get}
use Rattle.rp_base.specs.Same.{same_text}
use Rattle.rp_base.proofs.CallerLemmas.{same_text-equal, same_text-refl}

abbrev pub place_of : List (List ℕ) → List ℕ → Option ℕ
place_of [] w = None
place_of (v ∷ vs) w = if same_text w v then Some 0 else option_map (λ i. suc i) (place_of vs w)

pub place_finds : (vs : List (List ℕ)) (w : List ℕ) (i : ℕ) → place_of vs w ≡ Some i → slice_get vs i ≡ Some w
place_finds [] w i e = absurd cc
place_finds (v ∷ vs) w i e = by (place_finds vs w) (same_text w v) (place_of vs w) refl refl e
  where
    by : ((j : ℕ) → place_of vs w ≡ Some j → slice_get vs j ≡ Some w) → (b : Bool) (o : Option ℕ) → same_text w v ≡ b → place_of vs w ≡ o → (if b then Some 0 else option_map (λ i. suc i) o) ≡ Some i → slice_get (v ∷ vs) i ≡ Some w
    by further true o same place e =
        let is : 0 ≡ i = cc in
        subst (λ j. slice_get (v ∷ vs) j ≡ Some w) is (ap Some (sym (same_text-equal w v same)))
    by further false None same place e = absurd cc
    by further false (Some j) same place e =
        let is : suc j ≡ i = cc in
        subst (λ j. slice_get (v ∷ vs) j ≡ Some w) is (further j place)

pub has_place : (vs : List (List ℕ)) (w : List ℕ) (i : ℕ) → slice_get vs i ≡ Some w → (j : ℕ) × (place_of vs w ≡ Some j)
has_place [] w i e = absurd cc
has_place (v ∷ vs) w zero e =
    let is : v ≡ w = cc in
    let same : same_text w v ≡ true = ap (same_text w) is ∙ same_text-refl w in
    (0, rw same refl)
has_place (v ∷ vs) w (suc i) e = by (same_text w v) (has_place vs w i e)
  where
    by : (b : Bool) → ((j : ℕ) × (place_of vs w ≡ Some j)) → (j : ℕ) × ((if b then Some 0 else option_map (λ i. suc i) (place_of vs w)) ≡ Some j)
    by true further = (0, refl)
    by false further = (suc further.0, ap (option_map (λ i. suc i)) further.1)

-- each of the first words stands among the others
abbrev pub StandAmong : List (List ℕ) → List (List ℕ) → Type 0
StandAmong words others = (i : ℕ) (w : List ℕ) → slice_get words i ≡ Some w → (j : ℕ) × (slice_get others j ≡ Some w)

pub front_stands : (vs ws : List (List ℕ)) → StandAmong vs (vs ++ ws)
front_stands [] ws i w e = absurd cc
front_stands (v ∷ vs) ws zero w e = (0, e)
front_stands (v ∷ vs) ws (suc i) w e = let there = front_stands vs ws i w e in (suc there.0, there.1)

pub end_stands : (vs ws : List (List ℕ)) → StandAmong ws (vs ++ ws)
end_stands [] ws i w e = (i, e)
end_stands (v ∷ vs) ws i w e = let there = end_stands vs ws i w e in (suc there.0, there.1)
