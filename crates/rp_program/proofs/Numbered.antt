-- Names numbered by other words, among which their own stand.
use Rattle.std.proofs.Common.{◌≡◌, ◌⊎◌, inl, inr, refl, sym, ap, ◌∙◌, ℕ, ◌+◌, List, [], length, get_or, Option, Some, None, slice_get, unwrap_or, arith}
use Rattle.std.proofs.lemmas.Option.{get_or_from_slice_get, slice_get_past, slice_get_within, unwrap_or-slice_get}
use Rattle.rp_base.specs.Names.{HoldsEachOnce, word_of}
use Rattle.rp_base.specs.declared.value.Name.{Name}
use Rattle.rp_grammar.proofs.Renamed.{IsInjective}
use Rattle.rp_program.proofs.Words.{StandAmong, has_place, place_finds, place_of}

-- the number of what is held at n: the place of its word, or else one behind the words
abbrev pub number : List (List ℕ) → ℕ → Option (List ℕ) → ℕ
number words n None = length words + n
number words n (Some w) = unwrap_or (place_of words w) (length words + n)

abbrev pub renumbered : List (List ℕ) → List (List ℕ) → Name → Name
renumbered names words n = record { 0 = number words n.0 (slice_get names n.0) }

-- a word stands at the number
abbrev IsPlaced : List (List ℕ) → Option (List ℕ) → ℕ → Type 0
IsPlaced words held x = (w : List ℕ) × (held ≡ Some w) × (slice_get words x ≡ Some w)

number_cases : (words : List (List ℕ)) (n : ℕ) (held : Option (List ℕ)) → IsPlaced words held (number words n held) ⊎ (number words n held ≡ length words + n)
number_cases words n None = inr refl
number_cases words n (Some w) = by (place_of words w) refl
  where
    by : (o : Option ℕ) → place_of words w ≡ o → IsPlaced words (Some w) (unwrap_or o (length words + n)) ⊎ (unwrap_or o (length words + n) ≡ length words + n)
    by None e = inr refl
    by (Some i) e = inl (w, refl, place_finds words w i e)

same_number : (names words : List (List ℕ)) → HoldsEachOnce names → (m n : ℕ) → number words m (slice_get names m) ≡ number words n (slice_get names n) → m ≡ n
same_number names words once m n e =
    elim (number_cases words m (slice_get names m)) [
      | inl a ↦ elim (number_cases words n (slice_get names n)) [
        | inl b ↦ both a.0 b.0 a.1 b.1 a.2 b.2
        | inr q ↦ absurd (let low = slice_get_within words _ a.0 a.2 in omega (arith, low, q, e))
      ]
      | inr p ↦ elim (number_cases words n (slice_get names n)) [
        | inl b ↦ absurd (let low = slice_get_within words _ b.0 b.2 in omega (arith, low, p, e))
        | inr q ↦ omega (arith, p, q, e)
      ]
    ]
  where
    both : (v w : List ℕ) → slice_get names m ≡ Some v → slice_get names n ≡ Some w → slice_get words (number words m (slice_get names m)) ≡ Some v
        → slice_get words (number words n (slice_get names n)) ≡ Some w → m ≡ n
    both v w held other at there =
        let found : Some v ≡ Some w = sym at ∙ (ap (slice_get words) e ∙ there) in
        let same : v ≡ w = cc in
        once m n w (held ∙ ap Some same) other

-- different names have different numbers
pub injective : (names words : List (List ℕ)) → HoldsEachOnce names → IsInjective (renumbered names words)
injective names words once m n e = let same = same_number names words once m.0 n.0 (ap (λ (x : Name). x.0) e) in λ i. record { 0 = same i }

none_held : (words : List (List ℕ)) (n : ℕ) → slice_get words n ≡ None → get_or words n [] ≡ []
none_held words n e = sym (unwrap_or-slice_get words n []) ∙ ap (λ o. unwrap_or o []) e

-- by its number each name has the word that it had
pub word_kept : (names words : List (List ℕ)) → StandAmong names words → (n : Name) → word_of words (renumbered names words n) ≡ word_of names n
word_kept names words stand n = by (slice_get names n.0) refl
  where
    by : (held : Option (List ℕ)) → slice_get names n.0 ≡ held → get_or words (number words n.0 held) [] ≡ get_or names n.0 []
    by None e = none_held words (length words + n.0) (slice_get_past words (length words + n.0) (omega arith)) ∙ sym (none_held names n.0 e)
    by (Some w) e =
        let there = stand n.0 w e in
        let at = has_place words w there.0 there.1 in
        ap (λ o. get_or words (unwrap_or o (length words + n.0)) []) at.1
        ∙ get_or_from_slice_get words at.0 w [] (place_finds words w at.0 at.1)
        ∙ sym (get_or_from_slice_get names n.0 w [] e)
