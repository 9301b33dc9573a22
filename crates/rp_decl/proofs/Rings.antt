-- Rings of `like`: by the names of the classes, and by their places.
use Rattle.std.proofs.Common.{◌≡◌, ℕ, zero, suc, ◌<◌, ◌≤◌, ◌||◌, Bool, true, false, List, [], ◌∷◌, length, get_or, map, filter, find, Option, Some, None, option_map, option_and_then, slice_get, refl, sym, ap, ◌∙◌, cond, if◌then◌else◌, inl, inr, arith}
use Rattle.std.proofs.lemmas.Bool.{cases_lt}
use Rattle.rp_base.specs.Same.{same_text}
use Rattle.std.proofs.lemmas.Option.{slice_get-map}
use Rattle.std.proofs.lemmas.Cmp.{tied_itself}
use Rattle.std.proofs.lemmas.List.{length-map}
use Rattle.rp_decl.proofs.Orders.{lesser_of_assoc, lesser_of-none, text_cmp_total}
use Rattle.rp_decl.proofs.Places.{place_of-at, same_text-place}
use Rattle.rp_decl.specs.Consistency.{comes_back, follow, leads_to, is_on_ring, class_names}
use Rattle.rp_decl.specs.InOrder.{AreAscending}
use Rattle.rp_decl.specs.Order.{least, lesser_of, place_of}
use Rattle.rp_decl.specs.Records.{Class, Declarations}
use Rattle.rp_decl.specs.Ring.{follow_places, is_place, is_reached, like_place, next}

-- a place that is reached in some steps is reached in more
pub is_reached-more : (likes : List (Option ℕ)) (place m n : ℕ) → is_reached likes m place ≡ true → m ≤ n → is_reached likes n place ≡ true
is_reached-more likes place zero n h le = cc
is_reached-more likes place (suc m) zero h le = absurd (omega arith)
is_reached-more likes place (suc m) (suc n) h le = elim (cases_lt m n) [
  | inl less ↦ or_right (is_place place (follow_places likes (suc n) place)) (is_reached likes n place) (is_reached-more likes place (suc m) n h (omega arith))
  | inr least ↦ let same : m ≡ n = omega arith in rw (← same) h
]
  where
    or_right : (a b : Bool) → b ≡ true → (a || b) ≡ true
    or_right true b e = refl
    or_right false b e = e

find-place : (cs : List Class) (name : List ℕ) → find (λ c. same_text name c.name) cs ≡ option_and_then (slice_get cs) (place_of (map (λ c. c.name) cs) name)
find-place [] name = refl
find-place (c ∷ cs) name = by (same_text name c.name) (place_of (map (λ c. c.name) cs) name) (find-place cs name)
  where
    by : (b : Bool) (rest : Option ℕ) → find (λ c. same_text name c.name) cs ≡ option_and_then (slice_get cs) rest
        → cond b (Some c) (find (λ c. same_text name c.name) cs) ≡ option_and_then (slice_get (c ∷ cs)) (if b then Some 0 else option_map suc rest)
    by true rest e = refl
    by false None e = e
    by false (Some i) e = e

-- the places that the classes of a document are like
abbrev pub likes_of : Declarations → List (Option ℕ)
likes_of d = map (like_place (class_names d)) d.classes

-- to follow names is to follow places
leads : (d : Declarations) → AreAscending (class_names d) → (s : ℕ) → s < length (class_names d) → (n : ℕ) (name : List ℕ)
    → leads_to (get_or (class_names d) s []) (follow d n name) ≡ is_place s (option_and_then (follow_places (likes_of d) n) (place_of (class_names d) name))
leads d up s within zero name = same_text-place (class_names d) up s within name ∙ by (place_of (class_names d) name)
  where
    by : (o : Option ℕ) → is_place s o ≡ is_place s (option_and_then (λ p. Some p) o)
    by None = refl
    by (Some p) = refl
leads d up s within (suc n) name = rw (find-place d.classes name) (by (place_of (class_names d) name) (leads d up s within n))
  where
    first : List ℕ
    first = get_or (class_names d) s []

    likes : List (Option ℕ)
    likes = likes_of d

    at : (i : ℕ) (c : Option Class) → slice_get d.classes i ≡ c
        → ((w : List ℕ) → leads_to first (follow d n w) ≡ is_place s (option_and_then (follow_places likes n) (place_of (class_names d) w)))
        → leads_to first (option_and_then (λ c. option_and_then (follow d n) c.like) c) ≡ is_place s (option_and_then (follow_places likes n) (next likes i))
    at i None e step = rw (slice_get-map (like_place (class_names d)) d.classes i, e) refl
    at i (Some c) e step = rw (slice_get-map (like_place (class_names d)) d.classes i, e) (like c.like)
      where
        like : (o : Option (List ℕ)) → leads_to first (option_and_then (follow d n) o) ≡ is_place s (option_and_then (follow_places likes n) (option_and_then (place_of (class_names d)) o))
        like None = refl
        like (Some w) = step w

    by : (o : Option ℕ)
        → ((w : List ℕ) → leads_to first (follow d n w) ≡ is_place s (option_and_then (follow_places likes n) (place_of (class_names d) w)))
        → leads_to first (option_and_then (λ c. option_and_then (follow d n) c.like) (option_and_then (slice_get d.classes) o)) ≡ is_place s (option_and_then (follow_places likes (suc n)) o)
    by None step = refl
    by (Some i) step = at i (slice_get d.classes i) refl step

comes_back-places : (d : Declarations) → AreAscending (class_names d) → (s : ℕ) → s < length (class_names d) → (n : ℕ)
    → comes_back d n (get_or (class_names d) s []) ≡ is_reached (likes_of d) n s
comes_back-places d up s within zero = refl
comes_back-places d up s within (suc n) =
    let name = get_or (class_names d) s [] in
    let place : place_of (class_names d) name ≡ Some s = place_of-at (class_names d) up name s within (tied_itself text_cmp_total name) in
    let here : leads_to name (follow d (suc n) name) ≡ is_place s (follow_places (likes_of d) (suc n) s) = leads d up s within (suc n) name ∙ ap (λ o. is_place s (option_and_then (follow_places (likes_of d) (suc n)) o)) place in
    λ i. here i || comes_back-places d up s within n i

-- a class stands on a ring where its place is reached again
pub is_on_ring-places : (d : Declarations) → AreAscending (class_names d) → (s : ℕ) → s < length (class_names d)
    → is_on_ring d (get_or (class_names d) s []) ≡ is_reached (likes_of d) (length (likes_of d)) s
is_on_ring-places d up s within =
    comes_back-places d up s within (length d.classes) ∙ ap (λ n. is_reached (likes_of d) n s) (sym (length-map d.classes (like_place (class_names d))))

pub least-filter : (found : Option (List ℕ)) (p : List ℕ → Bool) (x : List ℕ) (xs : List (List ℕ)) (b : Bool) → p x ≡ b
    → lesser_of found (least (filter p (x ∷ xs))) ≡ lesser_of (lesser_of found (if b then Some x else None)) (least (filter p xs))
least-filter found p x xs true e = rw e (sym (lesser_of_assoc found (Some x) (least (filter p xs))))
least-filter found p x xs false e = rw (e, lesser_of-none found) refl
