-- The principals of sessions.
use Rattle.std.proofs.Common.{◌≡◌, ◌∙◌, ◌++◌, ◌+◌, ◌<◌, ◌≤◌, ℕ, Bool, true, false, if◌then◌else◌, List, [], ◌∷◌, length}
use Rattle.std.proofs.Common.{find, get_or, map, take, take_all, drop, Some, None, sym, ap, subst}
use Rattle.std.proofs.Common.{append-nil, not, is_some}
use Rattle.std.proofs.lemmas.Grind.{flat_map-append}
use Rattle.std.proofs.lemmas.List.{length-map, map-append}
use Rattle.rp_decl.specs.Records.{Declarations}
use Rattle.rp_decl.specs.View.{Placed, declarations_view}
use Rattle.rp_interact.specs.Interacting.{Interacting}
use Rattle.rp_interact.specs.Why.{first_unknown, principal_named}
use Rattle.rp_run.specs.Refusals.{OnRefusal, RefusesUnknown}
use Rattle.rp_run.specs.Told.{all_ids}
use Rattle.rp_run.specs.declared.stop.Stop.{Stop}
use Rattle.rp_run.proofs.ReadAll.{find_behind, more, parts}
use Rattle.rp_run.proofs.Sayings.{refused_as}
use Rattle.rp_words.specs.Command.{Pair}
use Rattle.rp_words.specs.View.{pair_view}
use Rattle.rp_words.specs.declared.command.Pair.{Pair as PlacedPair}

-- as many as the pairs
pub as_many_whos : (whos : List Interacting) (pairs : List PlacedPair)
    → map (λ (who : Interacting). who.ids) whos ≡ map (λ (p : Pair). p.ids) (map pair_view pairs)
    → length whos ≡ length pairs
as_many_whos whos pairs same =
    sym (length-map whos (λ (who : Interacting). who.ids)) ∙ ap length same
    ∙ length-map (map pair_view pairs) (λ (p : Pair). p.ids) ∙ length-map pairs pair_view

abbrev is_unknown : Declarations → List ℕ → Bool
is_unknown d id = not (is_some (principal_named d id))

find_in_front : {A : Type 0} (p : A → Bool) (xs ys : List A) (x : A) → find p xs ≡ Some x → find p (xs ++ ys) ≡ Some x
find_in_front p [] ys x e = absurd (cc)
find_in_front p (z ∷ xs) ys x e = by (p z) e (find_in_front p xs ys x) where
  by : (b : Bool) → (if b then Some z else find p xs) ≡ Some x → (find p xs ≡ Some x → find p (xs ++ ys) ≡ Some x)
      → (if b then Some z else find p (xs ++ ys)) ≡ Some x
  by true e rest = e
  by false e rest = rest e

-- ---- one pair more

module _ (pairs : List PlacedPair) (i : ℕ) (p : PlacedPair) (inside : i < length pairs)
    (is : p ≡ get_or pairs i p) where
  pub ids-more : (whos : List Interacting) (who : Interacting)
      → map (λ (who : Interacting). who.ids) whos ≡ map (λ (q : Pair). q.ids) (map pair_view (take i pairs))
      → who.ids ≡ p.ids.items
      → map (λ (who : Interacting). who.ids) (whos
      ++ who ∷ []) ≡ map (λ (q : Pair). q.ids) (map pair_view (take (i + 1) pairs))
  ids-more whos who same its =
      map-append (λ (who : Interacting). who.ids) whos (who ∷ []) ∙ (λ k. same k ++ its k ∷ [])
      ∙ sym (ap (map (λ (q : Pair). q.ids)) (more pairs i p inside is)
      ∙ map-append (λ (q : Pair). q.ids) (map pair_view (take i pairs)) (pair_view p ∷ []))

  module _ (d : Placed) (known : (names : List (List ℕ))
      → first_unknown (declarations_view names d) (all_ids (map pair_view (take i pairs))) ≡ None) where
    -- the ids of all pairs are those in front, its own, and those behind
    ids_here : all_ids (map pair_view pairs) ≡ all_ids (map pair_view (take i pairs))
        ++ (p.ids.items ++ all_ids (map pair_view (drop (i + 1) pairs)))
    ids_here = ap all_ids (parts pairs i p inside is)
        ∙ flat_map-append (λ (q : Pair). q.ids) (map pair_view (take i pairs))
        (pair_view p ∷ map pair_view (drop (i + 1) pairs))

    ids_so_far : all_ids (map pair_view (take (i + 1) pairs)) ≡ all_ids (map pair_view (take i pairs)) ++ p.ids.items
    ids_so_far =
        ap all_ids (more pairs i p inside is)
        ∙ flat_map-append (λ (q : Pair). q.ids) (map pair_view (take i pairs)) (pair_view p ∷ [])
        ∙ ap (λ (ids : List (List ℕ)). all_ids (map pair_view (take i pairs)) ++ ids) (append-nil p.ids.items)

    pub known-more : ((names : List (List ℕ)) → first_unknown (declarations_view names d) p.ids.items ≡ None)
        → (names : List (List ℕ))
        → first_unknown (declarations_view names d) (all_ids (map pair_view (take (i + 1) pairs))) ≡ None
    known-more its names =
        ap (first_unknown (declarations_view names d)) ids_so_far
        ∙ find_behind (is_unknown (declarations_view names d)) (all_ids (map pair_view (take i pairs))) p.ids.items
        (known names) ∙ its names

    unknown_here : (names : List (List ℕ)) (id : List ℕ)
        → first_unknown (declarations_view names d) p.ids.items ≡ Some id
        → first_unknown (declarations_view names d) (all_ids (map pair_view pairs)) ≡ Some id
    unknown_here names id its =
        ap (first_unknown (declarations_view names d)) ids_here
        ∙ find_behind (is_unknown (declarations_view names d)) (all_ids (map pair_view (take i pairs))) (p.ids.items
        ++ all_ids (map pair_view (drop (i + 1) pairs))) (known names)
        ∙ find_in_front (is_unknown (declarations_view names d)) p.ids.items
        (all_ids (map pair_view (drop (i + 1) pairs))) id its

  pub unknown-there : (d : Placed) (stop : Stop)
      → ((names : List (List ℕ))
      → first_unknown (declarations_view names d) (all_ids (map pair_view (take i pairs))) ≡ None)
      → OnRefusal (RefusesUnknown d p.ids.items) stop
      → OnRefusal (RefusesUnknown d (all_ids (map pair_view pairs))) stop
  unknown-there d stop known says =
      refused_as (RefusesUnknown d p.ids.items) (RefusesUnknown d (all_ids (map pair_view pairs))) stop
      (λ a unknown.
      (unknown.0, ((λ names. unknown_here d known names unknown.0 (unknown.1.0 names)), unknown.1.1, unknown.1.2)))
      says

pub known-all : (pairs : List PlacedPair) (i : ℕ) → length pairs ≤ i → (d : Placed)
    → ((names : List (List ℕ))
    → first_unknown (declarations_view names d) (all_ids (map pair_view (take i pairs))) ≡ None)
    → (names : List (List ℕ)) → first_unknown (declarations_view names d) (all_ids (map pair_view pairs)) ≡ None
known-all pairs i past d known names =
    subst (λ (ps : List PlacedPair). first_unknown (declarations_view names d) (all_ids (map pair_view ps)) ≡ None)
    (take_all i pairs past) (known names)
