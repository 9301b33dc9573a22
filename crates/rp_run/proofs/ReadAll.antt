-- The scripts of a run, read one after another.
use Rattle.std.proofs.Common.{◌≡◌, ◌≢◌, ◌⊎◌, inl, inr, ◌+◌, ◌<◌, ◌≤◌, ℕ, suc, Bool, true, false, nat_lt, List, [], ◌∷◌}
use Rattle.std.proofs.Common.{◌++◌, length, get_or, map, take, drop, find, slice_get, Option, Some, None, option_map}
use Rattle.std.proofs.Common.{IfSome, refl, sym, ap, subst, ◌∙◌, arith, if◌then◌else◌}
use Rattle.std.proofs.lemmas.Bool.{le-ltb, lt-ltb}
use Rattle.std.proofs.lemmas.List.{drop_more, map-append, take-append-drop, take-map, take_all, take_more}
use Rattle.std.proofs.lemmas.Option.{slice_get-get_or, slice_get-map}
use Rattle.std.proofs.Math.Numerals.{add-one}
use Rattle.rp_run.specs.Refusals.{AreWhole, BeginsNext, IsLong, IsWhole, OnRefusal, RefusesLong, RefusesTooLong}
use Rattle.rp_run.specs.Steps.{BeginsScript, BeginsSome, FailsAtScript, IsCommandStatus}
use Rattle.rp_run.specs.Told.{IsShort, IsTooLong, first_too_long, longest_file, too_long_line}
use Rattle.rp_run.specs.declared.answer.Answer.{Answer}
use Rattle.rp_run.specs.declared.stop.Stop.{Stop}
use Rattle.rp_run.proofs.Sayings.{nine, refused_as}
use Rattle.rp_words.specs.Command.{Pair}
use Rattle.rp_words.specs.View.{pair_view}
use Rattle.rp_words.specs.declared.command.Pair.{Pair as PlacedPair}

abbrev is_long : (List ℕ → List ℕ) → List ℕ → Bool
is_long of path = nat_lt longest_file (length (of path))

-- what does not pass in front passes behind
pub find_behind : {A : Type 0} (p : A → Bool) (xs ys : List A) → find p xs ≡ None → find p (xs ++ ys) ≡ find p ys
find_behind p [] ys none = refl
find_behind p (x ∷ xs) ys none = by (p x) none (find_behind p xs ys) where
  by : (b : Bool) → (if b then Some x else find p xs) ≡ None → (find p xs ≡ None → find p (xs ++ ys) ≡ find p ys)
      → (if b then Some x else find p (xs ++ ys)) ≡ find p ys
  by true e rest = absurd (cc)
  by false e rest = rest e

find_first : {A : Type 0} (p : A → Bool) (x : A) (xs : List A) → p x ≡ true → find p (x ∷ xs) ≡ Some x
find_first p x xs passes = ap (λ (b : Bool). if b then Some x else find p xs) passes

find_not_first : {A : Type 0} (p : A → Bool) (x : A) (xs : List A) → p x ≡ false → find p (x ∷ xs) ≡ find p xs
find_not_first p x xs fails = ap (λ (b : Bool). if b then Some x else find p xs) fails

-- the pairs in front of one, that one, and those behind it
module _ (pairs : List PlacedPair) (i : ℕ) (p : PlacedPair) (inside : i < length pairs)
    (is : p ≡ get_or pairs i p) where
  abbrev pub views : List Pair
  views = map pair_view pairs

  abbrev pub front : List Pair
  front = map pair_view (take i pairs)

  pub parts : views ≡ front ++ pair_view p ∷ map pair_view (drop (i + 1) pairs)
  parts =
      ap (map pair_view) (sym (take-append-drop i pairs)) ∙ map-append pair_view (take i pairs) (drop i pairs)
      ∙ ap (λ (rest : List PlacedPair). front ++ map pair_view rest) (drop_more pairs i p inside
      ∙ ap (λ (q : PlacedPair). q ∷ drop (i + 1) pairs) (sym is))

  pub more : map pair_view (take (i + 1) pairs) ≡ front ++ pair_view p ∷ []
  more =
      ap (map pair_view) (take_more pairs i p inside ∙ ap (λ (q : PlacedPair). take i pairs ++ q ∷ []) (sym is))
      ∙ map-append pair_view (take i pairs) (p ∷ [])

  -- where none in front is too long

  none_longer : (of : List ℕ → List ℕ) → first_too_long of front ≡ None → IsShort (of (pair_view p).path)
      → first_too_long of (map pair_view (take (i + 1) pairs)) ≡ None
  none_longer of none short =
      ap (first_too_long of) more
      ∙ ap (find (is_long of)) (map-append (λ (q : Pair). q.path) front (pair_view p ∷ []))
      ∙ find_behind (is_long of) (map (λ (q : Pair). q.path) front) ((pair_view p).path ∷ []) none
      ∙ find_not_first (is_long of) (pair_view p).path [] (not_long (length (of (pair_view p).path)) short)
    where
      not_long : (n : ℕ) → n ≤ longest_file → nat_lt longest_file n ≡ false
      not_long n few = le-ltb longest_file n few

  one_longer : (of : List ℕ → List ℕ) → first_too_long of front ≡ None → IsTooLong (of (pair_view p).path)
      → first_too_long of views ≡ Some (pair_view p).path
  one_longer of none long =
      ap (first_too_long of) parts
      ∙ ap (find (is_long of))
      (map-append (λ (q : Pair). q.path) front (pair_view p ∷ map pair_view (drop (i + 1) pairs)))
      ∙ find_behind (is_long of) (map (λ (q : Pair). q.path) front) _ none
      ∙ find_first (is_long of) (pair_view p).path _ (lt-ltb longest_file (length (of (pair_view p).path)) long)

  -- one script more is whole

  pub whole-more : (contents : Option (List ℕ → List ℕ)) (scripts : List (List ℕ)) (bytes : List ℕ)
      → AreWhole contents front scripts → IsWhole contents bytes (pair_view p).path
      → AreWhole contents (map pair_view (take (i + 1) pairs)) (scripts ++ bytes ∷ [])
  whole-more None scripts bytes whole here = tt
  whole-more (Some of) scripts bytes whole here = (
    (λ k. whole.0 k ++ here.0 k ∷ []) ∙ sym (map-append (λ (q : Pair). of q.path) front (pair_view p ∷ []))
        ∙ ap (map (λ (q : Pair). of q.path)) (sym more),
    none_longer of whole.1 here.1,
  )

  -- or it is too long

  long : (contents : Option (List ℕ → List ℕ)) (scripts : List (List ℕ)) (a : Answer) → AreWhole contents front scripts
      → RefusesLong contents (pair_view p).path a → RefusesTooLong contents views a
  long None scripts a whole refuses = ((pair_view p).path, (tt, refuses.1, refuses.2))
  long (Some of) scripts a whole refuses = ((pair_view p).path, (one_longer of whole.1 refuses.0, refuses.1, refuses.2))

  pub refuses-long : (contents : Option (List ℕ → List ℕ)) (scripts : List (List ℕ)) (stop : Stop)
      → AreWhole contents front scripts → OnRefusal (RefusesLong contents (pair_view p).path) stop
      → OnRefusal (RefusesTooLong contents views) stop
  refuses-long contents scripts stop whole says =
      refused_as (RefusesLong contents (pair_view p).path) (RefusesTooLong contents views) stop (λ a refuses.
      long contents scripts a whole refuses) says

  -- the files that were begun

  path_there : slice_get (map (λ (q : Pair). q.path) views) i ≡ Some (pair_view p).path
  path_there =
      slice_get-map (λ (q : Pair). q.path) views i
      ∙ ap (λ (o : Option Pair). option_map (λ (q : Pair). q.path) o) (slice_get-map pair_view pairs i)
      ∙ ap (λ (o : Option PlacedPair). option_map (λ (q : Pair). q.path) (option_map pair_view o))
      (slice_get-get_or pairs i p inside ∙ ap Some (sym is))

  begins_here : (before mid begun : ℕ) (last_path : List ℕ) → mid ≡ before + i
      → BeginsNext (pair_view p).path mid begun last_path → BeginsScript views before i begun last_path
  begins_here before mid begun last_path count next =
      (let counted = next.0 in let far = count in omega (arith, counted, far), path_there ∙ ap Some (sym next.1))

  pub begins-more : (before mid begun : ℕ) (old_path mid_path last_path : List ℕ) → mid ≡ before + i
      → BeginsSome views before old_path mid mid_path
      → ((begun ≡ mid) × (last_path ≡ mid_path)) ⊎ BeginsNext (pair_view p).path mid begun last_path
      → BeginsSome views before old_path begun last_path
  begins-more before mid begun old_path mid_path last_path count some tried =
      elim tried [ inl same ↦ stays same | inr next ↦ inr (i, begins_here before mid begun last_path count next) ]
    where
      stays : (begun ≡ mid) × (last_path ≡ mid_path) → BeginsSome views before old_path begun last_path
      stays same =
          subst (λ (n : ℕ). BeginsSome views before old_path n last_path) (sym same.0)
          (subst (λ (path : List ℕ). BeginsSome views before old_path mid path) (sym same.1) some)

  none_before : (contents : Option (List ℕ → List ℕ)) (scripts : List (List ℕ)) → AreWhole contents front scripts
      → IfSome contents (λ of. first_too_long of (take i views) ≡ None)
  none_before None scripts whole = tt
  none_before (Some of) scripts whole = ap (first_too_long of) (take-map pair_view i pairs) ∙ whole.1

  pub fails-here : (contents : Option (List ℕ → List ℕ)) (scripts : List (List ℕ)) (before mid begun : ℕ)
      (last_path : List ℕ) → mid ≡ before + i → AreWhole contents front scripts
      → BeginsNext (pair_view p).path mid begun last_path → FailsAtScript views contents before begun last_path
  fails-here contents scripts before mid begun last_path count whole next =
      (i, (begins_here before mid begun last_path count next, none_before contents scripts whole))

-- nothing is left to be read
pub whole-all : (pairs : List PlacedPair) (i : ℕ) (contents : Option (List ℕ → List ℕ)) (scripts : List (List ℕ))
    → length pairs ≤ i → AreWhole contents (map pair_view (take i pairs)) scripts
    → AreWhole contents (map pair_view pairs) scripts
whole-all pairs i contents scripts past whole =
    subst (λ (ps : List PlacedPair). AreWhole contents (map pair_view ps) scripts) (take_all i pairs past) whole

pub whole-none : (contents : Option (List ℕ → List ℕ)) → AreWhole contents [] []
whole-none None = tt
whole-none (Some of) = (refl, refl)

pub too_long_status : (contents : Option (List ℕ → List ℕ)) (pairs : List Pair) (stop : Stop)
    → OnRefusal (RefusesTooLong contents pairs) stop → OnRefusal (λ a. IsCommandStatus a.status.0) stop
too_long_status contents pairs stop says =
    refused_as (RefusesTooLong contents pairs) (λ a. IsCommandStatus a.status.0) stop (λ a refuses.
    nine a.status.0 refuses.1.2) says
