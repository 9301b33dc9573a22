-- Following `like` from class to class, and making rows on the way back.
use Rattle.std.proofs.Common.{◌≡◌, refl, sym, ap, ◌∙◌, ℕ, zero, suc, ◌+◌, ◌<◌, ◌≤◌, ◌≢◌, ◌⊎◌, inl, inr, Bool, true, false, true≢false, List, [], ◌∷◌, ◌++◌, length, map, get_or, set, Option, Some, None, cond, arith, get_or-set_same, get_or-set_other}
use Rattle.std.specs.List.{All, enumerate_from, slice_get}
use Rattle.std.specs.Option.{ForSome, IfSome, IsSome, is_some, option_or, option_and_then}
use Rattle.std.specs.Map.{lookup}
use Rattle.std.proofs.Math.Nat.{eq-or-lt_of_le}
use Rattle.std.proofs.lemmas.Bool.{cases_eq, cases_lt}
use Rattle.std.proofs.lemmas.List.{get_or_append_left, get_or_push, get_or_past, length_push}
use Rattle.std.proofs.lemmas.List.Elements.{All-nil, All-push}
use Rattle.std.proofs.lemmas.Option.{slice_get-get_or}
use Rattle.rp_base.specs.declared.value.Name.{Name}
use Rattle.rp_base.specs.declared.value.Op.{Op}
use Rattle.rp_decl.specs.declared.records.ClassDecl.{ClassDecl}
use Rattle.rp_checker.specs.Chain.{AllEnd, AreRight, AreRowsOf, EndsWithin, IsChain, class_places, is_done, like_place, own_row, row_within}
use Rattle.rp_checker.specs.Lookup.{is_name}
use Rattle.rp_checker.specs.Plan.{Plan, HasPlacesWithin}
use Rattle.rp_checker.specs.Tables.{row_at}
use Rattle.rp_checker.specs.declared.class_rows.ClassRows.{ClassRows}

-- classes from the first on, where each is like the next, and the last one is like the class at `next`
pub record IsFollowed (plan : Plan) (first : ℕ) (chain : List ℕ) (next : Option ℕ) : Type 0 where
  pub within : All (λ place. place < length plan.classes) chain
  pub next_within : ForSome next (λ place. place < length plan.classes)
  pub first_stands : 0 < length chain → get_or chain 0 0 ≡ first
  pub begins : length chain ≡ 0 → next ≡ Some first
  pub linked : (k : ℕ) → k + 1 < length chain → like_place plan (get_or chain k 0) ≡ Some (get_or chain (k + 1) 0)
  pub last : (k : ℕ) → k + 1 ≡ length chain → like_place plan (get_or chain k 0) ≡ next
  pub short : length chain ≤ length plan.classes
  pub ends : AllEnd plan → (left : ℕ) → left + length chain ≡ length plan.classes → EndsWithin plan left next

pub followed-start : (plan : Plan) (first : ℕ) → first < length plan.classes → IsFollowed plan first [] (Some first)
followed-start plan first inside = record {
  within = All-nil _;
  next_within = λ x e. let same : first ≡ x = cc in rw (← same) inside;
  first_stands = λ some. absurd (omega arith);
  begins = λ _. refl;
  linked = λ k some. absurd (omega arith);
  last = λ k some. absurd (omega arith);
  short = omega arith;
  ends = λ all left e. let full : left ≡ length plan.classes = omega arith in rw full (all first inside);
}

-- the class that one is like is in the plan
pub like_within : (plan : Plan) (place : ℕ) → HasPlacesWithin plan → ForSome (like_place plan place) (λ q. q < length plan.classes)
like_within plan place places = by (slice_get plan.classes place)
  where
    named : (o : Option Name) → ForSome (option_and_then (λ name. lookup (is_name name) plan.places) o) (λ q. q < length plan.classes)
    named None = λ x e. cc
    named (Some name) = places name

    by : (o : Option ClassDecl) → ForSome (option_and_then (λ c. option_and_then (λ name. lookup (is_name name) plan.places) c.like) o) (λ q. q < length plan.classes)
    by None = λ x e. cc
    by (Some c) = named c.like

pub followed-push : (plan : Plan) (first place : ℕ) (chain : List ℕ) → HasPlacesWithin plan → length chain ≢ length plan.classes → IsFollowed plan first chain (Some place) → IsFollowed plan first (chain ++ place ∷ []) (like_place plan place)
followed-push plan first place chain places room f =
    let longer : length (chain ++ place ∷ []) ≡ length chain + 1 = length_push chain place in
    record {
      within = All-push (λ p. p < length plan.classes) chain place f.within (f.next_within place refl);
      next_within = like_within plan place places;
      first_stands = λ _. starts (cases_lt 0 (length chain));
      begins = λ none. absurd (omega arith);
      linked = λ k inside. links k (eq-or-lt_of_le (room_left k inside));
      last = λ k e. let here : length chain ≡ k = omega arith in ap (like_place plan) (get_or_push chain place 0 k here);
      short = let s = f.short in omega arith;
      ends = λ all left e. f.ends all (suc left) (omega arith);
    }
  where
    starts : (0 < length chain) ⊎ (length chain ≤ 0) → get_or (chain ++ place ∷ []) 0 0 ≡ first
    starts (inl some) = get_or_append_left chain (place ∷ []) 0 0 some ∙ f.first_stands some
    starts (inr none) =
        let empty : length chain ≡ 0 = omega arith in
        let alone : Some place ≡ Some first = f.begins empty in
        get_or_push chain place 0 0 empty ∙ (let same : place ≡ first = cc in same)

    room_left : (k : ℕ) → k + 1 < length (chain ++ place ∷ []) → k + 1 ≤ length chain
    room_left k inside = let longer : length (chain ++ place ∷ []) ≡ length chain + 1 = length_push chain place in omega arith

    links : (k : ℕ) → (k + 1 ≡ length chain) ⊎ (k + 1 < length chain) → like_place plan (get_or (chain ++ place ∷ []) k 0) ≡ Some (get_or (chain ++ place ∷ []) (k + 1) 0)
    links k (inl at_end) =
        ap (like_place plan) (get_or_append_left chain (place ∷ []) 0 k (omega arith)) ∙ f.last k at_end ∙ ap Some (sym (get_or_push chain place 0 (k + 1) (sym at_end)))
    links k (inr inside) =
        ap (like_place plan) (get_or_append_left chain (place ∷ []) 0 k (omega arith)) ∙ f.linked k inside ∙ ap Some (sym (get_or_append_left chain (place ∷ []) 0 (k + 1) inside))

-- where no class is left, the chain is at its end
pub chain-ended : (plan : Plan) (done : List Bool) (first : ℕ) (chain : List ℕ) → IsFollowed plan first chain None → IsChain plan done first chain
chain-ended plan done first chain f = record {
  within = f.within;
  first_stands = f.first_stands;
  linked = f.linked;
  ready = λ all k e. rw (f.last k e) tt;
  nothing_left = λ none. let never : None ≡ Some first = f.begins none in cc;
}

-- where the next class is done, the chain is at its end
pub chain-done : (plan : Plan) (done : List Bool) (first place : ℕ) (chain : List ℕ) → IsFollowed plan first chain (Some place) → is_done done place ≡ true → IsChain plan done first chain
chain-done plan done first place chain f here = record {
  within = f.within;
  first_stands = f.first_stands;
  linked = f.linked;
  ready = λ all k e. rw (f.last k e) here;
  nothing_left = λ none. let only : Some place ≡ Some first = f.begins none in let same : place ≡ first = cc in ap (is_done done) (sym same) ∙ here;
}

-- a chain of all classes is at its end, where no class is like itself
pub chain-full : (plan : Plan) (done : List Bool) (first place : ℕ) (chain : List ℕ) → first < length plan.classes → IsFollowed plan first chain (Some place) → length chain ≡ length plan.classes → IsChain plan done first chain
chain-full plan done first place chain inside f full = record {
  within = f.within;
  first_stands = f.first_stands;
  linked = f.linked;
  ready = λ all k e. absurd (f.ends all 0 (omega arith));
  nothing_left = λ none. absurd (omega arith);
}

-- the last class of a chain is in the plan
pub chain-inside : (plan : Plan) (done : List Bool) (first place : ℕ) (chain : List ℕ) → IsChain plan done first (chain ++ place ∷ []) → place < length plan.classes
chain-inside plan done first place chain f =
    let longer : length (chain ++ place ∷ []) ≡ length chain + 1 = length_push chain place in
    rw (← get_or_push chain place 0 (length chain) refl) (f.within (length chain) 0 (omega arith))

-- the class that the last one is like is done
pub chain-ready : (plan : Plan) (done : List Bool) (first place : ℕ) (chain : List ℕ) → AllEnd plan → IsChain plan done first (chain ++ place ∷ []) → IfSome (like_place plan place) (λ q. is_done done q ≡ true)
chain-ready plan done first place chain all f =
    let longer : length (chain ++ place ∷ []) ≡ length chain + 1 = length_push chain place in
    rw (← get_or_push chain place 0 (length chain) refl) (f.ready all (length chain) (omega arith))

-- the last class of the chain is done, and the rest is a chain
pub chain-popped : (plan : Plan) (done : List Bool) (first place : ℕ) (chain : List ℕ) → length done ≡ length plan.classes → IsChain plan done first (chain ++ place ∷ []) → IsChain plan (set done place true) first chain
chain-popped plan done first place chain as_many f =
    let longer : length (chain ++ place ∷ []) ≡ length chain + 1 = length_push chain place in
    let inside = chain-inside plan done first place chain f in
    let set_here : is_done (set done place true) place ≡ true = get_or-set_same done place true false (omega arith) in
    record {
      within = λ k d low. rw (← get_or_append_left chain (place ∷ []) d k low) (f.within k d (omega arith));
      first_stands = λ some. sym (get_or_append_left chain (place ∷ []) 0 0 some) ∙ f.first_stands (omega arith);
      linked = λ k low.
          let front : k < length chain = omega arith in
          ap (like_place plan) (sym (get_or_append_left chain (place ∷ []) 0 k front)) ∙ f.linked k (omega arith) ∙ ap Some (get_or_append_left chain (place ∷ []) 0 (k + 1) low);
      ready = λ all k e.
          let front : k < length chain = omega arith in
          let next : like_place plan (get_or chain k 0) ≡ Some place =
          ap (like_place plan) (sym (get_or_append_left chain (place ∷ []) 0 k front)) ∙ f.linked k (omega arith) ∙ ap Some (get_or_push chain place 0 (k + 1) (sym e)) in
          rw next set_here;
      nothing_left = λ none.
          let alone : place ≡ first = sym (get_or_push chain place 0 0 none) ∙ f.first_stands (omega arith) in
          ap (is_done (set done place true)) (sym alone) ∙ set_here;
    }

-- a chain that ends within so many classes gives the same row within more
pub row_within-enough : (plan : Plan) (n place : ℕ) (op : Op) → EndsWithin plan n (Some place) → row_within plan (suc n) place op ≡ row_within plan n place op
row_within-enough plan zero place op ends = absurd ends
row_within-enough plan (suc n) place op ends = by (like_place plan place) ends (λ q. row_within-enough plan n q op)
  where
    by : (next : Option ℕ) → EndsWithin plan n next → ((q : ℕ) → EndsWithin plan n (Some q) → row_within plan (suc n) q op ≡ row_within plan n q op)
        → option_or (own_row plan place op) (option_and_then (λ q. row_within plan (suc n) q op) next) ≡ option_or (own_row plan place op) (option_and_then (λ q. row_within plan n q op) next)
    by None ends same = refl
    by (Some q) ends same = ap (λ o. option_or (own_row plan place op) o) (same q ends)

slice_get-set_same : {X : Type 0} (xs : List X) (i : ℕ) (x : X) → i < length xs → slice_get (set xs i x) i ≡ Some x
slice_get-set_same [] i x inside = absurd (omega arith)
slice_get-set_same (y ∷ xs) zero x inside = refl
slice_get-set_same (y ∷ xs) (suc i) x inside = slice_get-set_same xs i x (omega arith)

slice_get-set_other : {X : Type 0} (xs : List X) (i j : ℕ) (x : X) → j ≢ i → slice_get (set xs i x) j ≡ slice_get xs j
slice_get-set_other [] i j x other = refl
slice_get-set_other (y ∷ xs) zero zero x other = absurd (other refl)
slice_get-set_other (y ∷ xs) zero (suc j) x other = refl
slice_get-set_other (y ∷ xs) (suc i) zero x other = refl
slice_get-set_other (y ∷ xs) (suc i) (suc j) x other = slice_get-set_other xs i j x (λ same. other (ap suc same))

done-within : (done : List Bool) (q : ℕ) → is_done done q ≡ true → q < length done
done-within done q here = by (cases_lt q (length done))
  where
    by : (q < length done) ⊎ (length done ≤ q) → q < length done
    by (inl low) = low
    by (inr past) = absurd (true≢false (sym here ∙ get_or_past done q false past))

-- what is done stays done
pub done-more : (done : List Bool) (place q : ℕ) → is_done done q ≡ true → is_done (set done place true) q ≡ true
done-more done place q here = by (cases_eq q place)
  where
    by : (q ≡ place) ⊎ (q ≢ place) → is_done (set done place true) q ≡ true
    by (inl same) = rw same (get_or-set_same done place true false (rw (← same) (done-within done q here)))
    by (inr other) = get_or-set_other done place q true false other ∙ here

-- rows made over right ones are right
pub right-more : (plan : Plan) (done : List Bool) (rows : List ClassRows) (place : ℕ) (r : ClassRows) → place < length rows → length done ≡ length rows → length done ≡ length plan.classes → AllEnd plan
    → IfSome (like_place plan place) (λ q. is_done done q ≡ true)
    → ((op : Op) → row_at op r ≡ option_or (own_row plan place op) (option_and_then (λ like. option_and_then (row_at op) (slice_get rows like)) (like_place plan place)))
    → AreRight plan done rows → AreRight plan (set done place true) (set rows place r)
right-more plan done rows place r inside as_many as_classes all ready made right p here = by (cases_eq p place)
  where
    found : (q : ℕ) (o : Option ClassRows) → IfSome o (AreRowsOf plan q) → IsSome o → q < length plan.classes → (op : Op) → option_and_then (row_at op) o ≡ row_within plan (length plan.classes) q op
    found q None rows_of some low op = cc
    found q (Some r) rows_of some low op = rows_of op ∙ row_within-enough plan (length plan.classes) q op (all q low)

    stands : (q : ℕ) → is_done done q ≡ true → IsSome (slice_get rows q)
    stands q here = let low : q < length done = done-within done q here in ap is_some (slice_get-get_or rows q r (omega arith))

    over : (next : Option ℕ) → IfSome next (λ q. is_done done q ≡ true) → (op : Op) → option_and_then (λ like. option_and_then (row_at op) (slice_get rows like)) next ≡ option_and_then (λ q. row_within plan (length plan.classes) q op) next
    over None ready op = refl
    over (Some q) ready op = found q (slice_get rows q) (right q ready) (stands q ready) (let low : q < length done = done-within done q ready in omega arith) op

    by : (p ≡ place) ⊎ (p ≢ place) → IfSome (slice_get (set rows place r) p) (AreRowsOf plan p)
    by (inl same) = rw (same, slice_get-set_same rows place r inside) (λ op. made op ∙ ap (λ o. option_or (own_row plan place op) o) (over (like_place plan place) ready op))
    by (inr other) = rw (slice_get-set_other rows place p r other) (right p (sym (get_or-set_other done place p true false other) ∙ here))

abbrev pub numbered : ℕ → List ClassDecl → List (Name × ℕ)
numbered first classes = map (λ e. (e.1.name, e.0)) (enumerate_from first classes)

numbered-within : (first n : ℕ) (classes : List ClassDecl) → first + length classes ≤ n → (t : Name → Bool) (place : ℕ) → lookup t (numbered first classes) ≡ Some place → place < n
numbered-within first n [] fits t place e = cc
numbered-within first n (c ∷ classes) fits t place e = by (t c.name) (numbered-within (first + 1) n classes (omega arith) t place) e
  where
    by : (b : Bool) → (lookup t (numbered (first + 1) classes) ≡ Some place → place < n) → cond b (Some first) (lookup t (numbered (first + 1) classes)) ≡ Some place → place < n
    by true later e = let same : first ≡ place = cc in omega arith
    by false later e = later e

-- the place of a class is one of a class
pub places-within : (classes : List ClassDecl) (t : Name → Bool) (place : ℕ) → lookup t (class_places classes) ≡ Some place → place < length classes
places-within classes t place e = numbered-within 0 (length classes) classes (omega arith) t place e
