-- Names that grow, and values that are shown one after another.
use Rattle.std.proofs.Common.{◌≡◌, ℕ, zero, suc, Bool, true, false, List, [], ◌∷◌, ◌++◌, map, slice_get, Some, append_assoc, append-nil, if◌then◌else◌, refl, sym, ap, subst, ◌∙◌, arith}
use Rattle.std.specs.List.{All}
use Rattle.std.proofs.lemmas.List.Elements.{All-cons}
use Rattle.std.proofs.lemmas.Option.{get_or_from_slice_get, slice_get_within}
use Rattle.rp_base.specs.declared.value.Name.{Name}
use Rattle.rp_base.specs.Names.{is_held, with_word}
use Rattle.rp_decl.specs.Places.{GrowsTo}
use Rattle.rp_decl.specs.Reading.{FromNowOn, Shows, ShowsName}

pub GrowsTo-refl : (names : List (List ℕ)) → GrowsTo names names
GrowsTo-refl names = ([], sym (append-nil names))

pub GrowsTo-trans : (a b c : List (List ℕ)) → GrowsTo a b → GrowsTo b c → GrowsTo a c
GrowsTo-trans a b c (more, p) (others, q) = (more ++ others, q ∙ (ap (λ x. x ++ others) p ∙ append_assoc a more others))

pub GrowsTo-with_word : (names : List (List ℕ)) (word : List ℕ) → GrowsTo names (with_word names word)
GrowsTo-with_word names word = by (is_held names word)
  where
    by : (b : Bool) → GrowsTo names (if b then names else names ++ word ∷ [])
    by true = GrowsTo-refl names
    by false = (word ∷ [], refl)

-- what holds from now on holds from later on
pub FromNowOn-later : (names later : List (List ℕ)) (P : List (List ℕ) → Type 0) → GrowsTo names later → FromNowOn names P → FromNowOn later P
FromNowOn-later names later P grown h last further = h last (GrowsTo-trans names later last grown further)

pub slice_get-append : (xs ys : List (List ℕ)) (i : ℕ) (x : List ℕ) → slice_get xs i ≡ Some x → slice_get (xs ++ ys) i ≡ Some x
slice_get-append [] ys i x h = cc
slice_get-append (y ∷ xs) ys zero x h = h
slice_get-append (y ∷ xs) ys (suc i) x h = slice_get-append xs ys i x h

-- one value more is shown
pub Shows-push : {X A : Type 0} (R : X → A → Type 0) (xs : List X) (values rest : List A) (x : X) (value : A) → Shows R xs values (value ∷ rest) → R x value → Shows R (xs ++ x ∷ []) values rest
Shows-push R [] [] rest x value h r = cc
Shows-push R [] (v ∷ vs) rest x value h r =
    let first : v ≡ value = cc in let others : vs ≡ rest = cc in (subst (R x) (sym first) r, others)
Shows-push R (y ∷ xs) [] rest x value h r = h
Shows-push R (y ∷ xs) (v ∷ vs) rest x value h r = (h.0, Shows-push R xs vs rest x value h.1 r)

-- where all is shown, the views are the values
pub Shows-view : {X A : Type 0} (R : X → A → Type 0) (show : X → A) → ((x : X) (value : A) → R x value → show x ≡ value)
    → (xs : List X) (values : List A) → Shows R xs values [] → map show xs ≡ values
Shows-view R show same [] values h = sym h
Shows-view R show same (x ∷ xs) [] h = absurd h
Shows-view R show same (x ∷ xs) (v ∷ vs) h = λ i. same x v h.0 i ∷ Shows-view R show same xs vs h.1 i

pub Shows-All : {X A : Type 0} (R : X → A → Type 0) (P : X → Type 0) → ((x : X) (value : A) → R x value → P x)
    → (xs : List X) (values : List A) → Shows R xs values [] → All P xs
Shows-All R P fact [] values h = λ k d within. absurd (omega arith)
Shows-All R P fact (x ∷ xs) [] h = absurd h
Shows-All R P fact (x ∷ xs) (v ∷ vs) h = All-cons P x xs (fact x v h.0) (Shows-All R P fact xs vs h.1)

pub Shows-values : {X A : Type 0} (R : X → A → Type 0) (P : A → Type 0) → ((x : X) (value : A) → R x value → P value)
    → (xs : List X) (values : List A) → Shows R xs values [] → All P values
Shows-values R P fact [] [] h = λ k d within. absurd (omega arith)
Shows-values R P fact [] (v ∷ vs) h = cc
Shows-values R P fact (x ∷ xs) [] h = absurd h
Shows-values R P fact (x ∷ xs) (v ∷ vs) h = All-cons P v vs (fact x v h.0) (Shows-values R P fact xs vs h.1)

-- a name that is held shows its word, whatever further names there are
pub ShowsName-held : (names : List (List ℕ)) (name : Name) (word : List ℕ) → slice_get names name.0 ≡ Some word → FromNowOn names (λ later. ShowsName later name word)
ShowsName-held names name word held later (more, grown) =
    let found : slice_get later name.0 ≡ Some word = rw grown (slice_get-append names more name.0 word held) in
    (get_or_from_slice_get later name.0 word [] found, slice_get_within later name.0 word found)
