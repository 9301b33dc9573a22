-- Answers that are found one after another, and none where one is missing.
use Rattle.std.proofs.Common.{◌≡◌, ◌<◌, ◌≤◌, ℕ, ◌+◌, Bor, arith, List, [], ◌∷◌, ◌++◌, length, get_or, drop, map, Option}
use Rattle.std.proofs.Common.{Some, None, option_map, option_and_then, append_assoc, append-nil, ap, sym, refl, ◌∙◌}
use Rattle.std.proofs.lemmas.List.{at_drop_more, at_drop_all, get_or-map, length-map}
use Rattle.rp_words.specs.Command.{all_found}

-- the first n of all gave these, and the others give the rest
abbrev pub AreFound : {A B : Type 0} → (A → Option B) → List A → ℕ → List B → Type 0
AreFound answer all n done =
    all_found (map answer all) ≡ option_map (λ more. done ++ more) (all_found (map answer (drop n all)))

behind_none : {B : Type 0} (more : Option (List B)) → more ≡ option_map (λ rest. [] ++ rest) more
behind_none None = refl
behind_none (Some xs) = refl

pub AreFound-start : {A B : Type 0} (answer : A → Option B) (all : List A) → AreFound answer all 0 []
AreFound-start answer all = behind_none (all_found (map answer all))

one_more : {B : Type 0} (y : B) (done : List B) (rest : Option (List B))
    → option_map (λ more. done ++ more) (option_and_then (λ xs. Some (y ∷ xs)) rest)
    ≡ option_map (λ more. (done ++ y ∷ []) ++ more) rest
one_more y done None = refl
one_more y done (Some xs) = ap Some (sym (append_assoc done (y ∷ []) xs))

-- what the next one answers
at_next : {A B : Type 0} (answer : A → Option B) (all : List A) (n : ℕ) (done : List B) (x : A) (o : Option B)
    → n < length all → x ≡ get_or all n x → answer x ≡ o
    → AreFound answer all n done
    → all_found (map answer all) ≡ option_map (λ more. done ++ more) (all_found (o ∷ map answer (drop (n + 1) all)))
at_next answer all n done x o below here gives found =
    let rest = map answer (drop (n + 1) all) in
    found
    ∙ at_drop_more (λ xs. option_map (λ more. done ++ more) (all_found (map answer xs))) all n x below
    ∙ ap (λ y. option_map (λ more. done ++ more) (all_found (answer y ∷ rest))) (sym here)
    ∙ ap (λ p. option_map (λ more. done ++ more) (all_found (p ∷ rest))) gives

pub AreFound-next : {A B : Type 0} (answer : A → Option B) (all : List A) (n : ℕ) (done : List B) (x : A) (y : B)
    → n < length all → x ≡ get_or all n x → answer x ≡ Some y
    → AreFound answer all n done → AreFound answer all (n + 1) (done ++ y ∷ [])
AreFound-next answer all n done x y below here gives found =
    at_next answer all n done x (Some y) below here gives found
    ∙ one_more y done (all_found (map answer (drop (n + 1) all)))

pub AreFound-missing : {A B : Type 0} (answer : A → Option B) (all : List A) (n : ℕ) (done : List B) (x : A)
    → n < length all → x ≡ get_or all n x → answer x ≡ None
    → AreFound answer all n done → all_found (map answer all) ≡ None
AreFound-missing answer all n done x below here gives found = at_next answer all n done x None below here gives found

pub AreFound-end : {A B : Type 0} (answer : A → Option B) (all : List A) (n : ℕ) (done : List B) → length all ≤ n
    → AreFound answer all n done → all_found (map answer all) ≡ Some done
AreFound-end answer all n done over found =
    found
    ∙ at_drop_all (λ xs. option_map (λ more. done ++ more) (all_found (map answer xs))) all n over
    ∙ ap Some (append-nil done)

-- ---- the same over words

at_word : (words : List (Bor (List ℕ))) (n : ℕ) (d : Bor (List ℕ)) → n < length words
    → (get_or words n d).now ≡ get_or (map (λ w. w.now) words) n ((get_or words n d).now)
at_word words n d below = sym (get_or-map (λ (w : Bor (List ℕ)). w.now) words n d ((get_or words n d).now) below)

within : (words : List (Bor (List ℕ))) (n : ℕ) → n < length words → n < length (map (λ w. w.now) words)
within words n below = omega (arith, below, length-map words (λ w. w.now))

pub AreFound-missing_word : {A B : Type 0} (answer : List ℕ → Option B) (view : A → B) (words : List (Bor (List ℕ)))
    (n : ℕ) (d : Bor (List ℕ)) (done : List B) (o : Option A) → n < length words
    → option_map view o ≡ answer ((get_or words n d).now) → o ≡ None → AreFound answer (map (λ w. w.now) words) n done
    → None ≡ all_found (map answer (map (λ w. w.now) words))
AreFound-missing_word answer view words n d done o below gives none found =
    sym (AreFound-missing answer (map (λ w. w.now) words) n done ((get_or words n d).now) (within words n below)
    (at_word words n d below)
    (sym gives ∙ ap (option_map view) none) found)

pub AreFound-next_word : {A B : Type 0} (answer : List ℕ → Option B) (view : A → B) (words : List (Bor (List ℕ)))
    (n : ℕ) (d : Bor (List ℕ)) (done : List B) (o : Option A) (x : A) → n < length words
    → option_map view o ≡ answer ((get_or words n d).now) → o ≡ Some x → AreFound answer (map (λ w. w.now) words) n done
    → AreFound answer (map (λ w. w.now) words) (n + 1) (done ++ view x ∷ [])
AreFound-next_word answer view words n d done o x below gives some found =
    AreFound-next answer (map (λ w. w.now) words) n done ((get_or words n d).now) (view x) (within words n below)
    (at_word words n d below)
    (sym gives ∙ ap (option_map view) some) found
