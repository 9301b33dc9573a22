-- Names that are put into a set one after the other, and the scope that two such sets make.
use Rattle.std.proofs.Common.{◌≡◌, ℕ, Bool, true, false, not, cond, ◌||◌, ◌&&◌, List, [], ◌∷◌, ◌++◌, map, refl, sym, ap, ◌∙◌, append_assoc, true≢false}
use Rattle.std.proofs.lemmas.List.{append-nil}
use Rattle.std.proofs.lemmas.Bool.{eqb-true, eq-eqb}
use Rattle.std.specs.List.{filter, filter_map, list_any}
use Rattle.std.proofs.lemmas.List.Elements.{filter_map-append, filter-append}
use Rattle.std.proofs.lemmas.List.Folds.{list_any-append}
use Rattle.std.proofs.lemmas.List.Sums.{fold-append}
use Rattle.indexmap.specs.IndexSet.{insert_key, insert_all}
use Rattle.rp_base.specs.declared.value.Name.{Name}
use Rattle.rp_scope.specs.declared.mentions.Mention.{Mention}
use Rattle.rp_scope.specs.declared.mentions.Mention.TheVariants.{Bound, Global, GlobalWithin}
use Rattle.rp_scope.specs.Bindings.{once, all_bound, bound_name, global_name, mentioned_name, stmts_mentions}
use Rattle.rp_tree.specs.Statements.{Stmts}
use Rattle.rp_scope.specs.MentionSteps.{own, block_of, unlisted}
use Rattle.rp_scope.specs.Scopes.{Scope, same_name, scope_in, program_scope}

pub ruleset runs = (fold-append, filter_map-append, filter-append)

-- two tests in turn are one, where it holds where both do
both_step : {A : Type 0} (p : A → Bool) (y : A) (b : Bool) (xs zs : List A) → xs ≡ filter p zs → cond (b && p y) (y ∷ xs) xs ≡ filter p (cond b (y ∷ zs) zs)
both_step p y true xs zs rest = ap (λ ws. cond (p y) (y ∷ ws) ws) rest
both_step p y false xs zs rest = rest

filter_both : {A : Type 0} (p q r : A → Bool) → ((y : A) → r y ≡ (q y && p y)) → (ys : List A) → filter r ys ≡ filter p (filter q ys)
filter_both p q r each [] = refl
filter_both p q r each (y ∷ ys) =
    ap (λ b. cond b (y ∷ filter r ys) (filter r ys)) (each y) ∙ both_step p y (q y) (filter r ys) (filter q ys) (filter_both p q r each ys)

filter_alike : {A : Type 0} (p q : A → Bool) → ((y : A) → p y ≡ q y) → (ys : List A) → filter p ys ≡ filter q ys
filter_alike p q each ys = λ i. filter (λ y. each y i) ys

-- a test holds somewhere in a list also without elements at which it doesn't hold
any_step : {A : Type 0} (p : A → Bool) (y : A) (b : Bool) (xs zs : List A) → (b ≡ false → p y ≡ false) → list_any p zs ≡ list_any p xs → list_any p (cond b (y ∷ zs) zs) ≡ (p y || list_any p xs)
any_step p y true xs zs off rest = ap (λ c. p y || c) rest
any_step p y false xs zs off rest = rest ∙ ap (λ c. c || list_any p xs) (sym (off refl))

any_filter : {A : Type 0} (p q : A → Bool) → ((y : A) → q y ≡ false → p y ≡ false) → (ys : List A) → list_any p (filter q ys) ≡ list_any p ys
any_filter p q off [] = refl
any_filter p q off (y ∷ ys) = any_step p y (q y) ys (filter q ys) (off y) (any_filter p q off ys)

apart : (a b : Bool) → not (a || (b || false)) ≡ (not b && not a)
apart true true = refl
apart true false = refl
apart false true = refl
apart false false = refl

not_false : (b : Bool) → not b ≡ false → b ≡ true
not_false true e = refl
not_false false e = absurd (true≢false e)

same_is : (x y : Name) → same_name x y ≡ true → y ≡ x
same_is x y e = λ i. record { 0 = sym (eqb-true x.0 y.0 e) i }

same_swapped : (x y : Name) → same_name x y ≡ same_name y x
same_swapped x y = by (same_name x y) (same_name y x) refl refl
  where
    by : (b c : Bool) → same_name x y ≡ b → same_name y x ≡ c → same_name x y ≡ same_name y x
    by true true e f = e ∙ sym f
    by false false e f = e ∙ sym f
    by true false e f = absurd (true≢false (sym (eq-eqb y.0 x.0 (sym (eqb-true x.0 y.0 e))) ∙ f))
    by false true e f = absurd (true≢false (sym (eq-eqb x.0 y.0 (sym (eqb-true y.0 x.0 f))) ∙ e))

absorbed : (ks : List Name) (x y : Name) → list_any (same_name x) ks ≡ true → not (list_any (same_name y) ks) ≡ (not (same_name x y) && not (list_any (same_name y) ks))
absorbed ks x y there = by (same_name x y) refl
  where
    by : (b : Bool) → same_name x y ≡ b → not (list_any (same_name y) ks) ≡ (not (same_name x y) && not (list_any (same_name y) ks))
    by true e = ap not (ap (λ z. list_any (same_name z) ks) (same_is x y e) ∙ there) ∙ sym (ap (λ b. not b && not (list_any (same_name y) ks)) e)
    by false e = sym (ap (λ b. not b && not (list_any (same_name y) ks)) e)

grown : (ks : List Name) (x y : Name) → not (list_any (same_name y) (ks ++ x ∷ [])) ≡ (not (same_name x y) && not (list_any (same_name y) ks))
grown ks x y =
    ap not (list_any-append (same_name y) ks (x ∷ [])) ∙ (apart (list_any (same_name y) ks) (same_name y x) ∙ ap (λ b. not b && not (list_any (same_name y) ks)) (same_swapped y x))

inserted_step : (ks : List Name) (x : Name) (b : Bool) (zs : List Name) → list_any (same_name x) ks ≡ b → cond b ks (ks ++ x ∷ []) ++ unlisted same_name (cond b ks (ks ++ x ∷ [])) zs ≡ ks ++ cond (not b) (x ∷ unlisted same_name ks (filter (λ y. not (same_name x y)) zs)) (unlisted same_name ks (filter (λ y. not (same_name x y)) zs))
inserted_step ks x true zs e =
    ap (λ ws. ks ++ ws) (filter_both (λ y. not (list_any (same_name y) ks)) (λ y. not (same_name x y)) (λ y. not (list_any (same_name y) ks)) (λ y. absorbed ks x y e) zs)
inserted_step ks x false zs e =
    append_assoc ks (x ∷ []) (unlisted same_name (ks ++ x ∷ []) zs) ∙ ap (λ ws. ks ++ (x ∷ ws)) (filter_both (λ y. not (list_any (same_name y) ks)) (λ y. not (same_name x y)) (λ y. not (list_any (same_name y) (ks ++ x ∷ []))) (λ y. grown ks x y) zs)

-- a set has each name once, after those that it had
inserted_more : (ks xs : List Name) → insert_all same_name ks xs ≡ ks ++ unlisted same_name ks (once same_name xs)
inserted_more ks [] = sym (append-nil ks)
inserted_more ks (x ∷ xs) = inserted_more (insert_key same_name ks x) xs ∙ inserted_step ks x (list_any (same_name x) ks) (once same_name xs) refl

unlisted_none : (xs : List Name) → unlisted same_name [] xs ≡ xs
unlisted_none [] = refl
unlisted_none (x ∷ xs) = ap (λ ys. x ∷ ys) (unlisted_none xs)

pub inserted : (xs : List Name) → insert_all same_name [] xs ≡ once same_name xs
inserted xs = inserted_more [] xs ∙ unlisted_none (once same_name xs)

-- whether a name is listed
any_once_step : (z x : Name) (b : Bool) (ys zs : List Name) → same_name z x ≡ b → list_any (same_name z) zs ≡ list_any (same_name z) ys → (b || list_any (same_name z) (filter (λ y. not (same_name x y)) zs)) ≡ (b || list_any (same_name z) ys)
any_once_step z x true ys zs e rest = refl
any_once_step z x false ys zs e rest =
    any_filter (same_name z) (λ y. not (same_name x y)) (λ y off. ap (same_name z) (same_is x y (not_false (same_name x y) off)) ∙ e) zs ∙ rest

pub any_once : (z : Name) (xs : List Name) → list_any (same_name z) (once same_name xs) ≡ list_any (same_name z) xs
any_once z [] = refl
any_once z (x ∷ xs) = any_once_step z x (same_name z x) xs (once same_name xs) refl (any_once z xs)

-- the scope that is made of the mentions of a block
pub scope_made : (made : Scope) (around : ℕ) (ms : List (Mention Name)) → made.globals ≡ insert_all same_name [] (filter_map global_name ms) → made.locals ≡ insert_all same_name [] (unlisted same_name made.globals (filter_map bound_name ms)) → made.around ≡ around → made ≡ scope_in around (block_of ms)
unfolding scope_in
scope_made made around ms gs ls a =
    let listed : made.globals ≡ once same_name (filter_map global_name ms) = gs ∙ inserted (filter_map global_name ms) in
    let unlisted_alike : unlisted same_name made.globals (filter_map bound_name ms) ≡ unlisted same_name (filter_map global_name ms) (filter_map bound_name ms) =
    filter_alike (λ y. not (list_any (same_name y) made.globals)) (λ y. not (list_any (same_name y) (filter_map global_name ms))) (λ y. ap (λ zs. not (list_any (same_name y) zs)) listed ∙ ap not (any_once y (filter_map global_name ms))) (filter_map bound_name ms) in
    let bound : made.locals ≡ once same_name (unlisted same_name (filter_map global_name ms) (filter_map bound_name ms)) = ls ∙ (inserted (unlisted same_name made.globals (filter_map bound_name ms)) ∙ ap (once same_name) unlisted_alike) in
    λ i. record { locals = bound i; globals = listed i; around = a i }

-- the block of parameters alone, and of a function

own_all_bound : {A : Type 0} (xs : List A) → own (all_bound xs) ≡ all_bound xs
own_all_bound [] = refl
own_all_bound (x ∷ xs) = ap (λ ys. Bound x ∷ ys) (own_all_bound xs)

names_bound : {A : Type 0} (xs : List A) → filter_map bound_name (all_bound xs) ≡ xs
names_bound [] = refl
names_bound (x ∷ xs) = ap (λ ys. x ∷ ys) (names_bound xs)

globals_bound : {A : Type 0} (xs : List A) → filter_map global_name (all_bound xs) ≡ []
globals_bound [] = refl
globals_bound (x ∷ xs) = globals_bound xs

names_own : {A : Type 0} (xs : List (Mention A)) → filter_map bound_name (own xs) ≡ filter_map bound_name xs
names_own [] = refl
names_own (Bound n ∷ xs) = ap (λ ys. n ∷ ys) (names_own xs)
names_own (Global n ∷ xs) = names_own xs
names_own (GlobalWithin n ∷ xs) = names_own xs

globals_own : {A : Type 0} (xs : List (Mention A)) → filter_map global_name (own xs) ≡ filter_map global_name xs
globals_own [] = refl
globals_own (Bound n ∷ xs) = globals_own xs
globals_own (Global n ∷ xs) = ap (λ ys. n ∷ ys) (globals_own xs)
globals_own (GlobalWithin n ∷ xs) = globals_own xs

pub block_of_bound : {A : Type 0} (ps : List A) → block_of (own (all_bound ps)) ≡ record { names = ps; globals = [] }
block_of_bound ps =
    let names : filter_map bound_name (own (all_bound ps)) ≡ ps = names_own (all_bound ps) ∙ names_bound ps in
    let globals : filter_map global_name (own (all_bound ps)) ≡ [] = globals_own (all_bound ps) ∙ globals_bound ps in
    λ i. record { names = names i; globals = globals i }

pub block_of_function : {A : Type 0} (ps : List A) (ms : List (Mention A)) → block_of (own (all_bound ps) ++ own ms) ≡ record { names = ps ++ filter_map bound_name ms; globals = filter_map global_name ms }
block_of_function ps ms =
    let names : filter_map bound_name (own (all_bound ps) ++ own ms) ≡ ps ++ filter_map bound_name ms =
    filter_map-append bound_name (own (all_bound ps)) (own ms) ∙ (ap (λ ys. ys ++ filter_map bound_name (own ms)) (names_own (all_bound ps) ∙ names_bound ps) ∙ ap (λ ys. ps ++ ys) (names_own ms)) in
    let globals : filter_map global_name (own (all_bound ps) ++ own ms) ≡ filter_map global_name ms =
    filter_map-append global_name (own (all_bound ps)) (own ms) ∙ (ap (λ ys. ys ++ filter_map global_name (own ms)) (globals_own (all_bound ps) ∙ globals_bound ps) ∙ globals_own ms) in
    λ i. record { names = names i; globals = globals i }

-- the scope of the program
pub program_made : (made : Scope) (first ks : List Name) (ms : List (Mention Name)) (x : Stmts) → ks ≡ insert_all same_name [] first → ms ≡ stmts_mentions x → made.locals ≡ insert_all same_name ks (map mentioned_name ms) → made.globals ≡ [] → made.around ≡ 0 → made ≡ program_scope first x
unfolding program_scope
program_made made first ks ms x given said all none a =
    let begun : made.locals ≡ insert_all same_name (insert_all same_name [] first) (map mentioned_name (stmts_mentions x)) =
    all ∙ (ap (λ zs. insert_all same_name zs (map mentioned_name ms)) given ∙ ap (λ zs. insert_all same_name (insert_all same_name [] first) (map mentioned_name zs)) said) in
    let bound : made.locals ≡ once same_name (first ++ map mentioned_name (stmts_mentions x)) =
    begun ∙ (sym (fold-append (insert_key same_name) [] first (map mentioned_name (stmts_mentions x))) ∙ inserted (first ++ map mentioned_name (stmts_mentions x))) in
    λ i. record { locals = bound i; globals = none i; around = a i }
