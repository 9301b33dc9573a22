-- What holds of each of some elements, after what is done with lists.
use Rattle.std.proofs.Common.{sym, subst, ℕ, zero, suc, ◌+◌, Bool, true, false, if◌then◌else◌, cond, List, []}
use Rattle.std.proofs.Common.{◌∷◌, ◌++◌, map, take, drop, reverse, slice_get, Option, Some, None}
use Rattle.std.specs.Prelude.{insert, remove, slice_set, filter_map, replicate}
use Rattle.std.specs.List.{cons_option, repeat}
use Rattle.std.specs.Map.{lookup, remove_entry}
use Rattle.std.proofs.lemmas.List.{reverse-append}
use Rattle.rp_dict.specs.Dict.{insert_entry}
use Rattle.rp_native.specs.Sorted.{in_order, placed}
use Rattle.rp_apart_laws.specs.Apart.{Each, OnSome}

pub each_append : {A : Type 0} (P : A → Type 0) (xs ys : List A) → Each P xs → Each P ys → Each P (xs ++ ys)
each_append P [] ys h i = i
each_append P (x ∷ xs) ys h i = (h.0, each_append P xs ys h.1 i)

pub each_map : {A B : Type 0} (P : A → Type 0) (Q : B → Type 0) (f : A → B) → ((x : A) → P x → Q (f x)) → (xs : List A)
    → Each P xs → Each Q (map f xs)
each_map P Q f more [] h = tt
each_map P Q f more (x ∷ xs) h = (more x h.0, each_map P Q f more xs h.1)

pub each_made : {A B : Type 0} (Q : B → Type 0) (f : A → B) → ((x : A) → Q (f x)) → (xs : List A) → Each Q (map f xs)
each_made Q f more [] = tt
each_made Q f more (x ∷ xs) = (more x, each_made Q f more xs)

pub each_get : {A : Type 0} (P : A → Type 0) (xs : List A) (i : ℕ) → Each P xs → OnSome P (slice_get xs i)
each_get P [] i h = tt
each_get P (x ∷ xs) zero h = h.0
each_get P (x ∷ xs) (suc i) h = each_get P xs i h.1

pub each_take : {A : Type 0} (P : A → Type 0) (n : ℕ) (xs : List A) → Each P xs → Each P (take n xs)
each_take P zero xs h = tt
each_take P (suc n) [] h = tt
each_take P (suc n) (x ∷ xs) h = (h.0, each_take P n xs h.1)

pub each_drop : {A : Type 0} (P : A → Type 0) (n : ℕ) (xs : List A) → Each P xs → Each P (drop n xs)
each_drop P zero xs h = h
each_drop P (suc n) [] h = tt
each_drop P (suc n) (x ∷ xs) h = each_drop P n xs h.1

pub each_insert : {A : Type 0} (P : A → Type 0) (xs : List A) (i : ℕ) (x : A) → Each P xs → P x
    → Each P (insert xs i x)
each_insert P xs i x h p = each_append P (take i xs) (x ∷ drop i xs) (each_take P i xs h) (p, each_drop P i xs h)

pub each_remove : {A : Type 0} (P : A → Type 0) (xs : List A) (i : ℕ) → Each P xs → Each P (remove xs i)
each_remove P xs i h = each_append P (take i xs) (drop (suc i) xs) (each_take P i xs h) (each_drop P (suc i) xs h)

pub each_set : {A : Type 0} (P : A → Type 0) (xs : List A) (i : ℕ) (x : A) → Each P xs → P x → Each P (slice_set xs i x)
each_set P [] i x h p = tt
each_set P (y ∷ ys) zero x h p = (p, h.1)
each_set P (y ∷ ys) (suc i) x h p = (h.0, each_set P ys i x h.1 p)

pub each_reverse : {A : Type 0} (P : A → Type 0) (xs : List A) → Each P xs → Each P (reverse xs)
each_reverse P [] h = tt
each_reverse P (x ∷ xs) h =
    subst (Each P) (sym (reverse-append (x ∷ []) xs))
    (each_append P (reverse xs) (x ∷ []) (each_reverse P xs h.1) (h.0, tt))

pub each_repeat : {A : Type 0} (P : A → Type 0) (n : ℕ) (xs : List A) → Each P xs → Each P (repeat n xs)
each_repeat P zero xs h = tt
each_repeat P (suc n) xs h = each_append P xs (repeat n xs) h (each_repeat P n xs h)

pub each_replicate : {A : Type 0} (P : A → Type 0) (n : ℕ) (x : A) → P x → Each P (replicate n x)
each_replicate P zero x p = tt
each_replicate P (suc n) x p = (p, each_replicate P n x p)

pub each_found : {A B : Type 0} (Q : B → Type 0) (f : A → Option B) → ((x : A) → OnSome Q (f x)) → (xs : List A)
    → Each Q (filter_map f xs)
each_found Q f more [] = tt
each_found {A} {B} Q f more (x ∷ xs) = by (f x) (more x) (each_found Q f more xs)
  where
    by : (o : Option B) → OnSome Q o → Each Q (filter_map f xs) → Each Q (cons_option o (filter_map f xs))
    by None h i = i
    by (Some y) h i = (h, i)

-- entries

pub each_lookup : {K X : Type 0} (P : X → Type 0) (test : K → Bool) (es : List (K × X)) → Each (λ e. P e.1) es
    → OnSome P (lookup test es)
each_lookup P test [] h = tt
each_lookup P test (e ∷ es) h = by (test e.0) h.0 (each_lookup P test es h.1)
  where
    by : (b : Bool) → P e.1 → OnSome P (lookup test es) → OnSome P (cond b (Some e.1) (lookup test es))
    by true p i = p
    by false p i = i

pub each_entry : {K X : Type 0} (P : X → Type 0) (eq : K → K → Bool) (es : List (K × X)) (k : K) (x : X)
    → Each (λ e. P e.1) es → P x → Each (λ e. P e.1) (insert_entry eq es k x)
each_entry P eq [] k x h p = (p, tt)
each_entry P eq (e ∷ es) k x h p = by (eq k e.0) h (each_entry P eq es k x h.1 p)
  where
    by : (b : Bool) → P e.1 × Each (λ e. P e.1) es → Each (λ e. P e.1) (insert_entry eq es k x)
        → Each (λ e. P e.1) (if b then (e.0, x) ∷ es else e ∷ insert_entry eq es k x)
    by true h i = (p, h.1)
    by false h i = (h.0, i)

pub each_without : {K X : Type 0} (P : X → Type 0) (test : K → Bool) (es : List (K × X)) → Each (λ e. P e.1) es
    → Each (λ e. P e.1) (remove_entry test es)
each_without P test [] h = tt
each_without P test (e ∷ es) h = by (test e.0) h (each_without P test es h.1)
  where
    by : (b : Bool) → P e.1 × Each (λ e. P e.1) es → Each (λ e. P e.1) (remove_entry test es)
        → Each (λ e. P e.1) (cond b es (e ∷ remove_entry test es))
    by true h i = h.1
    by false h i = (h.0, i)

-- order

each_placed : {A : Type 0} (P : A → Type 0) (less : A → A → Bool) (v : A) (ws : List A) → P v → Each P ws
    → Each P (placed less v ws)
each_placed P less v [] p h = (p, tt)
each_placed P less v (w ∷ ws) p h = by (less w v) (each_placed P less v ws p h.1)
  where
    by : (b : Bool) → Each P (placed less v ws) → Each P (if b then w ∷ placed less v ws else v ∷ w ∷ ws)
    by true i = (h.0, i)
    by false i = (p, h)

pub each_in_order : {A : Type 0} (P : A → Type 0) (less : A → A → Bool) (vs : List A) → Each P vs
    → Each P (in_order less vs)
each_in_order P less [] h = tt
each_in_order P less (v ∷ vs) h = each_placed P less v (in_order less vs) h.0 (each_in_order P less vs h.1)
