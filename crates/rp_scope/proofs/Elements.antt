-- One more element of a list has been changed, and numbered after those before it.
use Rattle.std.proofs.Common.{◌≡◌, ℕ, zero, suc, ◌+◌, ◌<◌, ◌≤◌, ◌⊎◌, inl, inr, List, length, get_or, [], Option, Some, None, option_map, refl, sym, ap, ◌∙◌, subst, arith}
use Rattle.std.proofs.Math.ListN.{set}
use Rattle.std.proofs.lemmas.Grind.{get_or-set_at}
use Rattle.std.proofs.lemmas.List.{get_or-set_other, length-set, set-get_or}
use Rattle.std.proofs.lemmas.Option.{slice_get-get_or}
use Rattle.rp_tree.specs.declared.expr.Expr.{Expr}
use Rattle.rp_tree.specs.ExpressionViews as views
use Rattle.rp_scope.specs.Numbers as numbering
use Rattle.rp_scope.specs.NumberSteps.{past, start}
use Rattle.rp_scope.proofs.Runs.{start_step}

some_same : {A : Type 0} (x y : A) → Some x ≡ Some y → x ≡ y
some_same x y e = cc

-- an element that is there is found whatever else would be answered
any_default : {A : Type 0} (xs : List A) (i : ℕ) (c d : A) → i < length xs → get_or xs i c ≡ get_or xs i d
any_default xs i c d within = some_same (get_or xs i c) (get_or xs i d) (sym (slice_get-get_or xs i c within) ∙ slice_get-get_or xs i d within)

pub item_before : {A : Type 0} (before now : List A) (i : ℕ) (c d : A) → i < length now → length now ≡ length before → ((k : ℕ) (d : A) → i ≤ k → get_or now k d ≡ get_or before k d) → get_or now i c ≡ get_or before i d
item_before before now i c d within same rest = any_default now i c d within ∙ rest i d (omega arith)

more_cases : {A : Type 0} (R : ℕ → A → A → Type 0) (before now : List A) (i : ℕ) (item new : A) (k : ℕ) (d : A) → (k ≡ i) ⊎ (k < i) → i < length now → item ≡ get_or before i d → (k < i → R k (get_or now k d) (get_or before k d)) → R i new item → R k (get_or (set now i new) k d) (get_or before k d)
more_cases R before now i item new k d (inl e) within is old here =
    subst (λ y. R k (get_or (set now i new) k d) y) (is ∙ ap (λ j. get_or before j d) (sym e)) (subst (λ x. R k x item) (sym (get_or-set_at now i k new d e within)) (subst (λ j. R j new item) (sym e) here))
more_cases R before now i item new k d (inr less) within is old here =
    subst (λ x. R k x (get_or before k d)) (sym (get_or-set_other now i k new d (omega arith))) (old less)

split : (k i : ℕ) → k < i + 1 → (k ≡ i) ⊎ (k < i)
split zero zero less = inl refl
split zero (suc i) less = inr (omega arith)
split (suc k) zero less = absurd (omega arith)
split (suc k) (suc i) less = by (split k i (omega arith))
  where
    by : (k ≡ i) ⊎ (k < i) → (suc k ≡ suc i) ⊎ (suc k < suc i)
    by (inl e) = inl (ap suc e)
    by (inr rest) = inr (omega arith)

pub more : {A : Type 0} (R : ℕ → A → A → Type 0) (before now : List A) (i : ℕ) (c new : A) → i < length now → length now ≡ length before → ((k : ℕ) (d : A) → i ≤ k → get_or now k d ≡ get_or before k d) → ((k : ℕ) (d : A) → k < i → R k (get_or now k d) (get_or before k d)) → R i new (get_or now i c) → (k : ℕ) (d : A) → k < i + 1 → R k (get_or (set now i new) k d) (get_or before k d)
more R before now i c new within same rest old here k d less =
    more_cases R before now i (get_or now i c) new k d (split k i less) within (item_before before now i c d within same rest) (old k d) here

pub unvisited_more : {A : Type 0} (before now : List A) (i : ℕ) (new : A) → length now ≡ length before → ((k : ℕ) (d : A) → i ≤ k → get_or now k d ≡ get_or before k d) → (length (set now i new) ≡ length before) × ((k : ℕ) (d : A) → i + 1 ≤ k → get_or (set now i new) k d ≡ get_or before k d)
unvisited_more before now i new same rest =
    (length-set now i new ∙ same, λ k d later. get_or-set_other now i k new d (omega arith) ∙ rest k d (omega arith))

pub begins_more : {A : Type 0} (nums : A → List ℕ) (first : ℕ) (before now : List A) (i : ℕ) (c : A) (here next : ℕ) → i < length now → length now ≡ length before → ((k : ℕ) (d : A) → i ≤ k → get_or now k d ≡ get_or before k d) → here ≡ start nums first before i → next ≡ past (nums (get_or now i c)) here → next ≡ start nums first before (i + 1)
begins_more nums first before now i c here next within same rest begins step =
    step ∙ (ap (past (nums (get_or now i c))) begins ∙ (ap (λ x. past (nums x) (start nums first before i)) (item_before before now i c c within same rest) ∙ (start_step nums first before i c (omega arith) ∙ ap (start nums first before) (one_more i))))
  where
    one_more : (i : ℕ) → suc i ≡ i + 1
    one_more i = omega arith

-- an element that stays
pub more_kept : {A : Type 0} (R : ℕ → A → A → Type 0) (before now : List A) (i : ℕ) (c : A) → i < length now → length now ≡ length before → ((k : ℕ) (d : A) → i ≤ k → get_or now k d ≡ get_or before k d) → ((k : ℕ) (d : A) → k < i → R k (get_or now k d) (get_or before k d)) → R i (get_or now i c) (get_or now i c) → (k : ℕ) (d : A) → k < i + 1 → R k (get_or now k d) (get_or before k d)
more_kept R before now i c within same rest old here k d less =
    subst (λ xs. R k (get_or xs k d) (get_or before k d)) (set-get_or now i c) (more R before now i c (get_or now i c) within same rest old here k d less)

-- a default that is missing has no numbers
pub no_default : (x : Option Expr) → ((y : Expr) → x ≡ Some y → ⊥) → numbering.maybe_numbers (views.maybe_of (option_map views.view_expr x)) ≡ []
no_default None none = refl
no_default (Some y) none = absurd (none y refl)
