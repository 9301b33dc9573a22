-- The last of a list, seen from its end.
use Rattle.std.proofs.Common.{◌≡◌, ℕ, ◌+◌, ◌-◌, ◌≤◌, List, [], ◌∷◌, ◌++◌, drop, get_or, reverse, take, length, sym, ap, ◌∙◌, arith}
use Rattle.rp_base.specs.declared.value.Value.{Value}
use Rattle.rp_frame.specs.Top.{top}
use Rattle.std.proofs.lemmas.List.{drop_all, drop_at, take_all, take_more, take_at, reverse-append, reverse-reverse, take-append-drop, length-drop, length-reverse}

module _ {A : Type 0} (n : ℕ) (xs : List A) where
  split : xs ≡ reverse (drop n (reverse xs)) ++ reverse (take n (reverse xs))
  split = sym (reverse-reverse xs) ∙ ap reverse (sym (take-append-drop n (reverse xs))) ∙ reverse-append (take n (reverse xs)) (drop n (reverse xs))

  size : length (reverse (drop n (reverse xs))) ≡ length xs - n
  size = length-reverse (drop n (reverse xs)) ∙ length-drop n (reverse xs) ∙ ap (λ k. k - n) (length-reverse xs)

  pub taken : (at : ℕ) → at ≡ length xs - n → drop at xs ≡ reverse (take n (reverse xs))
  taken at e = ap (drop at) split ∙ drop_at (reverse (drop n (reverse xs))) (reverse (take n (reverse xs))) at (size ∙ sym e)

  pub left : (at : ℕ) → at ≡ length xs - n → reverse (take at xs) ≡ drop n (reverse xs)
  left at e =
      ap reverse (ap (take at) split ∙ take_at (reverse (drop n (reverse xs))) (reverse (take n (reverse xs))) at (size ∙ sym e)) ∙ reverse-reverse (drop n (reverse xs))

pub none_under : (n : ℕ) (xs : List Value) → length xs ≤ n → drop n (reverse xs) ≡ []
none_under n xs few = drop_all n (reverse xs) (omega (arith, length-reverse xs))

pub one_under : (n at : ℕ) (xs : List Value) (v : Value) → at + n + 1 ≡ length xs → v ≡ get_or xs at v → v ≡ top (drop n (reverse xs))
one_under n at xs v place is =
    is ∙ ap top (sym (ap reverse (take_more xs at v (omega arith)) ∙ reverse-append (take at xs) (get_or xs at v ∷ [])))
    ∙ ap top (left n xs (at + 1) (omega arith))

pub last_taken : (n at : ℕ) (xs us : List Value) → at ≡ length xs - n → us ≡ take (length xs - at) (drop at xs) → us ≡ reverse (take n (reverse xs))
last_taken n at xs us place is = is ∙ take_all (length xs - at) (drop at xs) (omega (arith, length-drop at xs)) ∙ taken n xs at place
