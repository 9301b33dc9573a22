-- The least of the texts of two lists, and of members.
use Rattle.std.proofs.Common.{◌≡◌, ℕ, Bool, true, false, cond, List, [], ◌∷◌, ◌++◌, Option, Some, None, Ordering, Less, Equal, Greater, encode_utf8_all, is_gt, refl, sym, ap, ◌∙◌}
use Rattle.std.specs.Cmp.{IsTotalOrder}
use Rattle.std.proofs.lemmas.Cmp.{nat_list_cmp_total, on_total, upto}
use Rattle.std.proofs.lemmas.Bool.{true≢false}
use Rattle.rp_decl.specs.Order.{text_cmp, lesser, lesser_by, lesser_of, least}

pub text_cmp_total : IsTotalOrder text_cmp
text_cmp_total = on_total encode_utf8_all nat_list_cmp_total

lesser-by : (o : Ordering) (x y : List ℕ) → lesser_by o x y ≡ cond (is_gt o) y x
lesser-by Less x y = refl
lesser-by Equal x y = refl
lesser-by Greater x y = refl

lesser-cond : (x y : List ℕ) → lesser x y ≡ cond (is_gt (text_cmp x y)) y x
lesser-cond x y = lesser-by (text_cmp x y) x y

first-lesser : (x y : List ℕ) → is_gt (text_cmp x y) ≡ false → lesser x y ≡ x
first-lesser x y h = rw (lesser-cond x y, h) refl

second-lesser : (x y : List ℕ) → is_gt (text_cmp x y) ≡ true → lesser x y ≡ y
second-lesser x y h = rw (lesser-cond x y, h) refl

lt_flip : (o : Ordering) → is_gt o ≡ true → o ≡ Greater
lt_flip Less h = cc
lt_flip Equal h = cc
lt_flip Greater h = refl

-- what comes after another comes not before it
not_back : (x y : List ℕ) → is_gt (text_cmp x y) ≡ true → is_gt (text_cmp y x) ≡ false
not_back x y h = rw (text_cmp_total.antisymm y x, lt_flip (text_cmp x y) h) refl

lesser_assoc : (x y z : List ℕ) → lesser x (lesser y z) ≡ lesser (lesser x y) z
lesser_assoc x y z = by (is_gt (text_cmp x y)) (is_gt (text_cmp y z)) refl refl
  where
    below : (b : Bool) → is_gt (text_cmp x y) ≡ true → is_gt (text_cmp y z) ≡ true → is_gt (text_cmp x z) ≡ b → is_gt (text_cmp x z) ≡ true
    below true p q r = r
    below false p q r = absurd (true≢false (sym p ∙ upto text_cmp_total x z y r (not_back y z q)))

    by : (a b : Bool) → is_gt (text_cmp x y) ≡ a → is_gt (text_cmp y z) ≡ b → lesser x (lesser y z) ≡ lesser (lesser x y) z
    by false false p q = rw (first-lesser y z q, first-lesser x y p, first-lesser x z (upto text_cmp_total x y z p q)) refl
    by false true p q = rw (second-lesser y z q, first-lesser x y p) refl
    by true false p q = rw (first-lesser y z q, second-lesser x y p) (sym (first-lesser y z q))
    by true true p q = rw (second-lesser y z q, second-lesser x y p, second-lesser y z q) (second-lesser x z (below (is_gt (text_cmp x z)) p q refl))

pub lesser_of-none : (a : Option (List ℕ)) → lesser_of a None ≡ a
lesser_of-none None = refl
lesser_of-none (Some x) = refl

pub lesser_of_assoc : (a b c : Option (List ℕ)) → lesser_of (lesser_of a b) c ≡ lesser_of a (lesser_of b c)
lesser_of_assoc None b c = refl
lesser_of_assoc (Some x) None c = refl
lesser_of_assoc (Some x) (Some y) None = refl
lesser_of_assoc (Some x) (Some y) (Some z) = ap Some (sym (lesser_assoc x y z))

pub least-append : (xs ys : List (List ℕ)) → least (xs ++ ys) ≡ lesser_of (least xs) (least ys)
least-append [] ys = refl
least-append (x ∷ xs) ys = ap (lesser_of (Some x)) (least-append xs ys) ∙ sym (lesser_of_assoc (Some x) (least xs) (least ys))

-- a loop's step: what was the least so far, and the least of what comes next, against the rest
pub least-step : (found : Option (List ℕ)) (here rest : List (List ℕ)) → lesser_of found (least (here ++ rest)) ≡ lesser_of (lesser_of found (least here)) (least rest)
least-step found here rest = ap (lesser_of found) (least-append here rest) ∙ sym (lesser_of_assoc found (least here) (least rest))
