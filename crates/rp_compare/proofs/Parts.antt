-- Texts by their bytes: their order, and one as a part of another.
use Rattle.std.proofs.Common.{◌≡◌, ℕ, ◌==◌, Bool, true, ◌⊎◌, inl, inr, ◌↔◌, List, [], ◌∷◌, ◌++◌, chars, encode_utf8_all, eq-eqb, refl, sym, ap, ◌∙◌, arith, is_lt, nat_cmp}
use Rattle.std.specs.Cmp.Lexicographic.{slice_cmp}
use Rattle.std.specs.Str.{IsUtf8}
use Rattle.std.specs.Str.Iter.{HasSubslice}
use Rattle.std.proofs.lemmas.Bool.{and_from, and_parts, eqb-true, or_cases, or_left, or_right}
use Rattle.std.proofs.lemmas.Bool.Decides.{nat_tests}
use Rattle.std.proofs.lemmas.Cmp.{same_from_slice_cmp}
use Rattle.std.proofs.lemmas.Str.{encodes-chars}
use Rattle.rp_compare.specs.Membership.{begins, is_part, is_text_part}
use Rattle.rp_compare.specs.Order.{list_less}
use Rattle.rp_base.proofs.CallerLemmas.{same_truth}

-- the order that is tested is the lexicographic one
pub list_less-cmp : (xs ys : List ℕ) → is_lt (slice_cmp nat_cmp xs ys) ≡ list_less xs ys
list_less-cmp xs ys = same_from_slice_cmp nat_cmp is_lt list_less refl (λ _ _. refl) (λ _ _. refl) (λ x y xs ys o h. grind (arith, nat_tests)) xs ys (slice_cmp nat_cmp xs ys) refl

pub begins-rest : (xs ys : List ℕ) → begins xs ys ≡ true → (rest : List ℕ) × (ys ≡ xs ++ rest)
begins-rest [] ys e = (ys, refl)
begins-rest (x ∷ xs) [] e = absurd (cc)
begins-rest (x ∷ xs) (y ∷ ys) e =
    let parts = and_parts (x == y) (begins xs ys) e in
    let after = begins-rest xs ys parts.1 in
    (after.0, ap (λ z. z ∷ ys) (sym (eqb-true x y parts.0)) ∙ ap (λ l. x ∷ l) after.1)

pub begins-front : (xs rest : List ℕ) → begins xs (xs ++ rest) ≡ true
begins-front [] rest = refl
begins-front (x ∷ xs) rest = and_from (x == x) (begins xs (xs ++ rest)) (eq-eqb x x refl) (begins-front xs rest)

part-stands : (xs ys : List ℕ) → is_part xs ys ≡ true → HasSubslice ys xs
part-stands xs [] e = let front = begins-rest xs [] e in ([], front.0, front.1)
part-stands xs (y ∷ ys) e = by_case (part-stands xs ys) (or_cases (begins xs (y ∷ ys)) (is_part xs ys) e) where
  by_case : (is_part xs ys ≡ true → HasSubslice ys xs) → (begins xs (y ∷ ys) ≡ true) ⊎ (is_part xs ys ≡ true) → HasSubslice (y ∷ ys) xs
  by_case stands (inl h) = let front = begins-rest xs (y ∷ ys) h in ([], front.0, front.1)
  by_case stands (inr h) = let later = stands h in (y ∷ later.0, later.1, ap (λ l. y ∷ l) later.2)

front-part : (xs ys rest : List ℕ) → ys ≡ xs ++ rest → is_part xs ys ≡ true
front-part xs [] rest e = ap (begins xs) e ∙ begins-front xs rest
front-part xs (y ∷ ys) rest e = or_left (begins xs (y ∷ ys)) (is_part xs ys) (ap (begins xs) e ∙ begins-front xs rest)

stands-part : (front xs rest : List ℕ) → is_part xs (front ++ (xs ++ rest)) ≡ true
stands-part [] xs rest = front-part xs (xs ++ rest) rest refl
stands-part (y ∷ ys) xs rest = or_right (begins xs (y ∷ (ys ++ (xs ++ rest)))) (is_part xs (ys ++ (xs ++ rest))) (stands-part ys xs rest)

-- what is answered of the bytes, where it says just whether they stand in the others
pub part-answer : (r : Bool) (xs ys : List ℕ) → (r ≡ true) ↔ HasSubslice ys xs → r ≡ is_part xs ys
part-answer r xs ys same =
    same_truth r (is_part xs ys) (λ e. let at = same.0 e in ap (is_part xs) at.2 ∙ stands-part at.0 xs at.1) (λ e. same.1 (part-stands xs ys e))

-- the same of texts
pub text_part-answer : (r : Bool) (part text : List ℕ) (xs ys : List ℕ) → IsUtf8 xs → IsUtf8 ys → chars xs ≡ part → chars ys ≡ text → r ≡ is_part xs ys → r ≡ is_text_part part text
text_part-answer r part text xs ys first second seen whole e =
    e ∙ ap (λ l. is_part l ys) (sym (encodes-chars xs first) ∙ ap encode_utf8_all seen) ∙ ap (is_part (encode_utf8_all part)) (sym (encodes-chars ys second) ∙ ap encode_utf8_all whole)
