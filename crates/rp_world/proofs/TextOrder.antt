-- The lesser of two texts in the order of their bytes.
use Rattle.std.proofs.Common.{◌≡◌, ℕ, List, Some, chars, nat_cmp, Ordering, Less, Equal, Greater, IsUtf8, refl, sym, ap}
use Rattle.std.specs.Cmp.Lexicographic.{slice_cmp}
use Rattle.std.proofs.lemmas.Str.{encodes-chars}
use Rattle.rp_decl.specs.Order.{lesser_by, lesser_of, text_cmp}

pub text_cmp-bytes : (xs ys : List ℕ) → IsUtf8 xs → IsUtf8 ys → text_cmp (chars xs) (chars ys) ≡ slice_cmp nat_cmp xs ys
text_cmp-bytes xs ys first second = λ k. slice_cmp nat_cmp (encodes-chars xs first k) (encodes-chars ys second k)

pub second-lesser : (x y : List ℕ) → text_cmp x y ≡ Greater → Some y ≡ lesser_of (Some x) (Some y)
second-lesser x y h = ap (λ o. Some (lesser_by o x y)) (sym h)

pub first-lesser : (x y : List ℕ) → (text_cmp x y ≡ Greater → ⊥) → Some x ≡ lesser_of (Some x) (Some y)
first-lesser x y apart = by (text_cmp x y) apart
  where
    by : (o : Ordering) → (o ≡ Greater → ⊥) → Some x ≡ Some (lesser_by o x y)
    by Less apart = refl
    by Equal apart = refl
    by Greater apart = absurd (apart refl)
