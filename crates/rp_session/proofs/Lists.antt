-- Lists of which one element after another is taken.
use Rattle.std.proofs.Common.{◌≡◌, ℕ, ◌+◌, ◌<◌, List, [], ◌∷◌, ◌++◌, map, length, drop, take, get_or, append_assoc, sym, ap, subst, ◌∙◌}
use Rattle.std.specs.List.{AllZip}
use Rattle.std.proofs.lemmas.List.{append-nil, drop_more, map_push, take_more}

module _ {X : Type 0} where
  pub one-yielded : (yielded all rest whole : List X) (x : X) → all ≡ x ∷ rest → yielded ++ all ≡ whole → (yielded ++ x ∷ []) ++ rest ≡ whole
  one-yielded yielded all rest whole x e before = append_assoc yielded (x ∷ []) rest ∙ ap (λ xs. yielded ++ xs) (sym e) ∙ before

  pub all-yielded : (yielded rest whole : List X) → rest ≡ [] → yielded ++ rest ≡ whole → yielded ≡ whole
  all-yielded yielded rest whole none before = sym (append-nil yielded) ∙ ap (λ xs. yielded ++ xs) (sym none) ∙ before

  -- the element at a place, and those behind it
  pub drop-turn : (all : List X) (i : ℕ) (x : X) → i < length all → x ≡ get_or all i x → drop i all ≡ x ∷ drop (i + 1) all
  drop-turn all i x inside is = drop_more all i x inside ∙ ap (λ (y : X). y ∷ drop (i + 1) all) (sym is)

module _ {X Y : Type 0} where
  zip-more : (R : X → Y → Type 0) (xs : List X) (ys : List Y) (x : X) (y : Y) → AllZip R xs ys → R x y → AllZip R (xs ++ x ∷ []) (ys ++ y ∷ [])
  zip-more R [] [] x y h r = (r, tt)
  zip-more R [] (b ∷ ys) x y h r = absurd h
  zip-more R (a ∷ xs) [] x y h r = absurd h
  zip-more R (a ∷ xs) (b ∷ ys) x y h r = (h.0, zip-more R xs ys x y h.1 r)

  -- one more on both sides
  pub zip-last : (R : X → Y → Type 0) (xs more_xs : List X) (ys more_ys : List Y) (x : X) (y : Y) → more_xs ≡ xs ++ x ∷ [] → more_ys ≡ ys ++ y ∷ [] → AllZip R xs ys → R x y
      → AllZip R more_xs more_ys
  zip-last R xs more_xs ys more_ys x y is are h r =
      subst (λ (vs : List X). AllZip R vs more_ys) (sym is) (subst (λ (zs : List Y). AllZip R (xs ++ x ∷ []) zs) (sym are) (zip-more R xs ys x y h r))

  -- the element that is taken stands for the one that is put last
  pub zip-push : {A : Type 0} (R : X → Y → Type 0) (f : A → X) (taken : List A) (ys zs : List Y) (a : A) (y : Y) → zs ≡ ys ++ y ∷ [] → AllZip R (map f taken) ys → R (f a) y
      → AllZip R (map f (taken ++ a ∷ [])) zs
  zip-push R f taken ys zs a y pushed h r =
      subst (λ (zs : List Y). AllZip R (map f (taken ++ a ∷ [])) zs) (sym pushed)
      (subst (λ (xs : List X). AllZip R xs (ys ++ y ∷ [])) (sym (map_push f taken a)) (zip-more R (map f taken) ys (f a) y h r))

  -- the same where the elements are taken by their places
  pub zip-turn : {A : Type 0} (R : X → Y → Type 0) (f : A → X) (all : List A) (i : ℕ) (a : A) (ys zs : List Y) (y : Y) → i < length all → a ≡ get_or all i a → zs ≡ ys ++ y ∷ []
      → AllZip R (map f (take i all)) ys → R (f a) y → AllZip R (map f (take (i + 1) all)) zs
  zip-turn {A = A} R f all i a ys zs y inside is pushed h r =
      subst (λ (taken : List A). AllZip R (map f taken) zs) (sym (take_more all i a inside))
      (zip-push R f (take i all) ys zs (get_or all i a) y pushed h (subst (λ (b : A). R (f b) y) is r))

  -- what is put last shows the element that is taken
  pub shown-turn : (f : Y → X) (all : List X) (i : ℕ) (x : X) (ys zs : List Y) (y : Y) → i < length all → x ≡ get_or all i x → zs ≡ ys ++ y ∷ [] → map f ys ≡ take i all → f y ≡ x
      → map f zs ≡ take (i + 1) all
  shown-turn f all i x ys zs y inside is pushed shown same =
      ap (map f) pushed ∙ map_push f ys y ∙ (λ k. shown k ++ (same ∙ is) k ∷ []) ∙ sym (take_more all i x inside)

  pub map-push : (f : X → Y) (xs : List X) (ys zs : List Y) (x : X) → zs ≡ ys ++ f x ∷ [] → ys ≡ map f xs → zs ≡ map f (xs ++ x ∷ [])
  map-push f xs ys zs x pushed h = pushed ∙ ap (λ (ys : List Y). ys ++ f x ∷ []) h ∙ sym (map_push f xs x)
