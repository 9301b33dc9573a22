-- A list has one stable order: two lists that ascend, and in which what ties stands in the same order, are the same.
use Rattle.std.proofs.Common.{◌≡◌, ℕ, suc, ◌+◌, Bool, true, false, not, ◌&&◌, cond, List, [], ◌∷◌, get_or, if◌then◌else◌, refl, sym, ap, subst, ◌∙◌, arith}
use Rattle.std.specs.Cmp.{IsStrictWeakOrder}
use Rattle.std.specs.List.{filter, list_all}
use Rattle.std.specs.List.Sorted.{IsSortedBy, IsStableBy, ties}
use Rattle.rp_native.specs.Sorted.{in_order, placed}

neither : (a b : Bool) → not a && not b ≡ true → (a ≡ false) × (b ≡ false)
neither true b h = absurd (cc)
neither false true h = absurd (cc)
neither false false h = (refl, refl)

both : (a b : Bool) → a ≡ false → b ≡ false → not a && not b ≡ true
both true b h g = absurd (cc)
both false true h g = absurd (cc)
both false false h g = refl

module _ {A : Type 0} (less : A → A → Bool) (order : IsStrictWeakOrder less) where
  -- none is less
  abbrev Least : A → List A → Type 0
  Least x [] = Unit {0}
  Least x (y ∷ ys) = (less y x ≡ false) × Least x ys

  abbrev Ascends : List A → Type 0
  Ascends [] = Unit {0}
  Ascends (x ∷ xs) = Least x xs × Ascends xs

  itself : (x : A) → less x x ≡ false
  itself x = by (less x x) refl where
    by : (b : Bool) → less x x ≡ b → less x x ≡ false
    by true e = order.one_way x x e
    by false e = e

  ties-itself : (x : A) → ties less x x ≡ true
  ties-itself x = both (less x x) (less x x) (itself x) (itself x)

  Least-below : (x y : A) (ys : List A) → less y x ≡ false → Least y ys → Least x ys
  Least-below x y [] h g = tt
  Least-below x y (z ∷ zs) h g = (order.chain z y x g.0 h, Least-below x y zs h g.1)

  -- what a sort ensures of neighbours
  ascends : (xs : List A) → IsSortedBy less xs → Ascends xs
  ascends [] h = tt
  ascends (x ∷ []) h = (tt, tt)
  ascends (x ∷ y ∷ ys) h =
      let next : less y x ≡ false = h 0 x (omega arith) (omega arith) in
      let rest = ascends (y ∷ ys) (λ k d low high.
      let one : suc k + 1 ≡ suc (k + 1) = omega arith in
      subst (λ (m : ℕ). less (get_or (x ∷ y ∷ ys) m d) (get_or (x ∷ y ∷ ys) (suc k) d) ≡ false) one (h (suc k) d (omega arith) (omega arith))) in
      ((next, Least-below x y ys next rest.0), rest)

  -- a filter at its first element
  kept : (p : A → Bool) (x : A) (xs : List A) → p x ≡ true → filter p (x ∷ xs) ≡ x ∷ filter p xs
  kept p x xs h = ap (λ (b : Bool). cond b (x ∷ filter p xs) (filter p xs)) h

  dropped : (p : A → Bool) (x : A) (xs : List A) → p x ≡ false → filter p (x ∷ xs) ≡ filter p xs
  dropped p x xs h = ap (λ (b : Bool). cond b (x ∷ filter p xs) (filter p xs)) h

  first-of : (x y : A) (xs ys : List A) → x ∷ xs ≡ y ∷ ys → x ≡ y
  first-of x y xs ys e = cc

  rest-of : (x y : A) (xs ys : List A) → x ∷ xs ≡ y ∷ ys → xs ≡ ys
  rest-of x y xs ys e = cc

  -- what a filter keeps is not less than the first
  reached : (x y : A) (p : A → Bool) (ys rest : List A) → filter p ys ≡ y ∷ rest → Least x ys → less y x ≡ false
  reached x y p [] rest e h = absurd (cc)
  reached x y p (z ∷ zs) rest e h = by (p z) refl (λ k. reached x y p zs rest k h.1) where
    by : (b : Bool) → p z ≡ b → (filter p zs ≡ y ∷ rest → less y x ≡ false) → less y x ≡ false
    by true is further = subst (λ (w : A). less w x ≡ false) (first-of z y (filter p zs) rest (sym (kept p z zs is) ∙ e)) h.0
    by false is further = further (sym (dropped p z zs is) ∙ e)

  abbrev SameTies : List A → List A → Type 0
  SameTies ys zs = (x : A) → filter (ties less x) ys ≡ filter (ties less x) zs

  -- the first of one is not less than the first of the other
  not-less : (y z : A) (ys zs : List A) → SameTies (y ∷ ys) (z ∷ zs) → Least z zs → less y z ≡ false
  not-less y z ys zs same least =
      reached z y (ties less y) (z ∷ zs) (filter (ties less y) ys) (sym (same y) ∙ kept (ties less y) y ys (ties-itself y)) (itself z, least)

  same-rest : (y : A) (ys zs : List A) → SameTies (y ∷ ys) (y ∷ zs) → SameTies ys zs
  same-rest y ys zs same x = by (ties less x y) refl where
    by : (b : Bool) → ties less x y ≡ b → filter (ties less x) ys ≡ filter (ties less x) zs
    by true is =
        rest-of y y (filter (ties less x) ys) (filter (ties less x) zs) (sym (kept (ties less x) y ys is) ∙ same x ∙ kept (ties less x) y zs is)
    by false is = sym (dropped (ties less x) y ys is) ∙ same x ∙ dropped (ties less x) y zs is

  same-first : (y z : A) (ys zs : List A) → SameTies (y ∷ ys) (z ∷ zs) → Least y ys → Least z zs → y ≡ z
  same-first y z ys zs same low least =
      let tied : ties less y z ≡ true =
      both (less y z) (less z y) (not-less y z ys zs same least) (not-less z y zs ys (λ x. sym (same x)) low) in
      first-of y z (filter (ties less y) ys) (filter (ties less y) zs)
      (sym (kept (ties less y) y ys (ties-itself y)) ∙ same y ∙ kept (ties less y) z zs tied)

  one-order : (ys zs : List A) → Ascends ys → Ascends zs → SameTies ys zs → ys ≡ zs
  one-order [] [] up above same = refl
  one-order [] (z ∷ zs) up above same =
      let some : [] ≡ z ∷ filter (ties less z) zs = same z ∙ kept (ties less z) z zs (ties-itself z) in
      absurd (cc)
  one-order (y ∷ ys) [] up above same =
      let some : [] ≡ y ∷ filter (ties less y) ys = sym (same y) ∙ kept (ties less y) y ys (ties-itself y) in
      absurd (cc)
  one-order (y ∷ ys) (z ∷ zs) up above same =
      let e : y ≡ z = same-first y z ys zs same up.0 above.0 in
      let rest : ys ≡ zs =
      one-order ys zs up.1 above.1 (same-rest y ys zs (subst (λ (w : A). SameTies (y ∷ ys) (w ∷ zs)) (sym e) same)) in
      ap (λ (w : A). w ∷ ys) e ∙ ap (λ (l : List A). z ∷ l) rest

  -- ---- what is put in order ascends, and what ties keeps its order

  Least-placed : (x v : A) (ws : List A) → less v x ≡ false → Least x ws → Least x (placed less v ws)
  Least-placed x v [] h g = (h, tt)
  Least-placed x v (w ∷ ws) h g = by (less w v) (Least-placed x v ws h g.1) where
    by : (b : Bool) → Least x (placed less v ws) → Least x (if b then w ∷ placed less v ws else v ∷ w ∷ ws)
    by true rest = (g.0, rest)
    by false rest = (h, g)

  Ascends-placed : (v : A) (ws : List A) → Ascends ws → Ascends (placed less v ws)
  Ascends-placed v [] h = (tt, tt)
  Ascends-placed v (w ∷ ws) h = by (less w v) refl (Ascends-placed v ws h.1) where
    by : (b : Bool) → less w v ≡ b → Ascends (placed less v ws) → Ascends (if b then w ∷ placed less v ws else v ∷ w ∷ ws)
    by true is rest = (Least-placed w v ws (order.one_way w v is) h.0, rest)
    by false is rest = ((is, Least-below v w ws is h.0), h)

  Ascends-in_order : (vs : List A) → Ascends (in_order less vs)
  Ascends-in_order [] = tt
  Ascends-in_order (v ∷ vs) = Ascends-placed v (in_order less vs) (Ascends-in_order vs)

  apart : (x v w : A) → less w v ≡ true → ties less x w ≡ true → ties less x v ≡ true → ⊥
  apart x v w h p q =
      let left = neither (less x w) (less w x) p in
      let right = neither (less x v) (less v x) q in
      let other : less w v ≡ false = order.chain w x v left.1 right.0 in
      absurd (cc)

  swapped : (p : A → Bool) (v w : A) (ws : List A) → (p w ≡ true → p v ≡ true → ⊥) → filter p (w ∷ v ∷ ws) ≡ filter p (v ∷ w ∷ ws)
  swapped p v w ws h = by (p v) (p w) h where
    by : (a b : Bool) → (b ≡ true → a ≡ true → ⊥)
        → cond b (w ∷ cond a (v ∷ filter p ws) (filter p ws)) (cond a (v ∷ filter p ws) (filter p ws))
        ≡ cond a (v ∷ cond b (w ∷ filter p ws) (filter p ws)) (cond b (w ∷ filter p ws) (filter p ws))
    by true true h = absurd (h refl refl)
    by true false h = refl
    by false b h = refl

  SameTies-placed : (x v : A) (ws : List A) → filter (ties less x) (placed less v ws) ≡ filter (ties less x) (v ∷ ws)
  SameTies-placed x v [] = refl
  SameTies-placed x v (w ∷ ws) = by (less w v) refl (SameTies-placed x v ws) where
    by : (b : Bool) → less w v ≡ b → filter (ties less x) (placed less v ws) ≡ filter (ties less x) (v ∷ ws)
        → filter (ties less x) (if b then w ∷ placed less v ws else v ∷ w ∷ ws) ≡ filter (ties less x) (v ∷ w ∷ ws)
    by true is rest = ap (λ (l : List A). cond (ties less x w) (w ∷ l) l) rest ∙ swapped (ties less x) v w ws (apart x v w is)
    by false is rest = refl

  SameTies-in_order : (x : A) (vs : List A) → filter (ties less x) (in_order less vs) ≡ filter (ties less x) vs
  SameTies-in_order x [] = refl
  SameTies-in_order x (v ∷ vs) =
      SameTies-placed x v (in_order less vs) ∙ ap (λ (l : List A). cond (ties less x v) (v ∷ l) l) (SameTies-in_order x vs)

  -- a stable sort puts in order
  pub stably-sorted : (xs ys : List A) → IsSortedBy less ys → IsStableBy less xs ys → ys ≡ in_order less xs
  stably-sorted xs ys up stable =
      one-order ys (in_order less xs) (ascends ys up) (Ascends-in_order xs) (λ x. stable x ∙ sym (SameTies-in_order x xs))

-- ---- two orders that agree on the values of a kind

module _ {A : Type 0} (less other : A → A → Bool) (is : A → Bool) (agree : (v w : A) → is v ≡ true → is w ≡ true → less v w ≡ other v w) where
  split : (a b : Bool) → a && b ≡ true → (a ≡ true) × (b ≡ true)
  split true b h = (refl, h)
  split false b h = absurd (cc)

  placed-are : (v : A) (ws : List A) → is v ≡ true → list_all is ws ≡ true → list_all is (placed less v ws) ≡ true
  placed-are v [] h hs = ap (λ (b : Bool). b && true) h
  placed-are v (w ∷ ws) h hs =
      let parts = split (is w) (list_all is ws) hs in
      by (less w v) parts.0 (placed-are v ws h parts.1)
    where
      by : (b : Bool) → is w ≡ true → list_all is (placed less v ws) ≡ true → list_all is (if b then w ∷ placed less v ws else v ∷ w ∷ ws) ≡ true
      by true first rest = ap (λ (b : Bool). b && list_all is (placed less v ws)) first ∙ rest
      by false first rest = ap (λ (b : Bool). b && list_all is (w ∷ ws)) h ∙ hs

  placed-same : (v : A) (ws : List A) → is v ≡ true → list_all is ws ≡ true → placed less v ws ≡ placed other v ws
  placed-same v [] h hs = refl
  placed-same v (w ∷ ws) h hs =
      let parts = split (is w) (list_all is ws) hs in
      ap (λ (b : Bool). if b then w ∷ placed less v ws else v ∷ w ∷ ws) (agree w v parts.0 h)
      ∙ ap (λ (l : List A). if other w v then w ∷ l else v ∷ w ∷ ws) (placed-same v ws h parts.1)

  in_order-are : (vs : List A) → list_all is vs ≡ true → list_all is (in_order less vs) ≡ true
  in_order-are [] hs = refl
  in_order-are (v ∷ vs) hs =
      let parts = split (is v) (list_all is vs) hs in
      placed-are v (in_order less vs) parts.0 (in_order-are vs parts.1)

  pub in_order-same : (vs : List A) → list_all is vs ≡ true → in_order less vs ≡ in_order other vs
  in_order-same [] hs = refl
  in_order-same (v ∷ vs) hs =
      let parts = split (is v) (list_all is vs) hs in
      placed-same v (in_order less vs) parts.0 (in_order-are vs parts.1)
      ∙ ap (λ (l : List A). placed other v l) (in_order-same vs parts.1)
