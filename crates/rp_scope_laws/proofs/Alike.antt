-- A function on names under which names at hand are the same exactly where they were: what is made of such names by their equality is made of the others.
use Rattle.std.proofs.Common.{◌≡◌, ℕ, zero, suc, ◌+◌, Bool, true, false, not, cond, ◌||◌, List, [], ◌∷◌, map, length, nat_lt, Option, Some, None, refl, ap, ◌∙◌}
use Rattle.std.specs.List.{All, filter, list_any, position, position_or_len}
use Rattle.std.proofs.lemmas.List.{length-map}
use Rattle.std.proofs.lemmas.List.Elements.{All-cons, All-filter, All-head, All-tail}
use Rattle.rp_scope.specs.Bindings.{Block, once, local_names}
use Rattle.rp_scope.specs.Blocks.{Nest}
use Rattle.rp_scope.specs.Places.{place_from, place_in}
use Rattle.rp_scope.specs.declared.place.Place2.TheVariants.{Global}

-- a code block with other names
abbrev pub map_block : {A B : Type 0} → (A → B) → Block A → Block B
map_block f b = record { names = map f b.names; globals = map f b.globals }

abbrev pub IsBlockOf : {A : Type 0} → (A → Type 0) → Block A → Type 0
IsBlockOf P b = All P b.names × All P b.globals

module _ {A B : Type 0} (f : A → B) (same : A → A → Bool) (other : B → B → Bool) (P : A → Type 0) (alike : (x y : A) → P x → P y → other (f x) (f y) ≡ same x y) where
  any_alike : (x : A) (ys : List A) → P x → All P ys → list_any (other (f x)) (map f ys) ≡ list_any (same x) ys
  any_alike x [] px pys = refl
  any_alike x (y ∷ ys) px pys =
      let first = alike x y px (All-head P y ys pys) in
      let rest = any_alike x ys px (All-tail P y ys pys) in
      λ i. first i || rest i

  filter_alike : (p : A → Bool) (q : B → Bool) (ys : List A) → ((y : A) → P y → q (f y) ≡ p y) → All P ys → filter q (map f ys) ≡ map f (filter p ys)
  filter_alike p q [] each h = refl
  filter_alike p q (y ∷ ys) each h =
      let first = each y (All-head P y ys h) in
      let rest = filter_alike p q ys each (All-tail P y ys h) in
      (λ i. cond (first i) (f y ∷ rest i) (rest i)) ∙ by (p y)
    where
      by : (b : Bool) → cond b (f y ∷ map f (filter p ys)) (map f (filter p ys)) ≡ map f (cond b (y ∷ filter p ys) (filter p ys))
      by true = refl
      by false = refl

  once_held : (xs : List A) → All P xs → All P (once same xs)
  once_held [] h = h
  once_held (x ∷ xs) h =
      All-cons P x (filter (λ y. not (same x y)) (once same xs)) (All-head P x xs h) (All-filter (λ y. not (same x y)) P (once same xs) (once_held xs (All-tail P x xs h)))

  pub once_alike : (xs : List A) → All P xs → once other (map f xs) ≡ map f (once same xs)
  once_alike [] h = refl
  once_alike (x ∷ xs) h =
      let rest = once_alike xs (All-tail P x xs h) in
      let kept = filter_alike (λ y. not (same x y)) (λ z. not (other (f x) z)) (once same xs) (λ y py. ap not (alike x y (All-head P x xs h) py)) (once_held xs (All-tail P x xs h)) in
      ap (λ zs. f x ∷ filter (λ z. not (other (f x) z)) zs) rest ∙ ap (λ zs. f x ∷ zs) kept

  position_or_len_alike : (x : A) (ys : List A) → P x → All P ys → position_or_len (other (f x)) (map f ys) ≡ position_or_len (same x) ys
  position_or_len_alike x [] px h = refl
  position_or_len_alike x (y ∷ ys) px h =
      let first = alike x y px (All-head P y ys h) in
      let rest = position_or_len_alike x ys px (All-tail P y ys h) in
      λ i. cond (not (first i)) (1 + rest i) 0

  position_alike : (x : A) (ys : List A) → P x → All P ys → position (other (f x)) (map f ys) ≡ position (same x) ys
  position_alike x ys px h =
      let place = position_or_len_alike x ys px h in
      let as_many : length (map f ys) ≡ length ys = length-map ys f in
      λ i. cond (nat_lt (place i) (as_many i)) (Some (place i)) None

  local_names_held : (b : Block A) → IsBlockOf P b → All P (local_names same b)
  local_names_held b h =
      once_held (filter (λ x. not (list_any (same x) b.globals)) b.names) (All-filter (λ x. not (list_any (same x) b.globals)) P b.names h.0)

  pub local_names_alike : (b : Block A) → IsBlockOf P b → local_names other (map_block f b) ≡ map f (local_names same b)
  local_names_alike b h =
      let kept = filter_alike (λ x. not (list_any (same x) b.globals)) (λ y. not (list_any (other y) (map f b.globals))) b.names (λ x px. ap not (any_alike x b.globals px h.1)) h.0 in
      ap (once other) kept ∙ once_alike (filter (λ x. not (list_any (same x) b.globals)) b.names) (All-filter (λ x. not (list_any (same x) b.globals)) P b.names h.0)

  pub place_from_alike : (n : ℕ) (nest : Nest A) (x : A) → P x → All (IsBlockOf P) nest → place_from other n (map (map_block f) nest) (f x) ≡ place_from same n nest x
  place_from_alike n [] x px h = refl
  place_from_alike n (b ∷ around) x px h =
      let held = All-head (IsBlockOf P) b around h in
      let listed = any_alike x b.globals px held.1 in
      let found = ap (position (other (f x))) (local_names_alike b held) ∙ position_alike x (local_names same b) px (local_names_held b held) in
      let rest = place_from_alike (suc n) around x px (All-tail (IsBlockOf P) b around h) in
      λ i. place_in (listed i) (found i) n (rest i)
