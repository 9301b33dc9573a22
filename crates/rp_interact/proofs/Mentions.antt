-- What stands at a place once its reason was lowered by some mentions: the first of them.
use Rattle.std.proofs.Common.{◌≡◌, refl, sym, ap, ◌∙◌, ℕ, zero, suc, ◌+◌, ◌<◌, ◌⊎◌, inl, inr, Bool, true, false, true≢false, cond, ◌||◌, List, [], ◌∷◌, ◌++◌, drop, length, get_or, set, Some, arith, nat_eq, nat_lt, eq-eqb}
use Rattle.std.specs.List.{slice_get}
use Rattle.std.proofs.lemmas.Bool.Decides.{nat_tests}
use Rattle.std.proofs.lemmas.Bool.{lt-ltb}
use Rattle.std.proofs.lemmas.List.{drop_more, get_or-set_other, get_or-set_same, length-set}
use Rattle.rp_decl.specs.declared.records.Perm.{Perm}
use Rattle.rp_interact.specs.Granted.{is_in}
use Rattle.rp_interact.specs.ReasonsSteps.{Mention, each, first_of, goes_before, granting, is_lower, lowered, lowered_at, rank}
use Rattle.rp_interact.specs.declared.reason.Reason.{Reason}
use Rattle.rp_interact.specs.declared.reason.Reason.TheVariants.{Public, Own, Role, Group, GroupRole, Nothing}
use Rattle.rp_interact.proofs.Keeping.{one_place}
use Rattle.std.proofs.Math.Bool.{or-true}

-- the first reason does not come after the second
abbrev pub IsAtMost : Reason → Reason → Type 0
IsAtMost a b = goes_before b a ≡ false

lower-trans : (a0 a1 a2 b0 b1 b2 c0 c1 c2 : ℕ) → is_lower (b0, b1, b2) (a0, a1, a2) ≡ false → is_lower (c0, c1, c2) (b0, b1, b2) ≡ false → is_lower (c0, c1, c2) (a0, a1, a2) ≡ false
lower-trans a0 a1 a2 b0 b1 b2 c0 c1 c2 ab bc = grind (arith, nat_tests)

lower-antisym : (a0 a1 a2 b0 b1 b2 : ℕ) → is_lower (b0, b1, b2) (a0, a1, a2) ≡ false → is_lower (a0, a1, a2) (b0, b1, b2) ≡ false → (a0 ≡ b0) × (a1 ≡ b1) × (a2 ≡ b2)
lower-antisym a0 a1 a2 b0 b1 b2 ab ba = (grind (arith, nat_tests), grind (arith, nat_tests), grind (arith, nat_tests))

lower-swap : (a0 a1 a2 b0 b1 b2 : ℕ) → is_lower (b0, b1, b2) (a0, a1, a2) ≡ true → is_lower (a0, a1, a2) (b0, b1, b2) ≡ false
lower-swap a0 a1 a2 b0 b1 b2 ab = grind (arith, nat_tests)

lower-self : (a0 a1 a2 : ℕ) → is_lower (a0, a1, a2) (a0, a1, a2) ≡ false
lower-self a0 a1 a2 = grind (arith, nat_tests)

pub at_most-trans : (a b c : Reason) → IsAtMost a b → IsAtMost b c → IsAtMost a c
at_most-trans a b c = lower-trans (rank a).0 (rank a).1 (rank a).2 (rank b).0 (rank b).1 (rank b).2 (rank c).0 (rank c).1 (rank c).2

pub at_most-self : (a : Reason) → IsAtMost a a
at_most-self a = lower-self (rank a).0 (rank a).1 (rank a).2

-- the reason of a rank
ranked : ℕ → ℕ → ℕ → Reason
ranked zero a b = Public
ranked (suc zero) a b = Own false
ranked (suc (suc zero)) a b = Own true
ranked (suc (suc (suc zero))) a b = Role a
ranked (suc (suc (suc (suc zero)))) a b = Group a false
ranked (suc (suc (suc (suc (suc zero))))) a b = Group a true
ranked (suc (suc (suc (suc (suc (suc zero)))))) a b = GroupRole a b
ranked (suc (suc (suc (suc (suc (suc (suc n))))))) a b = Nothing

ranked-rank : (r : Reason) → ranked (rank r).0 (rank r).1 (rank r).2 ≡ r
unfolding ranked
ranked-rank Public = refl
ranked-rank (Own false) = refl
ranked-rank (Own true) = refl
ranked-rank (Role r) = refl
ranked-rank (Group g false) = refl
ranked-rank (Group g true) = refl
ranked-rank (GroupRole g r) = refl
ranked-rank Nothing = refl

pub at_most-antisym : (a b : Reason) → IsAtMost a b → IsAtMost b a → a ≡ b
at_most-antisym a b ab ba =
    let same = lower-antisym (rank a).0 (rank a).1 (rank a).2 (rank b).0 (rank b).1 (rank b).2 ab ba in
    sym (ranked-rank a) ∙ (λ k. ranked (same.0 k) (same.1 k) (same.2 k)) ∙ ranked-rank b

first-left : (a b : Reason) → IsAtMost (first_of a b) a
first-left a b = by (goes_before b a) refl
  where
    by : (t : Bool) → goes_before b a ≡ t → IsAtMost (cond t b a) a
    by true e = lower-swap (rank a).0 (rank a).1 (rank a).2 (rank b).0 (rank b).1 (rank b).2 e
    by false e = at_most-self a

first-right : (a b : Reason) → IsAtMost (first_of a b) b
first-right a b = by (goes_before b a) refl
  where
    by : (t : Bool) → goes_before b a ≡ t → IsAtMost (cond t b a) b
    by true e = at_most-self b
    by false e = e

first-one : (a b : Reason) → (first_of a b ≡ a) ⊎ (first_of a b ≡ b)
first-one a b = by (goes_before b a)
  where
    by : (t : Bool) → (cond t b a ≡ a) ⊎ (cond t b a ≡ b)
    by true = inr refl
    by false = inl refl

-- a mention of the place gives the reason
abbrev pub Says : List Mention → ℕ → Reason → Type 0
Says [] p r = ⊥
Says (m ∷ ms) p r = ((m.0 ≡ p) × (m.1 ≡ r)) ⊎ Says ms p r

length-lowered_at : (t : List Reason) (q : ℕ) (r : Reason) → length (lowered_at t q r) ≡ length t
length-lowered_at t q r = by (nat_lt q (length t))
  where
    by : (b : Bool) → length (cond b (set t q (first_of (get_or t q Nothing) r)) t) ≡ length t
    by true = length-set t q (first_of (get_or t q Nothing) r)
    by false = refl

pub length-lowered : (ms : List Mention) (t : List Reason) → length (lowered ms t) ≡ length t
length-lowered [] t = refl
length-lowered (m ∷ ms) t = length-lowered ms (lowered_at t m.0 m.1) ∙ length-lowered_at t m.0 m.1

pub lowered-append : (xs ys : List Mention) (t : List Reason) → lowered (xs ++ ys) t ≡ lowered ys (lowered xs t)
lowered-append [] ys t = refl
lowered-append (m ∷ xs) ys t = lowered-append xs ys (lowered_at t m.0 m.1)

at-here : (t : List Reason) (p : ℕ) (r : Reason) → p < length t → get_or (lowered_at t p r) p Nothing ≡ first_of (get_or t p Nothing) r
at-here t p r inside = ap (λ b. get_or (cond b (set t p (first_of (get_or t p Nothing) r)) t) p Nothing) (lt-ltb p (length t) inside) ∙ get_or-set_same t p (first_of (get_or t p Nothing) r) Nothing inside

at-other : (t : List Reason) (q p : ℕ) (r : Reason) → (p ≡ q → ⊥) → get_or (lowered_at t q r) p Nothing ≡ get_or t p Nothing
at-other t q p r other = by (nat_lt q (length t))
  where
    by : (b : Bool) → get_or (cond b (set t q (first_of (get_or t q Nothing) r)) t) p Nothing ≡ get_or t p Nothing
    by true = get_or-set_other t q p (first_of (get_or t q Nothing) r) Nothing other
    by false = refl

-- The reason at a place is the one that was there, or a mention's, and none of these comes before it.
pub record IsLowered (ms : List Mention) (p : ℕ) (old new : Reason) : Type 0 where
  pub one : (new ≡ old) ⊎ Says ms p new
  pub old_first : IsAtMost new old
  pub first : (r : Reason) → Says ms p r → IsAtMost new r

step-same : (ms : List Mention) (m : Mention) (p : ℕ) (old mid new : Reason) → m.0 ≡ p → mid ≡ first_of old m.1 → IsLowered ms p mid new → IsLowered (m ∷ ms) p old new
step-same ms m p old mid new here made rest = record { one = one rest.one; old_first = at_most-trans new mid old rest.old_first below_old; first = first }
  where
    below_old : IsAtMost mid old
    below_old = rw made (first-left old m.1)

    below_said : IsAtMost mid m.1
    below_said = rw made (first-right old m.1)

    chosen : new ≡ mid → (first_of old m.1 ≡ old) ⊎ (first_of old m.1 ≡ m.1) → (new ≡ old) ⊎ Says (m ∷ ms) p new
    chosen e (inl o) = inl (e ∙ made ∙ o)
    chosen e (inr o) = inr (inl (here, sym (e ∙ made ∙ o)))

    one : (new ≡ mid) ⊎ Says ms p new → (new ≡ old) ⊎ Says (m ∷ ms) p new
    one (inl e) = chosen e (first-one old m.1)
    one (inr says) = inr (inr says)

    first : (r : Reason) → Says (m ∷ ms) p r → IsAtMost new r
    first r (inl said) = at_most-trans new mid r rest.old_first (rw (← said.1) below_said)
    first r (inr says) = rest.first r says

step-other : (ms : List Mention) (m : Mention) (p : ℕ) (old mid new : Reason) → (m.0 ≡ p → ⊥) → mid ≡ old → IsLowered ms p mid new → IsLowered (m ∷ ms) p old new
step-other ms m p old mid new other same rest = record { one = one rest.one; old_first = rw (← same) rest.old_first; first = first }
  where
    one : (new ≡ mid) ⊎ Says ms p new → (new ≡ old) ⊎ Says (m ∷ ms) p new
    one (inl e) = inl (e ∙ same)
    one (inr says) = inr (inr says)

    first : (r : Reason) → Says (m ∷ ms) p r → IsAtMost new r
    first r (inl said) = absurd (other said.0)
    first r (inr says) = rest.first r says

pub lowered-at : (ms : List Mention) (t : List Reason) (p : ℕ) → p < length t → IsLowered ms p (get_or t p Nothing) (get_or (lowered ms t) p Nothing)
lowered-at [] t p inside = record { one = inl refl; old_first = at_most-self (get_or t p Nothing); first = λ r says. absurd says }
lowered-at (m ∷ ms) t p inside = by (nat_eq m.0 p) refl (lowered-at ms (lowered_at t m.0 m.1) p (let same = length-lowered_at t m.0 m.1 in omega (arith, same)))
  where
    next : Reason
    next = get_or (lowered_at t m.0 m.1) p Nothing

    end : Reason
    end = get_or (lowered ms (lowered_at t m.0 m.1)) p Nothing

    by : (b : Bool) → nat_eq m.0 p ≡ b → IsLowered ms p next end → IsLowered (m ∷ ms) p (get_or t p Nothing) end
    by true same rest =
        let here : m.0 ≡ p = one_place m.0 p same in
        step-same ms m p (get_or t p Nothing) next end here (rw here (at-here t p m.1 inside)) rest
    by false apart rest =
        let other = λ (here : m.0 ≡ p). absurd (true≢false (sym (eq-eqb m.0 p here) ∙ apart)) in
        step-other ms m p (get_or t p Nothing) next end other (at-other t m.0 p m.1 (λ e. other (sym e))) rest

pub says-left : (xs ys : List Mention) (p : ℕ) (r : Reason) → Says xs p r → Says (xs ++ ys) p r
says-left [] ys p r says = absurd says
says-left (m ∷ xs) ys p r (inl here) = inl here
says-left (m ∷ xs) ys p r (inr says) = inr (says-left xs ys p r says)

pub says-right : (xs ys : List Mention) (p : ℕ) (r : Reason) → Says ys p r → Says (xs ++ ys) p r
says-right [] ys p r says = says
says-right (m ∷ xs) ys p r says = inr (says-right xs ys p r says)

pub says-one : (xs ys : List Mention) (p : ℕ) (r : Reason) → Says (xs ++ ys) p r → Says xs p r ⊎ Says ys p r
says-one [] ys p r says = inr says
says-one (m ∷ xs) ys p r (inl here) = inl (inl here)
says-one (m ∷ xs) ys p r (inr says) = more (says-one xs ys p r says)
  where
    more : Says xs p r ⊎ Says ys p r → Says (m ∷ xs) p r ⊎ Says ys p r
    more (inl left) = inl (inr left)
    more (inr right) = inr right

-- what an element gives, which stands at a place
pub record Gives {X : Type 0} (gives : ℕ → X → List Mention) (place : ℕ) (xs : List X) (p : ℕ) (r : Reason) : Type 0 where
  pub behind : ℕ
  pub element : X
  pub stands : slice_get xs behind ≡ Some element
  pub says : Says (gives (place + behind) element) p r

pub says-each : {X : Type 0} (gives : ℕ → X → List Mention) (place : ℕ) (xs : List X) (behind : ℕ) (x : X) (p : ℕ) (r : Reason) → slice_get xs behind ≡ Some x → Says (gives (place + behind) x) p r → Says (each gives place xs) p r
says-each gives place [] behind x p r stands says = cc
says-each gives place (y ∷ xs) zero x p r stands says =
    let same : y ≡ x = cc in
    let here : place + zero ≡ place = omega arith in
    says-left (gives place y) (each gives (place + 1) xs) p r (rw same (rw here at says))
says-each gives place (y ∷ xs) (suc behind) x p r stands says =
    let here : place + suc behind ≡ place + 1 + behind = omega arith in
    says-right (gives place y) (each gives (place + 1) xs) p r (says-each gives (place + 1) xs behind x p r stands (rw here at says))

pub each-says : {X : Type 0} (gives : ℕ → X → List Mention) (place : ℕ) (xs : List X) (p : ℕ) (r : Reason) → Says (each gives place xs) p r → Gives gives place xs p r
each-says gives place [] p r says = absurd says
each-says {X} gives place (x ∷ xs) p r says = by (each-says gives (place + 1) xs p r) (says-one (gives place x) (each gives (place + 1) xs) p r says)
  where
    more : Gives gives (place + 1) xs p r → Gives gives place (x ∷ xs) p r
    more g = record { behind = suc g.behind; element = g.element; stands = g.stands; says = let here : place + suc g.behind ≡ place + 1 + g.behind = omega arith in rw here g.says }

    by : (Says (each gives (place + 1) xs) p r → Gives gives (place + 1) xs p r) → Says (gives place x) p r ⊎ Says (each gives (place + 1) xs) p r → Gives gives place (x ∷ xs) p r
    by rest (inl here) = record { behind = zero; element = x; stands = refl; says = let same : place + zero ≡ place = omega arith in rw same here }
    by rest (inr later) = more (rest later)

-- a permission that is granted
pub says-granting : (reason : Reason) (ps : List Perm) (p : Perm) → is_in ps p ≡ true → Says (granting reason ps) p.0 reason
says-granting reason [] p granted = cc
says-granting reason (q ∷ ps) p granted = by (nat_eq q.0 p.0) refl (says-granting reason ps p) granted
  where
    by : (b : Bool) → nat_eq q.0 p.0 ≡ b → (is_in ps p ≡ true → Says (granting reason ps) p.0 reason) → (b || is_in ps p) ≡ true → Says (granting reason (q ∷ ps)) p.0 reason
    by true here rest e = inl (one_place q.0 p.0 here, refl)
    by false other rest e = inr (rest e)

pub granting-says : (reason : Reason) (ps : List Perm) (p : Perm) (r : Reason) → Says (granting reason ps) p.0 r → (reason ≡ r) × (is_in ps p ≡ true)
granting-says reason [] p r says = absurd says
granting-says reason (q ∷ ps) p r (inl here) = (here.1, ap (λ b. b || is_in ps p) (eq-eqb q.0 p.0 here.0))
granting-says reason (q ∷ ps) p r (inr later) =
    let rest = granting-says reason ps p r later in
    (rest.0, ap (λ b. nat_eq q.0 p.0 || b) rest.1 ∙ or-true (nat_eq q.0 p.0))

-- one turn of a loop over elements, with what is left of them
pub lowered-turn : {X : Type 0} (gives : ℕ → X → List Mention) (xs : List X) (i : ℕ) (x : X) (t : List Reason) → i < length xs → x ≡ get_or xs i x
    → lowered (each gives i (drop i xs)) t ≡ lowered (each gives (i + 1) (drop (i + 1) xs)) (lowered (gives i x) t)
lowered-turn gives xs i x t inside is =
    ap (λ ys. lowered (each gives i ys) t) (drop_more xs i x inside)
    ∙ lowered-append (gives i (get_or xs i x)) (each gives (i + 1) (drop (i + 1) xs)) t
    ∙ ap (λ y. lowered (each gives (i + 1) (drop (i + 1) xs)) (lowered (gives i y) t)) (sym is)
