-- In a program whose tree has its numbers each function and each block is found by its number.
use Rattle.std.proofs.Common.{◌≡◌, ◌≤◌, ◌<◌, refl, sym, ap, subst, ◌∙◌, ℕ, zero, suc, ◌+◌, nat_eq, Bool, true, false}
use Rattle.std.proofs.Common.{cond, List, [], ◌∷◌, map, Some, None, arith, eq-eqb, ltb, ltb-true, ltb-false}
use Rattle.std.proofs.lemmas.Bool.{eqb-true}
use Rattle.std.specs.List.{range_with_len}
use Rattle.std.specs.Map.{lookup}
use Rattle.rp_scope.proofs.ToldNumbers as told
use Rattle.rp_scope.specs.Blocks.{stmts_blocks}
use Rattle.rp_scope.specs.Numbers.{HasNumbers, block_count, block_numbers}
use Rattle.rp_tree.specs.Statements as stmt_tree
use Rattle.rp_meaning.specs.Blocks.{Code, Codes, of_stmts}
use Rattle.rp_meaning.specs.Frame.{Program}
use Rattle.rp_apart_laws.specs.Apart.{Each}
use Rattle.rp_keeper_laws.specs.Blocks.{Around, CodeHas, Has, telling_around}
use Rattle.rp_keeper_laws.proofs.Everything.{each_more}
use Rattle.rp_fit_laws.specs.Programs.{IsBlockOf, IsFunctionOf, IsLaidOut, around}
use Rattle.rp_fit_laws.proofs.Counts.{counted, times}
use Rattle.rp_fit_laws.proofs.Counts as counts
use Rattle.rp_fit_laws.proofs.Inner as inner

pub each_both : {A : Type 0} (P Q R : A → Type 0) → ((x : A) → P x → Q x → R x) → (xs : List A) → Each P xs → Each Q xs
    → Each R xs
each_both P Q R f [] p q = tt
each_both P Q R f (x ∷ xs) p q = (f x p.0 q.0, each_both P Q R f xs p.1 q.1)

-- ---- numbers that stand once

-- other numbers than this
abbrev IsOther : {A : Type 0} → ℕ → ℕ × A → Type 0
IsOther c e = nat_eq e.0 c ≡ false

others : {A : Type 0} (c : ℕ) (es : List (ℕ × A)) → times c es ≡ 0 → Each (IsOther c) es
others c [] z = tt
others c (e ∷ es) z = by (nat_eq c e.0) refl z (λ z. others c es z) where
  swap : (b : Bool) → nat_eq e.0 c ≡ b → nat_eq c e.0 ≡ false → nat_eq e.0 c ≡ false
  swap true h i = absurd (unequal (sym (eq-eqb c e.0 (sym (eqb-true e.0 c h))) ∙ i)) where
    unequal : true ≡ false → ⊥
    unequal e = absurd (cc)
  swap false h i = h

  by : (b : Bool) → nat_eq c e.0 ≡ b → counted b (times c es) ≡ 0 → (times c es ≡ 0 → Each (IsOther c) es)
      → Each (IsOther c) (e ∷ es)
  by true i z more = absurd (omega (arith, z))
  by false i z more = (swap (nat_eq e.0 c) refl i, more z)

-- what is found among the others is found behind it
found_behind : {A : Type 0} (e : ℕ × A) (all es : List (ℕ × A)) → Each (IsOther e.0) es
    → Each (λ (x : ℕ × A). lookup (nat_eq x.0) all ≡ Some x.1) es
    → Each (λ (x : ℕ × A). lookup (nat_eq x.0) (e ∷ all) ≡ Some x.1) es
found_behind e all [] h i = tt
found_behind e all (x ∷ xs) h i = (
  subst (λ (b : Bool). cond b (Some e.1) (lookup (nat_eq x.0) all) ≡ Some x.1) (sym h.0) i.0,
  found_behind e all xs h.1 i.1,
)

rest_once : {A : Type 0} (e : ℕ × A) (es : List (ℕ × A)) → ((c : ℕ) → times c (e ∷ es) ≤ 1) → (c : ℕ)
    → times c es ≤ 1
rest_once e es once c = by (nat_eq c e.0) (once c) where
  by : (b : Bool) → counted b (times c es) ≤ 1 → times c es ≤ 1
  by true h = omega (arith, h)
  by false h = h

head_once : {A : Type 0} (e : ℕ × A) (es : List (ℕ × A)) → ((c : ℕ) → times c (e ∷ es) ≤ 1) → times e.0 es ≡ 0
head_once e es once =
    let one = subst (λ (b : Bool). counted b (times e.0 es) ≤ 1) (eq-eqb e.0 e.0 refl) (once e.0) in
    omega (arith, one)

-- what stands once among others is found there
pub found_each : {A : Type 0} (es : List (ℕ × A)) → ((c : ℕ) → times c es ≤ 1)
    → Each (λ (e : ℕ × A). lookup (nat_eq e.0) es ≡ Some e.1) es
found_each [] once = tt
found_each (e ∷ es) once = (
  subst (λ (b : Bool). cond b (Some e.1) (lookup (nat_eq e.0) es) ≡ Some e.1) (sym (eq-eqb e.0 e.0 refl)) refl,
  found_behind e es es (others e.0 es (head_once e es once)) (found_each es (rest_once e es once)),
)

-- ---- the numbers from 1 on

abbrev times_in : ℕ → List ℕ → ℕ
times_in c [] = 0
times_in c (n ∷ ns) = counted (nat_eq c n) (times_in c ns)

times_are : {A : Type 0} (c : ℕ) (bs : List (ℕ × A)) → times c bs ≡ times_in c (map (λ (b : ℕ × A). b.0) bs)
times_are c [] = refl
times_are c (b ∷ bs) = ap (counted (nat_eq c b.0)) (times_are c bs)

-- no number below the first
none_below : (c s n : ℕ) → c < s → times_in c (range_with_len s n) ≡ 0
none_below c s zero l = refl
none_below c s (suc n) l = by (nat_eq c s) refl (none_below c (s + 1) n (omega (arith, l))) where
  by : (b : Bool) → nat_eq c s ≡ b → times_in c (range_with_len (s + 1) n) ≡ 0
      → counted b (times_in c (range_with_len (s + 1) n)) ≡ 0
  by true e z = let same = eqb-true c s e in absurd (omega (arith, same, l))
  by false e z = z

once_in_range : (c s n : ℕ) → times_in c (range_with_len s n) ≤ 1
once_in_range c s zero = omega arith
once_in_range c s (suc n) = by (nat_eq c s) refl (once_in_range c (s + 1) n) where
  by : (b : Bool) → nat_eq c s ≡ b → times_in c (range_with_len (s + 1) n) ≤ 1
      → counted b (times_in c (range_with_len (s + 1) n)) ≤ 1
  by true e l =
      let same = eqb-true c s e in let none = none_below c (s + 1) n (omega (arith, same)) in omega (arith, none)
  by false e l = l

-- no number behind the last
none_above : (c s n : ℕ) → s + n ≤ c → times_in c (range_with_len s n) ≡ 0
none_above c s zero l = refl
none_above c s (suc n) l = by (nat_eq c s) refl (none_above c (s + 1) n (omega (arith, l))) where
  by : (b : Bool) → nat_eq c s ≡ b → times_in c (range_with_len (s + 1) n) ≡ 0
      → counted b (times_in c (range_with_len (s + 1) n)) ≡ 0
  by true e z = let same = eqb-true c s e in absurd (omega (arith, same, l))
  by false e z = z

-- what is found stands there
found_stands : {A : Type 0} (n : ℕ) (x : A) (es : List (ℕ × A)) → lookup (nat_eq n) es ≡ Some x → 1 ≤ times n es
found_stands n x [] e = absurd (cc)
found_stands {A} n x (y ∷ ys) e = by (nat_eq n y.0) e (λ e. found_stands n x ys e) where
  by : (b : Bool) → cond b (Some y.1) (lookup (nat_eq n) ys) ≡ Some x
      → (lookup (nat_eq n) ys ≡ Some x → 1 ≤ times n ys) → 1 ≤ counted b (times n ys)
  by true e more = omega arith
  by false e more = more e

-- ---- of blocks that are told of a tree with its numbers

module _ {A : Type 0} (body : stmt_tree.Stmts) (has : HasNumbers body) (bs : List (ℕ × A))
    (are : map (λ (b : ℕ × A). b.0) bs ≡ block_numbers body) where
  times_range : (c : ℕ) → times c bs ≡ times_in c (range_with_len 1 (block_count body))
  times_range c = times_are c bs ∙ ap (times_in c) (are ∙ has)

  pub numbered_once : (c : ℕ) → times c bs ≤ 1
  numbered_once c = let e = times_range c in let l = once_in_range c 1 (block_count body) in omega (arith, e, l)

  -- none is the program's own
  pub numbered_zero : times 0 bs ≡ 0
  numbered_zero = times_range 0 ∙ none_below 0 1 (block_count body) (omega arith)

  pub numbered_within : (n : ℕ) (x : A) → lookup (nat_eq n) bs ≡ Some x → (1 ≤ n) × (n ≤ block_count body)
  numbered_within n x e =
      let stands = found_stands n x bs e in
      let range = times_range n in (
        at_least (ltb n 1) refl stands range,
        at_most (ltb (block_count body) n) refl stands range,
      )
    where
      at_least : (b : Bool) → ltb n 1 ≡ b → 1 ≤ times n bs
          → times n bs ≡ times_in n (range_with_len 1 (block_count body))
          → 1 ≤ n
      at_least true e l r =
          let none = none_below n 1 (block_count body) (ltb-true n 1 e) in absurd (omega (arith, l, r, none))
      at_least false e l r = ltb-false n 1 e

      at_most : (b : Bool) → ltb (block_count body) n ≡ b → 1 ≤ times n bs
          → times n bs ≡ times_in n (range_with_len 1 (block_count body)) → n ≤ block_count body
      at_most true e l r =
          let over = ltb-true (block_count body) n e in
          let none = none_above n 1 (block_count body) (omega (arith, over)) in absurd (omega (arith, l, r, none))
      at_most false e l r = ltb-false (block_count body) n e

-- what is found of some, where it holds of each
pub found_has : (Q : ℕ × Code → Type 0) (es : Codes) (n : ℕ) (code : Code) → Each Q es
    → lookup (nat_eq n) es ≡ Some code → Q (n, code)
found_has Q [] n code h e = absurd (cc)
found_has Q (x ∷ xs) n code h e = by (nat_eq n x.0) refl e (λ e. found_has Q xs n code h.1 e) where
  by : (b : Bool) → nat_eq n x.0 ≡ b → cond b (Some x.1) (lookup (nat_eq n) xs) ≡ Some code
      → (lookup (nat_eq n) xs ≡ Some code → Q (n, code)) → Q (n, code)
  by true same e more =
      let m : x.0 ≡ n = sym (eqb-true n x.0 same) in
      let c : x.1 ≡ code = cc in
      subst (λ (c : Code). Q (n, c)) c (subst (λ (m : ℕ). Q (m, x.1)) m h.0)
  by false other e more = more e

-- ---- of a program

module _ (p : Program) (laid : IsLaidOut p) where
  abbrev blocks : List Around
  blocks = stmts_blocks telling_around 0 p.body

  numbers_are : map (λ (b : Around). b.0) blocks ≡ block_numbers p.body
  numbers_are = told.stmts_blocks telling_around (λ (b : Around). b.0)
      (record { told = λ n block around. refl }) 0 p.body

  once : (c : ℕ) → times c blocks ≤ 1
  once c = numbered_once p.body laid.numbers blocks numbers_are c

  functions_once : (c : ℕ) → times c (of_stmts p.body) ≤ 1
  functions_once c = let l = once c in let m = (counts.block c 0 p.body).most in omega (arith, l, m)

  missing : (bs : List Around) → Each (IsOther 0) bs → lookup (nat_eq 0) bs ≡ None
  missing [] h = refl
  missing (b ∷ bs) h = by (nat_eq 0 b.0) refl (missing bs h.1) where
    unequal : true ≡ false → ⊥
    unequal e = absurd (cc)

    by : (same : Bool) → nat_eq 0 b.0 ≡ same → lookup (nat_eq 0) bs ≡ None
        → cond same (Some b.1) (lookup (nat_eq 0) bs) ≡ None
    by true e more = absurd (unequal (sym (eq-eqb b.0 0 (sym (eqb-true 0 b.0 e))) ∙ h.0))
    by false e more = more

  pub around_none : around p 0 ≡ None
  around_none = missing blocks (others 0 blocks (numbered_zero p.body laid.numbers blocks numbers_are))

  -- each function and each block of the program is found
  pub whole_has : Has (IsFunctionOf p) (IsBlockOf p) (of_stmts p.body) blocks
  whole_has = record {
    functions = each_more (λ (e : ℕ × Code). lookup (nat_eq e.0) (of_stmts p.body) ≡ Some e.1) (IsFunctionOf p)
        (λ e found. laid.code e.0 ∙ found) (of_stmts p.body) (found_each (of_stmts p.body) functions_once);
    blocks = found_each blocks once;
  }

  -- so are those in the code of each of its functions
  pub code_has : (n : ℕ) (code : Code) → p.code n ≡ Some code
      → CodeHas (IsFunctionOf p) (IsBlockOf p) n code
  code_has n code e =
      found_has (inner.Inner (IsFunctionOf p) (IsBlockOf p)) (of_stmts p.body) n code (inner.block 0 p.body whole_has)
      (sym (laid.code n) ∙ e)
