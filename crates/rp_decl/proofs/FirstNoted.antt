-- The first places of names, as they are noted.
use Rattle.std.proofs.Common.{◌≡◌, ◌∙◌, ◌+◌, ◌<◌, ◌≤◌, ◌&&◌, ℕ, Bool, true, false, cond, not, nat_eq, nat_lt, List, []}
use Rattle.std.proofs.Common.{◌∷◌, length, get_or, drop, if◌then◌else◌, Option, Some, None, refl, sym, ap, subst, arith}
use Rattle.std.specs.Prelude.{position}
use Rattle.std.specs.List.{All, position_or_len}
use Rattle.std.proofs.lemmas.Bool.{and_parts, eq-eqb, eqb-false, eqb-true, lt-ltb, ltb-false, ltb-true, ne_eqb}
use Rattle.std.proofs.lemmas.List.{drop_all, drop_more, get_or_past, get_or-set_other, get_or-set_same}
use Rattle.std.proofs.lemmas.List.Elements.{All-head, All-tail}
use Rattle.std.proofs.Math.ListN.{set}
use Rattle.rp_base.specs.declared.value.Name.{Name}
use Rattle.rp_decl.specs.FirstPlaces.{AreFirstPlaces, first_place}

-- what is noted for a number, or where it stands first among the names that are left
abbrev pub noted_or_left : ℕ → ℕ → List Name → ℕ → ℕ
noted_or_left number i names noted =
    if nat_eq noted (length names) then i + first_place number (drop i names) else noted

-- nothing is noted at first
pub noted-start : (number : ℕ) (names : List Name) (noted : ℕ) → noted ≡ length names
    → noted_or_left number 0 names noted ≡ first_place number names
noted-start number names noted none =
    ap (λ (b : Bool). if b then 0 + first_place number (drop 0 names) else noted) (eq-eqb noted (length names) none)
    ∙ (let whole : 0 + first_place number (drop 0 names) ≡ first_place number names = omega arith in whole)

-- one name more
module _ (number : ℕ) (names : List Name) (i : ℕ) (first : Name) (inside : i < length names) where
  abbrev left : ℕ
  left = first_place number (drop (i + 1) names)

  abbrev m : Name
  m = get_or names i first

  here : first_place number (drop i names) ≡ cond (not (nat_eq number m.0)) (1 + left) 0
  here = ap (first_place number) (drop_more names i first inside)

  apart : i ≡ length names → ⊥
  apart e = omega arith

  one : (e f : Bool) (old : ℕ) → nat_eq old (length names) ≡ f
      → (if nat_eq (if e && f then i else old) (length names) then (i + 1) + left else (if e && f then i else old))
      ≡ (if f then i + cond (not e) (1 + left) 0 else old)
  one true true old is =
      ap (λ (b : Bool). if b then (i + 1) + left else i) (ne_eqb i (length names) apart)
      ∙ (let none : i ≡ i + 0 = omega arith in none)
  one false true old is =
      ap (λ (b : Bool). if b then (i + 1) + left else old) is
      ∙ (let more : (i + 1) + left ≡ i + (1 + left) = omega arith in more)
  one true false old is = ap (λ (b : Bool). if b then (i + 1) + left else old) is
  one false false old is = ap (λ (b : Bool). if b then (i + 1) + left else old) is

  pub noted-step : (old new : ℕ)
      → new ≡ (if nat_eq number (get_or names i first).0 && nat_eq old (length names) then i else old)
      → noted_or_left number (i + 1) names new ≡ noted_or_left number i names old
  noted-step old new is =
      ap (noted_or_left number (i + 1) names) is ∙ one (nat_eq number m.0) (nat_eq old (length names)) old refl
      ∙ sym (ap (λ (n : ℕ). if nat_eq old (length names) then i + n else old) here)

-- no name is left at last
pub noted-end : (number : ℕ) (names : List Name) (i noted : ℕ) → length names ≤ i → i ≤ length names
    → noted_or_left number i names noted ≡ noted
noted-end number names i noted past within = by (nat_eq noted (length names)) refl where
  by : (b : Bool) → nat_eq noted (length names) ≡ b
      → (if b then i + first_place number (drop i names) else noted) ≡ noted
  by true e =
      let none : first_place number (drop i names) ≡ 0 = ap (first_place number) (drop_all i names past) in
      let same : noted ≡ length names = eqb-true noted (length names) e in
      omega arith
  by false e = refl

-- a place that is noted
pub noted-there : (places : List ℕ) (number place none other : ℕ) → other < length places
    → (nat_lt number (length places) && nat_eq (get_or places number none) none) ≡ true
    → get_or (set places number place) other none
    ≡ (if nat_eq other number && nat_eq (get_or places other none) none then place else get_or places other none)
noted-there places number place none other inside free = by (nat_eq other number) refl where
  by : (b : Bool) → nat_eq other number ≡ b → get_or (set places number place) other none
      ≡ (if b && nat_eq (get_or places other none) none then place else get_or places other none)
  by true e =
      let same : other ≡ number = eqb-true other number e in
      let empty : nat_eq (get_or places number none) none ≡ true =
      (and_parts (nat_lt number (length places)) (nat_eq (get_or places number none) none) free).1 in
      ap (λ (k : ℕ). get_or (set places number place) k none) same
      ∙ get_or-set_same places number place none (subst (λ (k : ℕ). k < length places) same inside)
      ∙ sym (ap (λ (b : Bool). if b then place else get_or places other none)
      (ap (λ (k : ℕ). nat_eq (get_or places k none) none) same ∙ empty))
  by false e = get_or-set_other places number other place none (eqb-false other number e)

-- and one that is not
pub noted-not : (places : List ℕ) (number place none other : ℕ) → other < length places
    → (nat_lt number (length places) && nat_eq (get_or places number none) none) ≡ false
    → get_or places other none
    ≡ (if nat_eq other number && nat_eq (get_or places other none) none then place else get_or places other none)
noted-not places number place none other inside taken = by (nat_eq other number) refl where
  full : (b c : Bool) → b ≡ true → (b && c) ≡ false → c ≡ false
  full true c here e = e
  full false c here e = absurd (cc)

  by : (b : Bool) → nat_eq other number ≡ b → get_or places other none
      ≡ (if b && nat_eq (get_or places other none) none then place else get_or places other none)
  by true e =
      let same : other ≡ number = eqb-true other number e in
      let within : nat_lt number (length places) ≡ true =
      lt-ltb number (length places) (subst (λ (k : ℕ). k < length places) same inside) in
      let used : nat_eq (get_or places number none) none ≡ false =
      full (nat_lt number (length places)) (nat_eq (get_or places number none) none) within taken in
      sym (ap (λ (b : Bool). if b then place else get_or places other none)
      (ap (λ (k : ℕ). nat_eq (get_or places k none) none) same ∙ used))
  by false e = refl

-- a number that is none of theirs stands nowhere
nowhere : (number below : ℕ) (names : List Name) → below ≤ number → All (λ (name : Name). name.0 < below) names
    → first_place number names ≡ length names
nowhere number below [] past few = refl
nowhere number below (n ∷ ns) past few =
    let low : n.0 < below = All-head (λ (name : Name). name.0 < below) n ns few in
    let other : nat_eq number n.0 ≡ false = ne_eqb number n.0 (λ same. absurd (omega (arith, same, low, past))) in
    let rest = nowhere number below ns past (All-tail (λ (name : Name). name.0 < below) n ns few) in
    let all : 1 + length ns ≡ length (n ∷ ns) = omega arith in
    (λ k. cond (not (other k)) (1 + rest k) 0) ∙ all

-- so a table with as many places as there are numbers has all
pub are_first : (names : List Name) (places : List ℕ) (below : ℕ) → All (λ (name : Name). name.0 < below) names
    → length places ≡ below
    → ((number : ℕ) → number < below → get_or places number (length names) ≡ first_place number names)
    → AreFirstPlaces names places
are_first names places below few many first = record { each = λ name. by name (nat_lt name.0 below) refl }
  where
    by : (name : Name) (b : Bool) → nat_lt name.0 below ≡ b
        → get_or places name.0 (length names) ≡ first_place name.0 names
    by name true e = first name.0 (ltb-true name.0 below e)
    by name false e =
        let past : below ≤ name.0 = ltb-false name.0 below e in
        get_or_past places name.0 (length names) (omega arith) ∙ sym (nowhere name.0 below names past few)

-- the place of a name, where it has one
pub place-found : (p : Name → Bool) (names : List Name) (count place : ℕ) → count ≡ length names
    → place ≡ position_or_len p names → (if nat_lt place count then Some place else None) ≡ position p names
place-found p names count place same is =
    λ i. cond (nat_lt (is i) (same i)) (Some (is i)) None
