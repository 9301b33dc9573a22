-- Where each link is taken away that comes from a place to which none leads, those on rings are left.
use Rattle.std.proofs.Common.{◌≡◌, ◌≢◌, ℕ, zero, suc, ◌<◌, ◌≤◌, ◌+◌, ◌-◌, ◌&&◌, Bool, true, false, cond, nat_eq, nat_lt, if◌then◌else◌}
use Rattle.std.proofs.Common.{List, [], ◌∷◌, length, map, drop, get_or, count_by, Option, Some, None, is_some, option_and_then}
use Rattle.std.proofs.Common.{refl, sym, ap, subst, ◌∙◌, arith}
use Rattle.std.proofs.Math.ListN.{set}
use Rattle.std.proofs.lemmas.Bool.{eqb-false, eqb-true, lt-ltb, ltb-false, ltb-true, true≢false}
use Rattle.std.proofs.lemmas.List.{drop_more, get_or_past, get_or-set_other, get_or-set_same, length-set}
use Rattle.std.proofs.lemmas.List.Sums.{count_by-le-length, sum_by-cons, sum_by-set}
use Rattle.rp_decl.specs.Ring.{follow_places, is_place, is_reached, next}
use Rattle.rp_decl.specs.RingSteps.{AreLeft, IsSettled, free_link, without_link}
use Rattle.rp_decl.proofs.RingWalks.{far-reached, follow_places-add, is_place-at, is_place-same, reached-far, reached-steps}
use Rattle.rp_decl.proofs.RingWalks.{some-front}

-- ---- the link of a place

next-get : (links : List (Option ℕ)) (place : ℕ) → next links place ≡ get_or links place None
next-get [] zero = refl
next-get [] (suc place) = refl
next-get (link ∷ links) zero = refl
next-get (link ∷ links) (suc place) = next-get links place

pub has-link-at : (links : List (Option ℕ)) (place : ℕ)
    → get_or (map (λ (link : Option ℕ). is_some link) links) place false ≡ is_some (next links place)
has-link-at [] zero = refl
has-link-at [] (suc place) = refl
has-link-at (link ∷ links) zero = refl
has-link-at (link ∷ links) (suc place) = has-link-at links place

some-inside : (links : List (Option ℕ)) (place : ℕ) → is_some (next links place) ≡ true → place < length links
some-inside [] zero e = absurd (true≢false (sym e))
some-inside [] (suc place) e = absurd (true≢false (sym e))
some-inside (link ∷ links) zero e = omega arith
some-inside (link ∷ links) (suc place) e = omega (arith, some-inside links place e)

cut-same : (links : List (Option ℕ)) (here : ℕ) → here < length links → next (set links here None) here ≡ None
cut-same links here inside =
    next-get (set links here None) here ∙ get_or-set_same links here None None inside

cut-other : (links : List (Option ℕ)) (here other : ℕ) → other ≢ here
    → next (set links here None) other ≡ next links other
cut-other links here other apart =
    next-get (set links here None) other ∙ get_or-set_other links here other None None apart ∙ sym (next-get links other)

-- ---- how many lead to a place

abbrev tells : ℕ → Option ℕ → ℕ
tells place link = cond (is_place place link) 1 0

counts-some : (links : List (Option ℕ)) (place from : ℕ) → next links from ≡ Some place
    → 0 < count_by (is_place place) links
counts-some [] place zero e = cc
counts-some [] place (suc from) e = cc
counts-some (link ∷ links) place zero e =
    let one : tells place link ≡ 1 = ap (λ (b : Bool). cond {A = ℕ} b 1 0) (is_place-at place link e) in
    subst (λ (n : ℕ). 0 < n) (sym (sum_by-cons (tells place) link links)) (omega (arith, one))
counts-some (link ∷ links) place (suc from) e =
    let rest = counts-some links place from e in
    subst (λ (n : ℕ). 0 < n) (sym (sum_by-cons (tells place) link links)) (omega (arith, rest))

counts-from : (links : List (Option ℕ)) (place : ℕ) → 0 < count_by (is_place place) links
    → (from : ℕ) × (next links from ≡ Some place)
counts-from [] place some = let none : 0 < 0 = some in absurd (omega (arith, none))
counts-from (link ∷ links) place some = by (is_place place link) refl (counts-from links place)
  where
    by : (b : Bool) → is_place place link ≡ b
        → (0 < count_by (is_place place) links → (from : ℕ) × (next links from ≡ Some place))
        → (from : ℕ) × (next (link ∷ links) from ≡ Some place)
    by true e rest = (0, is_place-same place link e)
    by false e rest =
        let none : tells place link ≡ 0 = ap (λ (b : Bool). cond {A = ℕ} b 1 0) e in
        let both : 0 < tells place link + count_by (is_place place) links =
        subst (λ (n : ℕ). 0 < n) (sum_by-cons (tells place) link links) some in
        let found = rest (omega (arith, both, none)) in
        (suc found.0, found.1)

-- one link more is counted
pub count-turn : (likes : List (Option ℕ)) (index place wait new most : ℕ) (like : Option ℕ) → index < length likes
    → like ≡ next likes index → most ≡ length likes
    → new ≡ wait + (if is_place place like && nat_lt wait most then 1 else 0)
    → wait + count_by (is_place place) (drop index likes) ≡ count_by (is_place place) likes
    → new + count_by (is_place place) (drop (index + 1) likes) ≡ count_by (is_place place) likes
count-turn likes index place wait new most like inside read full is was = by (is_place place like) refl
  where
    split : count_by (is_place place) (drop index likes) ≡ tells place (get_or likes index None) + count_by (is_place place) (drop (index + 1) likes)
    split = ap (count_by (is_place place)) (drop_more likes index None inside)
        ∙ sum_by-cons (tells place) (get_or likes index None) (drop (index + 1) likes)

    same : like ≡ get_or likes index None
    same = read ∙ next-get likes index

    few : count_by (is_place place) likes ≤ length likes
    few = count_by-le-length (is_place place) likes

    by : (b : Bool) → is_place place like ≡ b
        → new + count_by (is_place place) (drop (index + 1) likes) ≡ count_by (is_place place) likes
    by true e =
        let one : tells place (get_or likes index None) ≡ 1 =
        ap (tells place) (sym same) ∙ ap (λ (b : Bool). cond {A = ℕ} b 1 0) e in
        let room : nat_lt wait most ≡ true = lt-ltb wait most (omega (arith, one, split, was, few, full)) in
        let both : (is_place place like && nat_lt wait most) ≡ true = λ k. e k && room k in
        let grown : new ≡ wait + 1 = is ∙ ap (λ (b : Bool). wait + (if b then 1 else 0)) both in
        omega (arith, one, split, was, grown)
    by false e =
        let none : tells place (get_or likes index None) ≡ 0 =
        ap (tells place) (sym same) ∙ ap (λ (b : Bool). cond {A = ℕ} b 1 0) e in
        let even : new ≡ wait + 0 = is ∙ ap (λ (b : Bool). wait + (if b && nat_lt wait most then 1 else 0)) e in
        omega (arith, none, split, was, even)

-- a number at a place is one more, or one less
pub raised-at : (waits : List ℕ) (place other value most : ℕ) → place < length waits
    → value ≡ get_or waits place 0 + 1 → nat_lt (get_or waits place 0) most ≡ true
    → get_or (set waits place value) other 0
    ≡ get_or waits other 0 + (if is_place other (Some place) && nat_lt (get_or waits other 0) most then 1 else 0)
raised-at waits place other value most inside is free = by (nat_eq place other) refl
  where
    by : (b : Bool) → nat_eq place other ≡ b → get_or (set waits place value) other 0
        ≡ get_or waits other 0 + (if b && nat_lt (get_or waits other 0) most then 1 else 0)
    by true e =
        let same : place ≡ other = eqb-true place other e in
        ap (λ (k : ℕ). get_or (set waits place value) k 0) (sym same) ∙ get_or-set_same waits place value 0 inside ∙ is
        ∙ ap (λ (k : ℕ). get_or waits k 0 + 1) same
        ∙ ap (λ (b : Bool). get_or waits other 0 + (if b then 1 else 0))
        (sym (ap (λ (k : ℕ). nat_lt (get_or waits k 0) most) (sym same) ∙ free))
    by false e =
        get_or-set_other waits place other value 0 (λ same. eqb-false place other e (sym same))
        ∙ (let even : get_or waits other 0 ≡ get_or waits other 0 + 0 = omega arith in even)

-- and where it may be no more, or there is no such place
pub raised-not : (waits : List ℕ) (place other most : ℕ) → other < length waits
    → (nat_lt place (length waits) && nat_lt (get_or waits place 0) most) ≡ false
    → get_or waits other 0
    ≡ get_or waits other 0 + (if is_place other (Some place) && nat_lt (get_or waits other 0) most then 1 else 0)
raised-not waits place other most inside full = by (nat_eq place other) refl
  where
    second : (b c : Bool) → b ≡ true → (b && c) ≡ false → c ≡ false
    second true c there e = e
    second false c there e = absurd (cc)

    by : (b : Bool) → nat_eq place other ≡ b → get_or waits other 0
        ≡ get_or waits other 0 + (if b && nat_lt (get_or waits other 0) most then 1 else 0)
    by true e =
        let same : place ≡ other = eqb-true place other e in
        let there : nat_lt place (length waits) ≡ true =
        lt-ltb place (length waits) (subst (λ (k : ℕ). k < length waits) (sym same) inside) in
        let over : nat_lt (get_or waits place 0) most ≡ false =
        second (nat_lt place (length waits)) (nat_lt (get_or waits place 0) most) there full in
        let even : get_or waits other 0 ≡ get_or waits other 0 + 0 = omega arith in
        even ∙ ap (λ (b : Bool). get_or waits other 0 + (if b then 1 else 0))
        (sym (ap (λ (k : ℕ). nat_lt (get_or waits k 0) most) (sym same) ∙ over))
    by false e = let even : get_or waits other 0 ≡ get_or waits other 0 + 0 = omega arith in even

pub lowered-at : (waits : List ℕ) (place other value : ℕ) → place < length waits → value ≡ get_or waits place 0 - 1
    → get_or (set waits place value) other 0 ≡ get_or waits other 0 - (if is_place other (Some place) then 1 else 0)
lowered-at waits place other value inside is = by (nat_eq place other) refl
  where
    by : (b : Bool) → nat_eq place other ≡ b
        → get_or (set waits place value) other 0 ≡ get_or waits other 0 - (if b then 1 else 0)
    by true e =
        let same : place ≡ other = eqb-true place other e in
        ap (λ (k : ℕ). get_or (set waits place value) k 0) (sym same) ∙ get_or-set_same waits place value 0 inside ∙ is
        ∙ ap (λ (k : ℕ). get_or waits k 0 - 1) same
    by false e =
        get_or-set_other waits place other value 0 (λ same. eqb-false place other e (sym same))
        ∙ (let even : get_or waits other 0 ≡ get_or waits other 0 - 0 = omega arith in even)

pub lowered-not : (waits : List ℕ) (place other : ℕ) → length waits ≤ place
    → get_or waits other 0 ≡ get_or waits other 0 - (if is_place other (Some place) then 1 else 0)
lowered-not waits place other past = by (nat_eq place other) refl
  where
    by : (b : Bool) → nat_eq place other ≡ b → get_or waits other 0 ≡ get_or waits other 0 - (if b then 1 else 0)
    by true e =
        let same : place ≡ other = eqb-true place other e in
        let none : get_or waits other 0 ≡ 0 = get_or_past waits other 0 (omega (arith, same, past)) in
        omega (arith, none)
    by false e = let even : get_or waits other 0 ≡ get_or waits other 0 - 0 = omega arith in even

-- ---- a link is taken

pub free-some : (waits : List ℕ) (links : List (Option ℕ)) (here to : ℕ) → Some to ≡ free_link waits links here
    → (get_or waits here 0 ≡ 0) × (next links here ≡ Some to)
free-some waits links here to e = by (nat_lt 0 (get_or waits here 0)) refl e
  where
    by : (b : Bool) → nat_lt 0 (get_or waits here 0) ≡ b → Some to ≡ (if b then None else next links here)
        → (get_or waits here 0 ≡ 0) × (next links here ≡ Some to)
    by true h e = absurd (cc)
    by false h e = ((let none = ltb-false 0 (get_or waits here 0) h in omega (arith, none)), sym e)

free-none : (waits : List ℕ) (links : List (Option ℕ)) (here : ℕ) → None ≡ free_link waits links here
    → is_some (next links here) ≡ true → 0 < get_or waits here 0
free-none waits links here e some = by (nat_lt 0 (get_or waits here 0)) refl e
  where
    by : (b : Bool) → nat_lt 0 (get_or waits here 0) ≡ b → None ≡ (if b then None else next links here)
        → 0 < get_or waits here 0
    by true h e = ltb-true 0 (get_or waits here 0) h
    by false h e = absurd (true≢false (sym (ap is_some e ∙ some)))

pub free-inside : (waits : List ℕ) (links : List (Option ℕ)) (here to : ℕ) → Some to ≡ free_link waits links here
    → here < length links
free-inside waits links here to e = some-inside links here (ap is_some (free-some waits links here to e).1)

-- ---- what is left

pub left-start : (likes links : List (Option ℕ)) (waits : List ℕ) → links ≡ likes
    → ((place : ℕ) → place < length likes → get_or waits place 0 ≡ count_by (is_place place) likes)
    → AreLeft likes links waits
left-start likes links waits same counted = record {
  as_many = ap length same;
  counted = λ place inside. counted place inside ∙ ap (count_by (is_place place)) (sym same);
  among = λ place to e. ap (λ (ls : List (Option ℕ)). next ls place) (sym same) ∙ e;
  kept = λ place on. ap (λ (ls : List (Option ℕ)). next ls place) same;
}

-- a place on a ring is led to from one on a ring
ring-front : (likes : List (Option ℕ)) (place : ℕ) → is_reached likes (length likes) place ≡ true
    → (from : ℕ) × (next likes from ≡ Some place) × (is_reached likes (length likes) from ≡ true)
ring-front likes place on =
    let far = reached-far likes (suc (length likes) + suc zero) place on in
    let front =
    some-front (follow_places likes (suc zero)) (follow_places likes (suc (length likes)) far.0) place
    (sym (follow_places-add likes (suc (length likes)) (suc zero) far.0) ∙ far.1) in
    (front.0, one (next likes front.0) front.2, far-reached likes (suc (length likes)) far.0 front.0 (omega arith) front.1)
  where
    one : (link : Option ℕ) → option_and_then (follow_places likes zero) link ≡ Some place → link ≡ Some place
    one None e = cc
    one (Some to) e = e

module _ (likes links : List (Option ℕ)) (waits : List ℕ) (here : ℕ) (left : AreLeft likes links waits) where
  -- nothing is taken
  left-same : (links' : List (Option ℕ)) (waits' : List ℕ) → links' ≡ links
      → ((other : ℕ) → get_or waits' other 0 ≡ get_or waits other 0 - 0) → AreLeft likes links' waits'
  left-same links' waits' same fewer = record {
    as_many = ap length same ∙ left.as_many;
    counted = λ place inside.
        (let less : get_or waits' place 0 ≡ get_or waits place 0 - 0 = fewer place in
        let counted = left.counted place inside in
        let all : get_or waits' place 0 ≡ count_by (is_place place) links = omega (arith, less, counted) in all)
        ∙ ap (count_by (is_place place)) (sym same);
    among = λ place to e. left.among place to (ap (λ (ls : List (Option ℕ)). next ls place) (sym same) ∙ e);
    kept = λ place on. ap (λ (ls : List (Option ℕ)). next ls place) same ∙ left.kept place on;
  }

  module _ (to : ℕ) (free : Some to ≡ free_link waits links here) where
    none_leads : get_or waits here 0 ≡ 0
    none_leads = (free-some waits links here to free).0

    link_is : next links here ≡ Some to
    link_is = (free-some waits links here to free).1

    inside : here < length links
    inside = free-inside waits links here to free

    -- the place is on no ring
    off : is_reached likes (length likes) here ≡ true → ⊥
    off on =
        let front = ring-front likes here on in
        let kept : next links front.0 ≡ Some here = left.kept front.0 front.2 ∙ front.1 in
        let some = counts-some links here front.0 kept in
        let counted = left.counted here (let held = inside in omega (arith, held, left.as_many)) in
        let none = none_leads in
        omega (arith, some, counted, none)

    counted-cut : (place : ℕ) → place < length likes → (wait : ℕ)
        → wait ≡ get_or waits place 0 - (if is_place place (Some to) then 1 else 0)
        → wait ≡ count_by (is_place place) (set links here None)
    counted-cut place held wait is = by (is_place place (Some to)) refl
      where
        change : count_by (is_place place) (set links here None) + tells place (get_or links here None)
            ≡ count_by (is_place place) links + 0
        change = sum_by-set (tells place) links here None None inside

        old : tells place (get_or links here None) ≡ tells place (Some to)
        old = ap (tells place) (sym (next-get links here) ∙ link_is)

        by : (b : Bool) → is_place place (Some to) ≡ b → wait ≡ count_by (is_place place) (set links here None)
        by true e =
            let one : tells place (get_or links here None) ≡ 1 = old ∙ ap (λ (b : Bool). cond {A = ℕ} b 1 0) e in
            let less : wait ≡ get_or waits place 0 - 1 =
            is ∙ ap (λ (b : Bool). get_or waits place 0 - (if b then 1 else 0)) e in
            let counted = left.counted place held in
            let now = change in
            omega (arith, one, less, counted, now)
        by false e =
            let none : tells place (get_or links here None) ≡ 0 = old ∙ ap (λ (b : Bool). cond {A = ℕ} b 1 0) e in
            let less : wait ≡ get_or waits place 0 - 0 =
            is ∙ ap (λ (b : Bool). get_or waits place 0 - (if b then 1 else 0)) e in
            let counted = left.counted place held in
            let now = change in
            omega (arith, none, less, counted, now)

    among-cut : (place next_place : ℕ) → next (set links here None) place ≡ Some next_place
        → next likes place ≡ Some next_place
    among-cut place next_place e = by (nat_eq place here) refl
      where
        by : (b : Bool) → nat_eq place here ≡ b → next likes place ≡ Some next_place
        by true same =
            let gone : next (set links here None) place ≡ None =
            ap (next (set links here None)) (eqb-true place here same) ∙ cut-same links here inside in
            let never : None ≡ Some next_place = sym gone ∙ e in
            absurd (cc)
        by false apart =
            left.among place next_place (sym (cut-other links here place (eqb-false place here apart)) ∙ e)

    kept-cut : (place : ℕ) → is_reached likes (length likes) place ≡ true
        → next (set links here None) place ≡ next likes place
    kept-cut place on = by (nat_eq place here) refl
      where
        by : (b : Bool) → nat_eq place here ≡ b → next (set links here None) place ≡ next likes place
        by true same =
            absurd (off (subst (λ (k : ℕ). is_reached likes (length likes) k ≡ true) (eqb-true place here same) on))
        by false apart = cut-other links here place (eqb-false place here apart) ∙ left.kept place on

    left-taken : (links' : List (Option ℕ)) (waits' : List ℕ) → links' ≡ set links here None
        → ((other : ℕ) → get_or waits' other 0 ≡ get_or waits other 0 - (if is_place other (Some to) then 1 else 0))
        → AreLeft likes links' waits'
    left-taken links' waits' same fewer = record {
      as_many = ap length same ∙ length-set links here None ∙ left.as_many;
      counted = λ place held.
          counted-cut place held (get_or waits' place 0) (fewer place)
          ∙ ap (count_by (is_place place)) (sym same);
      among = λ place to' e. among-cut place to' (ap (λ (ls : List (Option ℕ)). next ls place) (sym same) ∙ e);
      kept = λ place on. ap (λ (ls : List (Option ℕ)). next ls place) same ∙ kept-cut place on;
    }

pub left-step : (likes links : List (Option ℕ)) (waits : List ℕ) (here : ℕ) (links' : List (Option ℕ))
    (waits' : List ℕ) (result : Option ℕ) → result ≡ free_link waits links here
    → links' ≡ without_link links here result
    → ((other : ℕ) → get_or waits' other 0 ≡ get_or waits other 0 - (if is_place other result then 1 else 0))
    → AreLeft likes links waits → AreLeft likes links' waits'
left-step likes links waits here links' waits' None free same fewer left =
    left-same likes links waits here left links' waits' same fewer
left-step likes links waits here links' waits' (Some to) free same fewer left =
    left-taken likes links waits here left to free links' waits' same fewer

-- each place but the next one stays settled
pub settled-step : (links : List (Option ℕ)) (waits : List ℕ) (here : ℕ) (links' : List (Option ℕ)) (waits' : List ℕ)
    (result : Option ℕ) (other : ℕ) → result ≡ free_link waits links here → links' ≡ without_link links here result
    → ((other : ℕ) → get_or waits' other 0 ≡ get_or waits other 0 - (if is_place other result then 1 else 0))
    → (is_place other (Some here) ≡ false → IsSettled links waits other) → is_place other result ≡ false
    → IsSettled links' waits' other
settled-step links waits here links' waits' None other free same fewer settled last = λ some. by some (nat_eq here other) refl
  where
    before : is_some (next links' other) ≡ true → is_some (next links other) ≡ true
    before some = ap (λ (ls : List (Option ℕ)). is_some (next ls other)) (sym same) ∙ some

    by : is_some (next links' other) ≡ true → (b : Bool) → nat_eq here other ≡ b → 0 < get_or waits' other 0
    by some true e =
        let one : here ≡ other = eqb-true here other e in
        let led = free-none waits links here free
        (ap (λ (k : ℕ). is_some (next links k)) one ∙ before some) in
        let there : 0 < get_or waits other 0 = subst (λ (k : ℕ). 0 < get_or waits k 0) one led in
        let less : get_or waits' other 0 ≡ get_or waits other 0 - 0 = fewer other in
        omega (arith, there, less)
    by some false e =
        let there = settled e (before some) in
        let less : get_or waits' other 0 ≡ get_or waits other 0 - 0 = fewer other in
        omega (arith, there, less)
settled-step links waits here links' waits' (Some to) other free same fewer settled last = λ some. by some (nat_eq here other) refl
  where
    inside : here < length links
    inside = free-inside waits links here to free

    less : get_or waits' other 0 ≡ get_or waits other 0 - 0
    less = fewer other ∙ ap (λ (b : Bool). get_or waits other 0 - (if b then 1 else 0)) last

    by : is_some (next links' other) ≡ true → (b : Bool) → nat_eq here other ≡ b → 0 < get_or waits' other 0
    by some true e =
        let one : here ≡ other = eqb-true here other e in
        let gone : next links' other ≡ None =
        ap (λ (ls : List (Option ℕ)). next ls other) same
        ∙ (ap (next (set links here None)) (sym one) ∙ cut-same links here inside) in
        absurd (true≢false (sym some ∙ ap is_some gone))
    by some false e =
        let apart : other ≢ here = λ one. eqb-false here other e (sym one) in
        let old : is_some (next links other) ≡ true =
        ap is_some (sym (cut-other links here other apart)) ∙ ap (λ (ls : List (Option ℕ)). is_some (next ls other)) (sym same) ∙ some in
        let there = settled e old in
        let now = less in
        omega (arith, there, now)

-- ---- the work that is left

abbrev linked : Option ℕ → ℕ
linked link = cond (is_some link) 1 0

abbrev linked_all : List (Option ℕ) → ℕ
linked_all links = count_by (λ (link : Option ℕ). is_some link) links

abbrev pub work : List (Option ℕ) → Option ℕ → ℕ
work links place = linked_all links + (if is_some place then 1 else 0)

pub work-less : (links : List (Option ℕ)) (waits : List ℕ) (here : ℕ) (links' : List (Option ℕ)) (result : Option ℕ)
    → result ≡ free_link waits links here → links' ≡ without_link links here result
    → work links' result < work links (Some here)
work-less links waits here links' None free same =
    let all : linked_all links' ≡ linked_all links = ap linked_all same in
    let less : linked_all links' + 0 < linked_all links + 1 = omega (arith, all) in
    less
work-less links waits here links' (Some to) free same =
    let all : linked_all links' ≡ linked_all (set links here None) = ap linked_all same in
    let change : linked_all (set links here None) + linked (get_or links here None) ≡ linked_all links + 0 =
    sum_by-set linked links here None None (free-inside waits links here to free) in
    let one : linked (get_or links here None) ≡ 1 =
    ap linked (sym (next-get links here) ∙ (free-some waits links here to free).1) in
    let less : linked_all links' + 1 < linked_all links + 1 = omega (arith, all, change, one) in
    less

-- a place before the next one
pub below-but : (other place : ℕ) → other < place + 1 → is_place other (Some place) ≡ false → other < place
below-but other place low e = let apart : place ≢ other = eqb-false place other e in omega (arith, low, apart)

-- ---- at the end

last-step : (likes : List (Option ℕ)) (steps from place to : ℕ) → follow_places likes steps from ≡ Some place
    → next likes place ≡ Some to → follow_places likes (suc steps) from ≡ Some to
last-step likes steps from place to on link =
    let one : suc steps ≡ steps + suc zero = omega arith in
    ap (λ (k : ℕ). follow_places likes k from) one
    ∙ (follow_places-add likes steps (suc zero) from
    ∙ (ap (option_and_then (follow_places likes (suc zero))) on ∙ ap (option_and_then (follow_places likes zero)) link))

module _ (likes links : List (Option ℕ)) (waits : List ℕ) (left : AreLeft likes links waits)
    (settled : (place : ℕ) → place < length likes → IsSettled links waits place) where
  led-by : (place : ℕ) → is_some (next links place) ≡ true → (from : ℕ) × (next links from ≡ Some place)
  led-by place some =
      let held = some-inside links place some in
      let inside : place < length likes = omega (arith, held, left.as_many) in
      let led = settled place inside some in
      let counted = left.counted place inside in
      counts-from links place (omega (arith, led, counted))

  -- a place with a link is led to in any number of steps
  led-far : (steps place : ℕ) → is_some (next links place) ≡ true
      → (from : ℕ) × (follow_places likes steps from ≡ Some place)
  led-far zero place some = (place, refl)
  led-far (suc steps) place some =
      let front = led-by place some in
      let back = led-far steps front.0 (ap is_some front.1) in
      (back.0, last-step likes steps back.0 front.0 place back.1 (left.among front.0 place front.1))

  pub rings-left : (place : ℕ) → is_some (next links place) ≡ is_reached likes (length likes) place
  rings-left place = by (is_some (next links place)) (is_reached likes (length likes) place) refl refl
    where
      by : (a b : Bool) → is_some (next links place) ≡ a → is_reached likes (length likes) place ≡ b → a ≡ b
      by true true e h = refl
      by false false e h = refl
      by true false e h =
          let far = led-far (suc (length likes)) place e in
          let on = far-reached likes (suc (length likes)) far.0 place (omega arith) far.1 in
          absurd (true≢false (sym on ∙ h))
      by false true e h =
          let back = reached-steps likes (length likes) place h in
          let first = some-front (follow_places likes back.0) (next likes place) place back.1 in
          let link : next links place ≡ Some first.0 = left.kept place h ∙ first.1 in
          absurd (true≢false (sym (ap is_some link) ∙ e))
