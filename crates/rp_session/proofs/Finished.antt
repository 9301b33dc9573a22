-- Each session of a run ends.
use Rattle.std.proofs.Common.{◌≡◌, ◌⊎◌, inl, inr, ℕ, zero, suc, ◌+◌, ◌<◌, ◌≤◌, Bool, true, false, nat_eq, if◌then◌else◌, List, [], ◌∷◌, ◌++◌, length, map, find, get_or, Option, Some, None, Result, Ok, Err, IfSome, refl, sym, ap, subst, ◌∙◌, arith, eq-eqb, eqb-true, ne_eqb}
use Rattle.std.specs.List.{AllByRecursion}
use Rattle.std.specs.Option.{IsSome}
use Rattle.std.proofs.lemmas.Bool.Decides.{nat_tests}
use Rattle.rp_base.specs.declared.value.Side.{Side}
use Rattle.rp_meaning.specs.Frame.{Run}
use Rattle.rp_meaning.specs.Load.{with_new_session}
use Rattle.rp_meaning.specs.Meaning.{exec}
use Rattle.rp_meaning.specs.Running.{program_frame}
use Rattle.rp_meaning.specs.Sessions.{Session, SessionEnd, World, count, end_after, finished, first_end, played, run_all, session_after, state_of, statement_at, turn, turn_of, turns, turns_of, unless_ended, well, with_session, world_after}
use Rattle.rp_meaning.specs.State.{Outcome, Flow}
use Rattle.rp_ops.specs.Outcome.{End}
use Rattle.rp_session.specs.Played.{with_new_sessions}
use Rattle.rp_tree.specs.Statements.{Stmt, Stmts, no_stmts, stmt}

-- ---- the session of a number among some

abbrev pub has : ℕ → Session → Bool
has n k = nat_eq k.side.0 n

has-number : (n : ℕ) (k : Session) → k.side.0 ≡ n → has n k ≡ true
has-number n k e = eq-eqb k.side.0 n e

has-other : (n m : ℕ) (k : Session) → k.side.0 ≡ m → nat_eq m n ≡ false → has n k ≡ false
has-other n m k e other = ap (λ i. nat_eq i n) e ∙ other

-- the one that is found has the number
found-has : (n : ℕ) (ks : List Session) (k : Session) → find (has n) ks ≡ Some k → k.side.0 ≡ n
found-has n [] k found = absurd (let none : ◌≡◌ {A = Option Session} None (Some k) = found in cc)
found-has n (j ∷ ks) k found = by (has n j) refl found (found-has n ks k)
  where
    by : (b : Bool) → has n j ≡ b → (if b then Some j else find (has n) ks) ≡ Some k → (find (has n) ks ≡ Some k → k.side.0 ≡ n) → k.side.0 ≡ n
    by true e here rest =
        let same : ◌≡◌ {A = Option Session} (Some j) (Some k) = here in
        let is : j ≡ k = cc in
        ap (λ (i : Session). i.side.0) (sym is) ∙ eqb-true j.side.0 n e
    by false e there rest = rest there

-- it is found in place of the one that was found
found-same : (n : ℕ) (ks : List Session) (k j : Session) → j.side.0 ≡ n → find (has n) ks ≡ Some k → find (has n) (with_session j ks) ≡ Some j
found-same n [] k j e found = absurd (let none : ◌≡◌ {A = Option Session} None (Some k) = found in cc)
found-same n (i ∷ ks) k j e found = by (has n i) refl found (found-same n ks k j e)
  where
    at : has j.side.0 i ≡ has n i
    at = ap (λ m. has m i) e

    by : (b : Bool) → has n i ≡ b → (if b then Some i else find (has n) ks) ≡ Some k
        → (find (has n) ks ≡ Some k → find (has n) (with_session j ks) ≡ Some j)
        → (if has n (if has j.side.0 i then j else i) then Some (if has j.side.0 i then j else i) else find (has n) (with_session j ks)) ≡ Some j
    by true is here rest =
        ap (λ b. if has n (if b then j else i) then Some (if b then j else i) else find (has n) (with_session j ks)) (at ∙ is)
        ∙ ap (λ b. if b then Some j else find (has n) (with_session j ks)) (has-number n j e)
    by false is there rest =
        ap (λ b. if has n (if b then j else i) then Some (if b then j else i) else find (has n) (with_session j ks)) (at ∙ is)
        ∙ ap (λ b. if b then Some i else find (has n) (with_session j ks)) is
        ∙ rest there

-- and no other is
found-other : (n : ℕ) (ks : List Session) (j : Session) → has n j ≡ false → find (has n) (with_session j ks) ≡ find (has n) ks
found-other n [] j other = refl
found-other n (i ∷ ks) j other = by (has j.side.0 i) refl (found-other n ks j other)
  where
    by : (b : Bool) → has j.side.0 i ≡ b → find (has n) (with_session j ks) ≡ find (has n) ks → (if has n (if b then j else i) then Some (if b then j else i) else find (has n) (with_session j ks)) ≡ (if has n i then Some i else find (has n) ks)
    by true is rest =
        let same : has n i ≡ has n j = ap (λ m. nat_eq m n) (eqb-true i.side.0 j.side.0 is) in
        ap (λ b. if b then Some j else find (has n) (with_session j ks)) other
        ∙ rest
        ∙ sym (ap (λ b. if b then Some i else find (has n) ks) (same ∙ other))
    by false is rest = ap (λ found. if has n i then Some i else found) rest

-- what is before the count of statements is one of them
there : (i : ℕ) (xs : Stmts) → i < count xs → (x : Stmt) × (statement_at i xs ≡ Some x)
there i no_stmts low = absurd (omega arith)
there zero (stmt x xs) low = (x, refl)
there (suc i) (stmt x xs) low = there i xs (omega arith)

-- where the session of a number is such
abbrev pub Where : (Session → Type 0) → ℕ → World → Type 0
Where P n w = IfSome (find (has n) w.sessions) P

where-weaker : (P Q : Session → Type 0) (n : ℕ) (w : World) → ((k : Session) → k.side.0 ≡ n → P k → Q k) → Where P n w → Where Q n w
where-weaker P Q n w goes = by (find (has n) w.sessions) refl
  where
    by : (o : Option Session) → find (has n) w.sessions ≡ o → IfSome o P → IfSome o Q
    by None is h = tt
    by (Some k) is h = goes k (found-has n w.sessions k is) h

where-found : (P : Session → Type 0) (n : ℕ) (w : World) (o : Option Session) → find (has n) w.sessions ≡ o → IfSome o P → Where P n w
where-found P n w o is h = subst (λ (o : Option Session). IfSome o P) (sym is) h

abbrev pub HasEnded : Session → Type 0
HasEnded k = IsSome k.end

not-ended : (k : Session) → k.end ≡ None → HasEnded k → ⊥
not-ended k none some = let both : false ≡ true = subst IsSome none some in cc

module _ (run : Run) where
  abbrev statements : Session → ℕ
  statements k = count (run.programs k.side).body

  -- it has ended, or some statement of its program is next
  abbrev pub Stands : Session → Type 0
  Stands k = HasEnded k ⊎ ((k.end ≡ None) × (k.next < statements k))

  abbrev pub AllStand : List Session → Type 0
  AllStand ks = AllByRecursion Stands ks

  -- it has ended, or so many turns will do
  abbrev EndsWithin : ℕ → Session → Type 0
  EndsWithin left k = HasEnded k ⊎ ((k.end ≡ None) × (k.next < statements k) × (statements k ≤ k.next + left))

  -- behind a statement
  abbrev after : Session → Outcome Flow → Session
  after k o = session_after (statements k) k o

  -- it has ended behind a statement, or there is one more
  goes-on : (k : Session) (o : Outcome Flow) → k.next < statements k → HasEnded (after k o) ⊎ (((after k o).end ≡ None) × ((after k o).next < statements k))
  goes-on k o low = by o.answer
    where
      at : (b : Bool) → nat_eq (k.next + 1) (statements k) ≡ b → IsSome (if b then Some well else None) ⊎ (((if b then Some well else None) ≡ None) × (k.next + 1 < statements k))
      at true e = inl refl
      at false e =
          let other : k.next + 1 ≡ statements k → ⊥ = λ same. absurd (grind (arith, nat_tests, e, same)) in
          inr (refl, omega (arith, low, other))

      by : (answer : Result Flow End) → IsSome (end_after (k.next + 1) (statements k) answer) ⊎ ((end_after (k.next + 1) (statements k) answer ≡ None) × (k.next + 1 < statements k))
      by (Err e) = inl refl
      by (Ok flow) = at (nat_eq (k.next + 1) (statements k)) refl

  -- a turn of another number
  other-turn : (n m : ℕ) (w : World) → nat_eq m n ≡ false → find (has n) (turn run m w).sessions ≡ find (has n) w.sessions
  other-turn n m w other = by (find (has m) w.sessions) refl
    where
      said : (k : Session) → k.side.0 ≡ m → (o : Option Stmt) → find (has n) (played run w k o).sessions ≡ find (has n) w.sessions
      said k number None = refl
      said k number (Some x) = found-other n w.sessions (after k (exec x (program_frame run k.side k.globals) (state_of w k))) (has-other n m k number other)

      unless : (k : Session) → k.side.0 ≡ m → (end : Option SessionEnd) → find (has n) (unless_ended run w k end).sessions ≡ find (has n) w.sessions
      unless k number (Some e) = refl
      unless k number None = said k number (statement_at k.next (run.programs k.side).body)

      by : (o : Option Session) → find (has m) w.sessions ≡ o → find (has n) (turn_of run w o).sessions ≡ find (has n) w.sessions
      by None is = refl
      by (Some k) is = unless k (found-has m w.sessions k is) k.end

  module _ (P Q : Session → Type 0) (stands : (k : Session) → P k → Stands k) (ended : (k : Session) → P k → HasEnded k → Q k)
      (behind : (k : Session) (o : Outcome Flow) → P k → k.end ≡ None → Q (after k o)) where
    -- a turn of the number
    same-turn : (n : ℕ) (w : World) → Where P n w → Where Q n (turn run n w)
    same-turn n w = by (find (has n) w.sessions) refl
      where
        said : (k : Session) → find (has n) w.sessions ≡ Some k → P k → k.end ≡ None → (o : Option Stmt) → statement_at k.next (run.programs k.side).body ≡ o → Where Q n (played run w k o)
        said k is p none None at = absurd (elim (stands k p) [
          | inl some ↦ not-ended k none some
          | inr goes ↦
              let next = there k.next (run.programs k.side).body goes.1 in
              let both : ◌≡◌ {A = Option Stmt} None (Some next.0) = sym at ∙ next.1 in
              cc
        ])
        said k is p none (Some x) at =
            let o = exec x (program_frame run k.side k.globals) (state_of w k) in
            where-found Q n (played run w k (Some x)) (Some (after k o)) (found-same n w.sessions k (after k o) (found-has n w.sessions k is) is) (behind k o p none)

        unless : (k : Session) → find (has n) w.sessions ≡ Some k → P k → (end : Option SessionEnd) → k.end ≡ end → Where Q n (unless_ended run w k end)
        unless k is p (Some e) at = where-found Q n w (Some k) is (ended k p (subst IsSome (sym at) refl))
        unless k is p None at = said k is p at (statement_at k.next (run.programs k.side).body) refl

        by : (o : Option Session) → find (has n) w.sessions ≡ o → IfSome o P → Where Q n (turn_of run w o)
        by None is h = where-found Q n w None is tt
        by (Some k) is h = unless k is h k.end refl

  -- what stays by each turn of its own number stays by all turns
  module _ (P : Session → Type 0) (stands : (k : Session) → P k → Stands k) (behind : (k : Session) (o : Outcome Flow) → P k → k.end ≡ None → P (after k o)) where
    kept-turn : (n m : ℕ) (w : World) → Where P n w → Where P n (turn run m w)
    kept-turn n m w h = by (nat_eq m n) refl
      where
        by : (b : Bool) → nat_eq m n ≡ b → Where P n (turn run m w)
        by true e =
            subst (λ m. Where P n (turn run m w)) (sym (eqb-true m n e)) (same-turn P P stands (λ k p some. p) behind n w h)
        by false e = subst (λ (o : Option Session). IfSome o P) (sym (other-turn n m w e)) h

    kept-turns : (n : ℕ) (listed : List ℕ) (w : World) → Where P n w → Where P n (turns run listed w)
    kept-turns n [] w h = h
    kept-turns n (m ∷ listed) w h = kept-turns n listed (turn run m w) (kept-turn n m w h)

    kept-turns_of : (n i m : ℕ) (w : World) → Where P n w → Where P n (turns_of run i m w)
    kept-turns_of n zero m w h = h
    kept-turns_of n (suc i) m w h = kept-turns_of n i m (turn run m w) (kept-turn n m w h)

    kept-finished : (n : ℕ) (ks : List Session) (w : World) → Where P n w → Where P n (finished run ks w)
    kept-finished n [] w h = h
    kept-finished n (k ∷ ks) w h = kept-finished n ks (turns_of run (statements k) k.side.0 w) (kept-turns_of n (statements k) k.side.0 w h)

  -- so some statement is next until the end
  stands-behind : (k : Session) (o : Outcome Flow) → Stands k → k.end ≡ None → Stands (after k o)
  stands-behind k o (inl some) none = absurd (not-ended k none some)
  stands-behind k o (inr goes) none = goes-on k o goes.1

  ended-behind : (k : Session) (o : Outcome Flow) → HasEnded k → k.end ≡ None → HasEnded (after k o)
  ended-behind k o some none = absurd (not-ended k none some)

  -- and fewer turns will do
  within-stands : (left : ℕ) (k : Session) → EndsWithin left k → Stands k
  within-stands left k (inl some) = inl some
  within-stands left k (inr goes) = inr (goes.0, goes.1)

  within-behind : (left : ℕ) (k : Session) (o : Outcome Flow) → EndsWithin (suc left) k → k.end ≡ None → EndsWithin left (after k o)
  within-behind left k o (inl some) none = absurd (not-ended k none some)
  within-behind left k o (inr goes) none = elim (goes-on k o goes.1) [
    | inl some ↦ inl some
    | inr more ↦ (let enough : statements k ≤ k.next + suc left = goes.2 in
        let enough : statements k ≤ k.next + 1 + left = omega arith in
        inr (more.0, more.1, enough))
  ]

  within-turns : (left n : ℕ) (w : World) → Where (EndsWithin left) n w → Where (EndsWithin 0) n (turns_of run left n w)
  within-turns zero n w h = h
  within-turns (suc left) n w h =
      within-turns left n (turn run n w)
      (same-turn (EndsWithin (suc left)) (EndsWithin left) (within-stands (suc left)) (λ k p some. inl some) (within-behind left) n w h)

  at-last : (k : Session) → EndsWithin 0 k → HasEnded k
  at-last k (inl some) = some
  at-last k (inr goes) = (let low = goes.1 in let enough = goes.2 in absurd (omega arith))

  -- as many turns as it has statements
  to-end : (side : Side) (w : World) → Where Stands side.0 w → Where HasEnded side.0 (turns_of run (count (run.programs side).body) side.0 w)
  to-end side w h =
      let many = count (run.programs side).body in
      let enough : (k : Session) → k.side.0 ≡ side.0 → Stands k → EndsWithin many k = λ k number stands. elim stands [
        | inl some ↦ inl some
        | inr goes ↦ (let same : many ≡ statements k = ap (λ n. count (run.programs (record { 0 = n })).body) (sym number) in
            let all : statements k ≤ k.next + many = omega arith in
            inr (goes.0, goes.1, all))
      ] in
      where-weaker (EndsWithin 0) HasEnded side.0 (turns_of run many side.0 w) (λ k number p. at-last k p)
      (within-turns many side.0 w (where-weaker Stands (EndsWithin many) side.0 w enough h))

  finished-ends : (ks : List Session) (w : World) (i : ℕ) (d : Session) → i < length ks → Where Stands (get_or ks i d).side.0 w → Where HasEnded (get_or ks i d).side.0 (finished run ks w)
  finished-ends [] w i d inside h = absurd (omega arith)
  finished-ends (k ∷ ks) w zero d inside h =
      kept-finished HasEnded (λ k some. inl some) ended-behind k.side.0 ks (turns_of run (statements k) k.side.0 w) (to-end k.side w h)
  finished-ends (k ∷ ks) w (suc i) d inside h =
      finished-ends ks (turns_of run (statements k) k.side.0 w) i d (omega arith)
      (kept-turns_of Stands (λ k stands. stands) stands-behind (get_or ks i d).side.0 (statements k) k.side.0 w h)

  -- ---- at first

  all-where : (P : Session → Type 0) (n : ℕ) (ks : List Session) → AllByRecursion P ks → IfSome (find (has n) ks) P
  all-where P n [] h = tt
  all-where P n (k ∷ ks) h = by (has n k) h.0 (all-where P n ks h.1)
    where
      by : (b : Bool) → P k → IfSome (find (has n) ks) P → IfSome (if b then Some k else find (has n) ks) P
      by true here rest = here
      by false here rest = rest

  begins : (xs : Stmts) → IsSome (first_end xs) ⊎ ((first_end xs ≡ None) × (0 < count xs))
  begins no_stmts = inl refl
  begins (stmt x xs) = inr (refl, omega arith)

  one-more : (P : Session → Type 0) (ks : List Session) (k : Session) → AllByRecursion P ks → P k → AllByRecursion P (ks ++ k ∷ [])
  one-more P [] k h p = (p, tt)
  one-more P (j ∷ ks) k h p = (h.0, one-more P ks k h.1 p)

  pub new-stand : (whos : List (List (List ℕ))) (steps : ℕ) (w : World) → AllStand w.sessions → AllStand (with_new_sessions run whos steps w).sessions
  new-stand [] steps w h = h
  new-stand (who ∷ whos) steps w h =
      new-stand whos steps (with_new_session run who steps w) (one-more Stands w.sessions _ h (begins (run.programs (record { 0 = suc (length w.sessions) })).body))

  -- each of the sessions has ended in the end
  pub each-ends : (listed : List ℕ) (w : World) (i : ℕ) (d : Session) → i < length w.sessions → AllStand w.sessions
      → Where HasEnded (get_or w.sessions i d).side.0 (run_all run listed w)
  each-ends listed w i d inside h =
      let n = (get_or w.sessions i d).side.0 in
      finished-ends w.sessions (turns run listed w) i d inside
      (kept-turns Stands (λ k stands. stands) stands-behind n listed w (all-where Stands n w.sessions h))
