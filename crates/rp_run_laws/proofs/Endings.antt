-- Each session of a run that begins with none has ended in the end.
use Rattle.std.proofs.Common.{◌≡◌, ◌∙◌, ◌+◌, ◌<◌, ◌++◌, ◌∷◌, ℕ, zero, suc, Bool, true, false, nat_eq, if◌then◌else◌}
use Rattle.std.proofs.Common.{List, [], length, map, find, get_or}
use Rattle.std.proofs.Common.{Option, Some, None, IfSome, ap, arith, refl, sym, subst}
use Rattle.std.specs.Option.{IsSome}
use Rattle.std.proofs.lemmas.Bool.{eq-eqb, eqb-true, ne_eqb}
use Rattle.std.proofs.lemmas.List.{length-append, length-map, map-append}
use Rattle.rp_meaning.specs.Frame.{Run}
use Rattle.rp_meaning.specs.Load.{with_new_session}
use Rattle.rp_meaning.specs.Meaning.{exec}
use Rattle.rp_meaning.specs.Running.{program_frame}
use Rattle.rp_meaning.specs.Sessions.{Session, SessionEnd, World, count, finished, played, run_all, session_after}
use Rattle.rp_meaning.specs.Sessions.{state_of, statement_at, turn, turn_of, turns, turns_of, unless_ended}
use Rattle.rp_meaning.specs.Sessions.{with_session}
use Rattle.rp_meaning.specs.Unmonitored.{told_of}
use Rattle.rp_session.specs.Played.{played_from, with_new_sessions}
use Rattle.rp_session.proofs.Finished.{AllStand, HasEnded, Where, each-ends, has, new-stand}
use Rattle.rp_run.specs.Output.{Finished, as_told}
use Rattle.rp_tree.specs.Statements.{Stmt}

-- ---- the numbers of sessions stay

abbrev sides : List Session → List ℕ
sides ks = map (λ (k : Session). k.side.0) ks

-- those of a world
abbrev sides_in : World → List ℕ
sides_in w = sides w.sessions

with-sides : (j : Session) (ks : List Session) → sides (with_session j ks) ≡ sides ks
with-sides j [] = refl
with-sides j (k ∷ ks) = λ i. by (nat_eq k.side.0 j.side.0) refl i ∷ with-sides j ks i
  where
    by : (b : Bool) → nat_eq k.side.0 j.side.0 ≡ b → (if b then j else k).side.0 ≡ k.side.0
    by true same = sym (eqb-true k.side.0 j.side.0 same)
    by false other = refl

module _ (run : Run) where
  turn-sides : (n : ℕ) (w : World) → sides_in (turn run n w) ≡ sides_in w
  turn-sides n w = by (find (λ k. nat_eq k.side.0 n) w.sessions) where
    said : (k : Session) (o : Option Stmt) → sides_in (played run w k o) ≡ sides_in w
    said k None = refl
    said k (Some x) =
        let o = exec x (program_frame run k.side k.globals) (state_of w k) in
        with-sides (session_after (count (run.programs k.side).body) k o) w.sessions

    unless : (k : Session) (end : Option SessionEnd) → sides_in (unless_ended run w k end) ≡ sides_in w
    unless k (Some e) = refl
    unless k None = said k (statement_at k.next (run.programs k.side).body)

    by : (o : Option Session) → sides_in (turn_of run w o) ≡ sides_in w
    by None = refl
    by (Some k) = unless k k.end

  turns-sides : (ns : List ℕ) (w : World) → sides_in (turns run ns w) ≡ sides_in w
  turns-sides [] w = refl
  turns-sides (n ∷ ns) w = turns-sides ns (turn run n w) ∙ turn-sides n w

  turns_of-sides : (many n : ℕ) (w : World) → sides_in (turns_of run many n w) ≡ sides_in w
  turns_of-sides zero n w = refl
  turns_of-sides (suc many) n w = turns_of-sides many n (turn run n w) ∙ turn-sides n w

  finished-sides : (ks : List Session) (w : World) → sides_in (finished run ks w) ≡ sides_in w
  finished-sides [] w = refl
  finished-sides (k ∷ ks) w =
      finished-sides ks (turns_of run (count (run.programs k.side).body) k.side.0 w)
      ∙ turns_of-sides (count (run.programs k.side).body) k.side.0 w

  run-sides : (listed : List ℕ) (w : World) → sides_in (run_all run listed w) ≡ sides_in w
  run-sides listed w = finished-sides w.sessions (turns run listed w) ∙ turns-sides listed w

-- ---- they are 1, 2, 3 and so on

abbrev AreFrom : ℕ → List ℕ → Type 0
AreFrom n [] = Unit {0}
AreFrom n (m ∷ ms) = (m ≡ n) × AreFrom (suc n) ms

from-more : (n : ℕ) (ms : List ℕ) (m : ℕ) → AreFrom n ms → m ≡ n + length ms → AreFrom n (ms ++ m ∷ [])
from-more n [] m are is = let plain : n + 0 ≡ n = omega arith in (is ∙ plain, tt)
from-more n (k ∷ ms) m are is =
    let next : m ≡ suc n + length ms = omega (arith, is) in
    (are.0, from-more (suc n) ms m are.1 next)

new-one : (w : World) (k : Session) → k.side.0 ≡ suc (length w.sessions) → AreFrom 1 (sides_in w)
    → AreFrom 1 (sides (w.sessions ++ k ∷ []))
new-one w k is are =
    let many : length (sides_in w) ≡ length w.sessions = length-map w.sessions (λ (k : Session). k.side.0) in
    let next : k.side.0 ≡ 1 + length (sides_in w) = omega (arith, is, many) in
    subst (AreFrom 1) (sym (map-append (λ (k : Session). k.side.0) w.sessions (k ∷ [])))
    (from-more 1 (sides_in w) k.side.0 are next)

new-from : (run : Run) (whos : List (List (List ℕ))) (steps : ℕ) (w : World) → AreFrom 1 (sides_in w)
    → AreFrom 1 (sides_in (with_new_sessions run whos steps w))
new-from run [] steps w are = are
new-from run (who ∷ whos) steps w are =
    new-from run whos steps (with_new_session run who steps w) (new-one w _ refl are)

number-at : (n : ℕ) (ks : List Session) (i : ℕ) (d : Session) → AreFrom n (sides ks) → i < length ks
    → (get_or ks i d).side.0 ≡ n + i
number-at n [] i d are inside = absurd (omega arith)
number-at n (k ∷ ks) zero d are inside = let is : k.side.0 ≡ n = are.0 in omega (arith, is)
number-at n (k ∷ ks) (suc i) d are inside =
    let is = number-at (suc n) ks i d are.1 (omega arith) in omega (arith, is)

found-at : (n m : ℕ) (ks : List Session) (i : ℕ) (d : Session) → AreFrom n (sides ks) → i < length ks → m ≡ n + i
    → find (has m) ks ≡ Some (get_or ks i d)
found-at n m [] i d are inside is = absurd (omega arith)
found-at n m (k ∷ ks) zero d are inside is =
    let same : k.side.0 ≡ m = are.0 ∙ (omega (arith, is)) in
    ap (λ (b : Bool). if b then Some k else find (has m) ks) (eq-eqb k.side.0 m same)
found-at n m (k ∷ ks) (suc i) d are inside is =
    let first : k.side.0 ≡ n = are.0 in
    let other : k.side.0 ≡ m → ⊥ = λ same. absurd (omega (arith, first, is, same)) in
    ap (λ (b : Bool). if b then Some k else find (has m) ks) (ne_eqb k.side.0 m other)
    ∙ found-at (suc n) m ks i d are.1 (omega arith) (omega (arith, is))

-- ---- each has ended

pub ends-all : (run : Run) (whos : List (List (List ℕ))) (listed : List ℕ) (steps : ℕ) (w : World) → w.sessions ≡ []
    → (i : ℕ) (d : Session) → i < length (played_from run w whos listed steps).sessions
    → HasEnded (get_or (played_from run w whos listed steps).sessions i d)
ends-all run whos listed steps w none i d inside =
    let begun = with_new_sessions run whos steps w in
    let last = played_from run w whos listed steps in
    let of = λ (k : Session). k.side.0 in
    let stand = new-stand run whos steps w (subst (λ (l : List Session). AllStand run l) (sym none) tt) in
    let are : AreFrom 1 (sides_in begun) =
    new-from run whos steps w (subst (λ (l : List Session). AreFrom 1 (sides l)) (sym none) tt) in
    let same : sides_in last ≡ sides_in begun = run-sides run listed begun in
    let many : length last.sessions ≡ length begun.sessions =
    sym (length-map last.sessions of) ∙ ap length same ∙ length-map begun.sessions of in
    let there : i < length begun.sessions = omega (arith, many, inside) in
    let number : (get_or begun.sessions i d).side.0 ≡ 1 + i = number-at 1 begun.sessions i d are there in
    let ends : Where HasEnded (1 + i) last =
    subst (λ (n : ℕ). Where HasEnded n last) number (each-ends run listed begun i d there stand) in
    let found = found-at 1 (1 + i) last.sessions i d (subst (AreFrom 1) (sym same) are) inside refl in
    subst (λ (o : Option Session). IfSome o HasEnded) found ends

some_end : (o : Option SessionEnd) → IsSome o → (e : SessionEnd) × (o ≡ Some e)
some_end None some = absurd (let both : false ≡ true = some in cc)
some_end (Some e) some = (e, refl)

-- so it is told how they ended
pub told-all : (ks : List Session) → ((i : ℕ) (d : Session) → i < length ks → HasEnded (get_or ks i d))
    → (fs : List Finished) × (map as_told fs ≡ map told_of ks)
told-all [] ended = ([], refl)
told-all (k ∷ ks) ended =
    let first = some_end k.end (ended zero k (omega arith)) in
    let rest = told-all ks (λ i d inside. ended (suc i) d (omega (arith, inside))) in
    ((first.0, k.printed) ∷ rest.0, λ i. (sym first.1 i, k.printed) ∷ rest.1 i)

-- ---- a single one

one-more : (ks : List Session) (k : Session) → ks ≡ [] → length (ks ++ k ∷ []) ≡ 1
one-more ks k none =
    let few : length ks ≡ 0 = ap length none in
    length-append ks (k ∷ []) ∙ (omega (arith, few))

pub one-played : (run : Run) (who : List (List ℕ)) (listed : List ℕ) (steps : ℕ) (w : World) → w.sessions ≡ []
    → length (played_from run w (who ∷ []) listed steps).sessions ≡ 1
one-played run who listed steps w none =
    let begun = with_new_sessions run (who ∷ []) steps w in
    let last = played_from run w (who ∷ []) listed steps in
    let of = λ (k : Session). k.side.0 in
    sym (length-map last.sessions of) ∙ ap length (run-sides run listed begun) ∙ length-map begun.sessions of
    ∙ one-more w.sessions _ none

pub the-one : (ks : List Session) → length ks ≡ 1 → (k : Session) × (ks ≡ k ∷ [])
the-one [] one = absurd (omega arith)
the-one (k ∷ []) one = (k, refl)
the-one (k ∷ j ∷ ks) one = absurd (omega arith)
