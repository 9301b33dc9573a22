-- Sessions that are numbered one after another.
use Rattle.std.proofs.Common.{◌≡◌, refl, sym, ap, ◌∙◌, ℕ, zero, suc, ◌+◌, ◌<◌, Bool, nat_eq, if◌then◌else◌, List, [], ◌∷◌, ◌++◌, map, length, get_or, Some, None, arith, eq-eqb}
use Rattle.std.specs.Prelude.{find}
use Rattle.std.proofs.Math.ListN.{set}
use Rattle.std.proofs.lemmas.Bool.{ne_eqb}
use Rattle.rp_base.specs.declared.value.Side.{Side}
use Rattle.rp_meaning.specs.Frame.{Run}
use Rattle.rp_meaning.specs.Sessions as meant
use Rattle.rp_meaning.specs.Sessions.{count, finished, turns_of, with_session}
use Rattle.rp_session.specs.Ready.{AreNumberedFrom}
use Rattle.rp_session.specs.View.{session_view}
use Rattle.rp_session.specs.declared.session.Session.{Session}

-- whether a session has that number
abbrev has : ℕ → meant.Session → Bool
has m k = nat_eq k.side.0 m

pub number-at : (n : ℕ) (ks : List Session) (i : ℕ) (d : Session) → AreNumberedFrom n ks → i < length ks
    → (get_or ks i d).running.session ≡ n + i
number-at n [] i d h inside = absurd (omega arith)
number-at n (k ∷ ks) zero d h inside = let e : k.running.session ≡ n = h.0 in omega arith
number-at n (k ∷ ks) (suc i) d h inside =
    let e : (get_or ks i d).running.session ≡ suc n + i = number-at (suc n) ks i d h.1 (omega arith) in omega arith

pub found-at : (n m : ℕ) (ks : List Session) (i : ℕ) (d : Session) → AreNumberedFrom n ks → i < length ks → m ≡ n + i
    → find (has m) (map session_view ks) ≡ Some (session_view (get_or ks i d))
found-at n m [] i d h inside e = absurd (omega arith)
found-at n m (k ∷ ks) zero d h inside e =
    let is : k.running.session ≡ n = h.0 in
    ap (λ b. if b then Some (session_view k) else find (has m) (map session_view ks)) (eq-eqb k.running.session m (omega arith))
found-at n m (k ∷ ks) (suc i) d h inside e =
    let is : k.running.session ≡ n = h.0 in
    ap (λ b. if b then Some (session_view k) else find (has m) (map session_view ks)) (ne_eqb k.running.session m (λ same. omega arith))
    ∙ found-at (suc n) m ks i d h.1 (omega arith) (omega arith)

pub found-none : (n m : ℕ) (ks : List Session) → AreNumberedFrom n ks → ((i : ℕ) → i < length ks → m ≡ n + i → ⊥)
    → find (has m) (map session_view ks) ≡ None
found-none n m [] h no_place = refl
found-none n m (k ∷ ks) h no_place =
    let is : k.running.session ≡ n = h.0 in
    ap (λ b. if b then Some (session_view k) else find (has m) (map session_view ks))
    (ne_eqb k.running.session m (λ same. no_place 0 (omega arith) (omega arith)))
    ∙ found-none (suc n) m ks h.1 (λ i inside e. no_place (suc i) (omega arith) (omega arith))

-- in place of none of those behind its number
with-none : (n : ℕ) (ks : List Session) (j : Session) → AreNumberedFrom n ks → j.running.session < n
    → with_session (session_view j) (map session_view ks) ≡ map session_view ks
with-none n [] j h before = refl
with-none n (k ∷ ks) j h before =
    let is : k.running.session ≡ n = h.0 in
    let other = ap (λ b. if b then session_view j else session_view k) (ne_eqb k.running.session j.running.session (λ same. omega arith)) in
    let rest = with-none (suc n) ks j h.1 (omega arith) in
    λ p. other p ∷ rest p

pub with-at : (n : ℕ) (ks : List Session) (i : ℕ) (j : Session) → AreNumberedFrom n ks → i < length ks → j.running.session ≡ n + i
    → with_session (session_view j) (map session_view ks) ≡ map session_view (set ks i j)
with-at n [] i j h inside e = absurd (omega arith)
with-at n (k ∷ ks) zero j h inside e =
    let is : k.running.session ≡ n = h.0 in
    let head = ap (λ b. if b then session_view j else session_view k) (eq-eqb k.running.session j.running.session (omega arith)) in
    let rest = with-none (suc n) ks j h.1 (omega arith) in
    λ p. head p ∷ rest p
with-at n (k ∷ ks) (suc i) j h inside e =
    let is : k.running.session ≡ n = h.0 in
    let other = ap (λ b. if b then session_view j else session_view k) (ne_eqb k.running.session j.running.session (λ same. omega arith)) in
    let rest = with-at (suc n) ks i j h.1 (omega arith) (omega arith) in
    λ p. other p ∷ rest p

pub numbered-set : (n : ℕ) (ks : List Session) (i : ℕ) (j : Session) → AreNumberedFrom n ks → j.running.session ≡ n + i → AreNumberedFrom n (set ks i j)
numbered-set n [] i j h e = tt
numbered-set n (k ∷ ks) zero j h e = (omega arith, h.1)
numbered-set n (k ∷ ks) (suc i) j h e = (h.0, numbered-set (suc n) ks i j h.1 (omega arith))

pub numbered-last : (n : ℕ) (ks : List Session) (j : Session) → AreNumberedFrom n ks → j.running.session ≡ n + length ks → AreNumberedFrom n (ks ++ j ∷ [])
numbered-last n [] j h e = (omega arith, tt)
numbered-last n (k ∷ ks) j h e = (h.0, numbered-last (suc n) ks j h.1 (omega arith))

-- the sides of sessions, by which they are run to their ends
abbrev pub sides : List meant.Session → List Side
sides ks = map (λ k. k.side) ks

pub sides-numbered : (n : ℕ) (ks js : List Session) → AreNumberedFrom n ks → AreNumberedFrom n js → length ks ≡ length js
    → sides (map session_view ks) ≡ sides (map session_view js)
sides-numbered n [] [] h i e = refl
sides-numbered n [] (j ∷ js) h i e = absurd (omega arith)
sides-numbered n (k ∷ ks) [] h i e = absurd (omega arith)
sides-numbered n (k ∷ ks) (j ∷ js) h i e =
    let head : k.running.session ≡ j.running.session = h.0 ∙ sym i.0 in
    let rest = sides-numbered (suc n) ks js h.1 i.1 (omega arith) in
    λ p. record { 0 = head p } ∷ rest p

pub finished-sides : (run : Run) (ks js : List meant.Session) (w : meant.World) → sides ks ≡ sides js → finished run ks w ≡ finished run js w
finished-sides run [] [] w e = refl
finished-sides run [] (j ∷ js) w e = absurd (cc)
finished-sides run (k ∷ ks) [] w e = absurd (cc)
finished-sides run (k ∷ ks) (j ∷ js) w e =
    let head : k.side ≡ j.side = cc in
    let rest : sides ks ≡ sides js = cc in
    ap (λ (side : Side). finished run ks (turns_of run (count (run.programs side).body) side.0 w)) head
    ∙ finished-sides run ks js (turns_of run (count (run.programs j.side).body) j.side.0 w) rest
