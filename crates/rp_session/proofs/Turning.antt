-- A turn of a session as the meaning has it.
use Rattle.std.proofs.Common.{◌≡◌, refl, sym, ap, subst, ◌∙◌, ℕ, zero, suc, ◌+◌, ◌-◌, ◌^◌, ◌<◌, ◌≤◌, nat_eq, Bool, true, false, List, [], ◌∷◌, length, map, drop, get_or, slice_range, Option, Some, None, option_map, is_some, arith, add-one, OnErr, OnOk, Result, Ok, Err}
use Rattle.std.specs.Prelude.{find}
use Rattle.std.specs.List.{All}
use Rattle.std.specs.declared.vec.Vec.{Vec}
use Rattle.std.specs.declared.alloc.Global.{Global}
use Rattle.std.proofs.Math.ListN.{drop_of_length-le, get_or-map, length-set, set}
use Rattle.std.proofs.Math.Seq.{drop-cons}
use Rattle.std.proofs.lemmas.List.{length-map, set-get_or}
use Rattle.std.proofs.lemmas.List.Elements.{All-set}
use Rattle.rp_meaning.specs.Frame.{Run}
use Rattle.rp_meaning.specs.Meaning.{exec}
use Rattle.rp_meaning.specs.Running.{program_frame}
use Rattle.rp_meaning.specs.Sessions as meant
use Rattle.rp_meaning.specs.Sessions.{count, finished, played, session_after, turn, turn_of, turns, turns_of, statement_at, unless_ended, with_session, world_after}
use Rattle.rp_meaning.specs.State.{Outcome, Flow}
use Rattle.rp_proxy.specs.Faithful.{IsFaithful}
use Rattle.rp_proxy.specs.declared.world.World.{World}
use Rattle.rp_tree.specs.StatementViews.{view_stmt, view_stmts}
use Rattle.rp_tree.specs.declared.stmt.Stmt.{Stmt}
use Rattle.rp_session.specs.Ready.{AreNumberedFrom, AreReady, IsAtHome}
use Rattle.rp_session.specs.Turns.{Runs, TakesTurn, comes_of, moment}
use Rattle.rp_session.specs.View.{ended, session_view, shared}
use Rattle.rp_session.specs.declared.session.Session.{Session}
use Rattle.rp_session.specs.declared.sessions.Sessions.{Sessions}
use Rattle.rp_session.proofs.Numbered.{found-at, found-none, number-at, numbered-set, with-at}
use Rattle.rp_session.proofs.Scripts.{comes-single, count-of, end-after, one-statement, statement-at, statement-none}

after-it : (run : Run) (w : World) (k : Session) (v : World) (j : Session) (x : Stmt) (n : ℕ) (ks : List meant.Session) (o : Outcome Flow)
    → comes_of run (x ∷ []) w k ≡ o → Runs run (x ∷ []) (nat_eq (k.next + 1) n) w k v j
    → world_after (shared w ks) n (session_view k) o ≡ shared v (with_session (session_view j) ks)
after-it run w k v j x n ks o is r =
    let state : o.state ≡ moment v j = ap (λ (o : Outcome Flow). o.state) (sym is) ∙ r.ends.0 in
    let end : meant.end_after (k.next + 1) n o.answer ≡ (session_view j).end =
    sym (end-after (k.next + 1) n o.answer) ∙ ap (λ (o : Outcome Flow). ended (nat_eq (k.next + 1) n) o.answer) (sym is) ∙ sym r.ends.1 in
    let session : session_after n (session_view k) o ≡ session_view j = λ p. record {
      side = sym r.side p;
      who = sym r.who p;
      globals = sym r.globals p;
      steps = (state p).plain.steps;
      printed = (state p).printed;
      next = sym r.next p;
      end = end p;
    } in
    λ p. record {
      store = (state p).plain.store;
      log = (state p).log;
      names = (state p).names;
      declarations = sym r.declarations p;
      sessions = with_session (session p) ks;
    }

-- it ran the next statement
pub turn-ran : (run : Run) (w : World) (k : Session) (v : World) (j : Session) (xs ys : List Stmt) (is_last : Bool) (d : Stmt)
    → (run.programs (session_view k).side).body ≡ view_stmts xs → k.end ≡ None → k.next < length xs
    → ys ≡ slice_range xs k.next (k.next + 1) → is_last ≡ nat_eq (k.next + 1) (length xs)
    → Runs run ys is_last w k v j → TakesTurn run w k v j
turn-ran run w k v j xs ys is_last d program going inside part last r ks same =
    let x = get_or xs k.next d in
    let one : ys ≡ x ∷ [] = part ∙ one-statement xs k.next d inside in
    let ran : Runs run (x ∷ []) (nat_eq (k.next + 1) (length xs)) w k v j =
    subst (λ (b : Bool). Runs run (x ∷ []) b w k v j) last (subst (λ (ys : List Stmt). Runs run ys is_last w k v j) one r) in
    let total : count (run.programs (session_view k).side).body ≡ length xs = ap count program ∙ count-of xs in
    let next : statement_at k.next (run.programs (session_view k).side).body ≡ Some (view_stmt x) =
    ap (statement_at k.next) program ∙ statement-at xs k.next d inside in
    let o = exec (view_stmt x) (program_frame run (session_view k).side k.globals) (moment w k) in
    ap (λ (e : Option meant.SessionEnd). unless_ended run (shared w ks) (session_view k) e) (ap (option_map _) going)
    ∙ ap (played run (shared w ks) (session_view k)) next
    ∙ ap (λ n. world_after (shared w ks) n (session_view k) o) total
    ∙ after-it run w k v j x (length xs) ks o (comes-single run x w k) ran

-- no statement is left
pub turn-past : (run : Run) (w : World) (k : Session) (xs : List Stmt)
    → (run.programs (session_view k).side).body ≡ view_stmts xs → k.end ≡ None → length xs ≤ k.next → TakesTurn run w k w k
turn-past run w k xs program going past ks same =
    ap (λ (e : Option meant.SessionEnd). unless_ended run (shared w ks) (session_view k) e) (ap (option_map _) going)
    ∙ ap (played run (shared w ks) (session_view k)) (ap (statement_at k.next) program ∙ statement-none xs k.next past)
    ∙ ap (shared w) (sym same)

-- it has ended
pub turn-ended : (run : Run) (w : World) (k : Session) (e : meant.SessionEnd) → (session_view k).end ≡ Some e → TakesTurn run w k w k
turn-ended run w k e is ks same = ap (unless_ended run (shared w ks) (session_view k)) is ∙ ap (shared w) (sym same)

-- how a session is found and put back

pub first-of : {A : Type 0} (xs : List A) → 0 < length xs → A
first-of [] h = absurd (omega arith)
first-of (x ∷ xs) h = x

pub none-of : {A : Type 0} (o : Option A) → is_some o ≡ false → o ≡ None
none-of None e = refl
none-of (Some a) e = absurd (cc)

pub ended-of : {A B : Type 0} (f : A → B) (o : Option A) → is_some o ≡ true → (b : B) × (option_map f o ≡ Some b)
ended-of f (Some a) e = (f a, refl)
ended-of f None e = absurd (cc)

pub turned : (run : Run) (w v : World) (ks : List Session) (i number : ℕ) (d k j : Session)
    → k ≡ get_or ks i d → AreNumberedFrom 1 ks → i < length ks → number ≡ 1 + i → j.running.session ≡ k.running.session
    → TakesTurn run w k v j → shared v (map session_view (set ks i j)) ≡ turn run number (shared w (map session_view ks))
turned run w v ks i number d k j is numbered inside at same takes =
    let number-of : k.running.session ≡ 1 + i = ap (λ (k : Session). k.running.session) is ∙ number-at 1 ks i d numbered inside in
    let stays : with_session (session_view k) (map session_view ks) ≡ map session_view ks =
    with-at 1 ks i k numbered inside number-of
    ∙ ap (map session_view) (ap (set ks i) is ∙ set-get_or ks i d) in
    let there : find (λ (k : meant.Session). nat_eq k.side.0 number) (map session_view ks) ≡ Some (session_view k) =
    found-at 1 number ks i d numbered inside at ∙ ap (λ k. Some (session_view k)) (sym is) in
    sym (ap (turn_of run (shared w (map session_view ks))) there
    ∙ takes (map session_view ks) stays
    ∙ ap (shared v) (with-at 1 ks i j numbered inside (same ∙ number-of)))

pub turned-nothing : (run : Run) (w : World) (ks : List Session) (number : ℕ) → AreNumberedFrom 1 ks
    → ((i : ℕ) → i < length ks → number ≡ 1 + i → ⊥) → shared w (map session_view ks) ≡ turn run number (shared w (map session_view ks))
turned-nothing run w ks number numbered no_place =
    sym (ap (turn_of run (shared w (map session_view ks))) (found-none 1 number ks numbered no_place))

-- the sessions are ready behind a turn of one of them
pub ready-after : (x : Sessions) (v : World) (i : ℕ) (j : Session) (list : Vec Session Global) → AreReady x → list.items ≡ set x.list.items i j
    → j.running.session ≡ 1 + i → IsFaithful v → IsAtHome v j → ((k : Session) → IsAtHome x.world k → IsAtHome v k)
    → AreReady (record { alloc = x.alloc; world = v; list = list })
ready-after x v i j list ready items number faithful home others =
    let many : length list.items ≡ length x.list.items = ap length items ∙ simp length-set in
    record {
      faithful = faithful;
      numbered = subst (AreNumberedFrom 1) (sym items) (numbered-set 1 x.list.items i j ready.numbered number);
      home = subst (λ ks. All (IsAtHome v) ks) (sym items)
          (All-set (IsAtHome v) x.list.items i j home (λ n k inside. others (get_or x.list.items n k) (ready.home n k inside)));
      few = let before : length x.list.items < 2 ^ 32 = ready.few in omega arith;
    }

-- and each was given as many steps
pub given-set : (ks : List Session) (i : ℕ) (d j : Session) → j.given ≡ (get_or ks i d).given
    → map (λ (k : Session). k.given) (set ks i j) ≡ map (λ (k : Session). k.given) ks
given-set [] i d j e = refl
given-set (k ∷ ks) zero d j e = ap (λ (n : ℕ). n ∷ map (λ (k : Session). k.given) ks) e
given-set (k ∷ ks) (suc i) d j e = ap (λ (ns : List ℕ). k.given ∷ ns) (given-set ks i d j e)

-- turns one after another

pub turns-step : (run : Run) (xs : List ℕ) (i d : ℕ) (w v : meant.World) → i < length xs → v ≡ turn run (get_or xs i d) w
    → turns run (drop (i + 1) xs) v ≡ turns run (drop i xs) w
turns-step run xs i d w v inside e =
    rw (add-one i) (ap (turns run (drop (suc i) xs)) e ∙ sym (ap (λ ns. turns run ns w) (drop-cons xs i d inside)))

pub turns_of-step : (run : Run) (left n : ℕ) (w v : meant.World) → 0 < left → v ≡ turn run n w → turns_of run (left - 1) n v ≡ turns_of run left n w
turns_of-step run zero n w v some e = absurd (omega arith)
turns_of-step run (suc left) n w v some e =
    let less : suc left - 1 ≡ left = omega arith in
    ap (λ i. turns_of run i n v) less ∙ ap (turns_of run left n) e

pub finished-step : (run : Run) (ks : List Session) (i statements : ℕ) (d : Session) (w v : meant.World) → AreNumberedFrom 1 ks → i < length ks
    → count (run.programs (record { 0 = i + 1 })).body ≡ statements → v ≡ turns_of run statements (i + 1) w
    → finished run (drop (i + 1) (map session_view ks)) v ≡ finished run (drop i (map session_view ks)) w
finished-step run ks i statements d w v numbered inside total e =
    let k = get_or ks i d in
    let here : get_or (map session_view ks) i (session_view d) ≡ session_view k = get_or-map session_view ks i d in
    let number : k.running.session ≡ i + 1 = let n : k.running.session ≡ 1 + i = number-at 1 ks i d numbered inside in omega arith in
    let within : i < length (map session_view ks) = simp length-map inside in
    let rest = drop (suc i) (map session_view ks) in
    let side : v ≡ turns_of run (count (run.programs (session_view k).side).body) (session_view k).side.0 w =
    e ∙ sym (ap (λ n. turns_of run n (i + 1) w) total) ∙ ap (λ n. turns_of run (count (run.programs (record { 0 = n })).body) n w) (sym number) in
    rw (add-one i) (ap (finished run rest) side
    ∙ ap (λ (k : meant.Session). finished run rest (turns_of run (count (run.programs k.side).body) k.side.0 w)) (sym here)
    ∙ sym (ap (λ js. finished run js w) (drop-cons (map session_view ks) i (session_view d) within)))

-- facts of one result

pub both : {T E P Q R : Type 0} (r : Result T E) → (P → Q → R) → OnOk r P → OnOk r Q → OnOk r R
both (Ok a) f p q = f p q
both (Err e) f p q = tt

pub four : {T E P Q R S U : Type 0} (r : Result T E) → (P → Q → R → S → U) → OnOk r P → OnOk r Q → OnOk r R → OnOk r S → OnOk r U
four (Ok a) f p q r s = f p q r s
four (Err e) f p q r s = tt

pub on-err : {T E : Type 0} (r : Result T E) (P : Type 0) → P → OnErr r P
on-err (Ok a) P p = tt
on-err (Err e) P p = p

-- where none is left, what is left comes to is the world itself

pub turns-done : (run : Run) (listed : List ℕ) (i : ℕ) (w last : meant.World) → length listed ≤ i → turns run (drop i listed) w ≡ last → w ≡ last
turns-done run listed i w last done left = ap (λ (ns : List ℕ). turns run ns w) (sym (drop_of_length-le listed done)) ∙ left

pub turns_of-done : (run : Run) (left number : ℕ) (w last : meant.World) → left ≡ 0 → turns_of run left number w ≡ last → w ≡ last
turns_of-done run left number w last done comes = ap (λ (i : ℕ). turns_of run i number w) (sym done) ∙ comes

pub finished-done : (run : Run) (ks : List meant.Session) (i : ℕ) (w last : meant.World) → length ks ≤ i → finished run (drop i ks) w ≡ last → w ≡ last
finished-done run ks i w last done left = ap (λ (ks : List meant.Session). finished run ks w) (sym (drop_of_length-le ks done)) ∙ left
