-- Each entry of the trail of a run is decided by the policy on the principals of its session.
use Rattle.std.proofs.Common.{◌≡◌, ◌∙◌, refl, sym, subst, ap, ℕ, zero, suc, ◌+◌, nat_eq, cond, Bool, true, false, List, [], ◌∷◌, ◌++◌}
use Rattle.std.proofs.Common.{length, map, find, slice_get, Option, Some, None, option_map, Result, Ok, Err, IfOk, MatchOption}
use Rattle.std.specs.Prelude.{All}
use Rattle.std.proofs.lemmas.Bool.{eqb-true}
use Rattle.std.proofs.lemmas.List.{append_assoc, append-nil, length_push}
use Rattle.std.proofs.lemmas.List.Elements.{All-weaker}
use Rattle.rp_base.specs.declared.value.Name.{Name}
use Rattle.rp_base.specs.declared.value.Oid.{Oid}
use Rattle.rp_base.specs.declared.value.Value.{Value}
use Rattle.rp_decl.specs.Order.{least}
use Rattle.rp_decl.specs.Records.{Declarations}
use Rattle.rp_entry_laws.specs.Decided.{IsDecided}
use Rattle.rp_entry_laws.specs.Entries.{IsMonitored, trail_of}
use Rattle.rp_entry_laws.specs.Worlds.{IsLogged, principals_of}
use Rattle.rp_session.specs.Played.{played_from, with_new_sessions}
use Rattle.rp_session.specs.Runs.{run_of}
use Rattle.rp_entry_laws.proofs.Going.{begins}
use Rattle.rp_entry_laws.proofs.Programs.{functions-add}
use Rattle.rp_entry_laws.proofs.Trees as tree
use Rattle.rp_entry_laws.proofs.Worlds.{runs-add}
use Rattle.rp_meaning.specs.Frame.{Run as Frame}
use Rattle.rp_meaning.specs.Load.{Refused, declared_made, exposed_value, load, loaded, loaded_after, locals_of}
use Rattle.rp_meaning.specs.Load.{module_state, trusted, unbound, with_new_session}
use Rattle.rp_meaning.specs.Meaning.{block}
use Rattle.rp_meaning.specs.Running.{program_frame}
use Rattle.rp_meaning.specs.Sessions.{Session, World, first_end}
use Rattle.rp_meaning.specs.State.{State, Outcome, Flow}
use Rattle.rp_ops.specs.Outcome.{End}
use Rattle.rp_run.specs.Told.{IsLoaded, ToldCommand, ToldPlayed, module_names, read_into, scripts_of}
use Rattle.rp_run_laws.proofs.Beginnings.{fresh-world}
use Rattle.rp_run_laws.proofs.Determined.{told-played}
use Rattle.rp_run_laws.specs.Trails.{EachEntryIsDecided, EachToldEntryIsDecided, IsOfPair}
use Rattle.rp_trail.specs.Entry.{Entry}
use Rattle.rp_tree.specs.Statements.{Stmts}
use Rattle.rp_words.specs.Command.{Command, Pair, run, usage}

-- ---- what loading gives

-- of declarations, with an empty trail
abbrev IsOf : Declarations → World → Type 0
IsOf d w = (w.declarations ≡ d) × (w.log ≡ [])

loaded-of : (d : Declarations) (limit : ℕ) (exposed : List (Option Value)) (s : State) → s.declarations ≡ d
    → IfOk (loaded limit exposed s) (IsOf d)
loaded-of d limit exposed s is = by (least (unbound s.declarations.expose exposed)) refl where
  by : (o : Option (List ℕ)) → least (unbound s.declarations.expose exposed) ≡ o
      → IfOk (loaded limit exposed s) (IsOf d)
  by None none = rw none (is, refl)
  by (Some word) found = rw found tt

ran-of : (d : Declarations) (locals : List Name) (limit : ℕ) (globals : Oid) (o : Outcome Flow)
    → o.state.declarations ≡ d → IfOk (loaded_after locals limit globals o) (IsOf d)
ran-of d locals limit globals o is = by o.answer where
  by : (answer : Result Flow End)
      → IfOk (loaded_after locals limit globals (record { answer = answer; state = o.state })) (IsOf d)
  by (Err e) = tt
  by (Ok flow) =
      loaded-of d limit (map (exposed_value locals globals o.state) o.state.declarations.expose) o.state is

load-of : (frame : Frame) → IsMonitored frame → (names : List (List ℕ)) (d : Declarations) (limit : ℕ)
    → IfOk (load frame names d limit) (IsOf d)
load-of frame m names d limit =
    let all = declared_made names d in
    let globals : Oid = record { 0 = length all.1.heap } in
    let s : State = module_state names d (length (locals_of (frame.programs trusted))) all in
    let o : Outcome Flow = block (frame.programs trusted).body (program_frame frame trusted globals) s in
    let kept = tree.block (frame.programs trusted).body (trail_of s) (program_frame frame trusted globals)
    (m, λ at a u h. functions-add frame m (trail_of s) at a u h) s (begins s) in
    ran-of d (locals_of (frame.programs trusted)) limit globals o kept.trail.declarations

world-of : (d : Declarations) (cells : ℕ) (body : Stmts) (w : World) → IsLoaded d cells body (Ok w) → IsOf d w
world-of d cells body w is =
    subst (λ (r : Result World Refused). IfOk r (IsOf d)) is.comes
    (load-of (run_of (module_names d) d body []) (λ v op m. refl) (module_names d) d cells)

-- ---- the principals of new sessions

get-left : {A : Type 0} (xs ys : List A) (i : ℕ) (x : A) → slice_get xs i ≡ Some x → slice_get (xs ++ ys) i ≡ Some x
get-left [] ys i x is = cc
get-left (y ∷ xs) ys zero x is = is
get-left (y ∷ xs) ys (suc i) x is = get-left xs ys i x is

get-last : {A : Type 0} (xs : List A) (x : A) → slice_get (xs ++ x ∷ []) (length xs) ≡ Some x
get-last [] x = refl
get-last (y ∷ xs) x = get-last xs x

-- the place among some lists of principals of that of a session
abbrev Place : List (List (List ℕ)) → ℕ → List (List ℕ) → Type 0
Place whos n who = (i : ℕ) × ((n ≡ suc i) × (slice_get whos i ≡ Some who))

-- a world has the sessions of these principals, numbered from 1
pub record HasSessions (whos : List (List (List ℕ))) (w : World) : Type 0 where
  pub many : length w.sessions ≡ length whos
  pub places : (n : ℕ) (who : List (List ℕ)) → principals_of w n ≡ Some who → Place whos n who

abbrev its_who : Option Session → Option (List (List ℕ))
its_who o = option_map (λ (k : Session). k.who) o

abbrev first : ℕ → List Session → Option Session
first n ks = find (λ (k : Session). nat_eq k.side.0 n) ks

-- the first of a number, where one more session stands last
first-push : (n : ℕ) (ks : List Session) (k : Session) (who : List (List ℕ)) (P : Type 0)
    → (its_who (first n ks) ≡ Some who → P) → (k.side.0 ≡ n → k.who ≡ who → P) → its_who (first n (ks ++ k ∷ [])) ≡ Some who → P
first-push n [] k who P before last is = by (nat_eq k.side.0 n) refl is where
  by : (b : Bool) → nat_eq k.side.0 n ≡ b → its_who (cond b (Some k) None) ≡ Some who → P
  by true e is = last (eqb-true k.side.0 n e) (let same : Some k.who ≡ Some who = is in cc)
  by false e is = absurd (let none : ◌≡◌ {A = Option (List (List ℕ))} None (Some who) = is in cc)
first-push n (j ∷ ks) k who P before last is =
    by (nat_eq j.side.0 n) before (first-push n ks k who P) is
  where
    by : (b : Bool) → (its_who (cond b (Some j) (first n ks)) ≡ Some who → P)
        → ((its_who (first n ks) ≡ Some who → P) → (k.side.0 ≡ n → k.who ≡ who → P) → its_who (first n (ks ++ k ∷ [])) ≡ Some who → P)
        → its_who (cond b (Some j) (first n (ks ++ k ∷ []))) ≡ Some who → P
    by true before rest is = before is
    by false before rest is = rest before last is

abbrev new_session : Frame → List (List ℕ) → ℕ → World → Session
new_session frame who steps w = record {
  side = record { 0 = suc (length w.sessions) };
  who = who;
  globals = record { 0 = length w.store.heap };
  steps = steps;
  printed = [];
  next = 0;
  end = first_end (frame.programs (record { 0 = suc (length w.sessions) })).body;
}

has-more : (frame : Frame) (who : List (List ℕ)) (steps : ℕ) (whos : List (List (List ℕ))) (w : World) → HasSessions whos w
    → HasSessions (whos ++ who ∷ []) (with_new_session frame who steps w)
has-more frame who steps whos w has = record { many = more; places = place } where
  more : length (with_new_session frame who steps w).sessions ≡ length (whos ++ who ∷ [])
  more = length_push w.sessions (new_session frame who steps w) ∙ ap (λ n. n + 1) has.many ∙ sym (length_push whos who)

  place : (n : ℕ) (found : List (List ℕ)) → principals_of (with_new_session frame who steps w) n ≡ Some found
      → Place (whos ++ who ∷ []) n found
  place n found is =
      first-push n w.sessions (new_session frame who steps w) found (Place (whos ++ who ∷ []) n found)
      (λ e. let p = has.places n found e in (p.0, (p.1.0, get-left whos (who ∷ []) p.0 found p.1.1)))
      (λ e same. (
        length whos,
        (
          sym e ∙ ap suc has.many,
          subst (λ x. slice_get (whos ++ who ∷ []) (length whos) ≡ Some x) same (get-last whos who),
        ),
      )) is

has-all : (frame : Frame) (more : List (List (List ℕ))) (steps : ℕ) (whos : List (List (List ℕ))) (w : World) → HasSessions whos w
    → HasSessions (whos ++ more) (with_new_sessions frame more steps w)
has-all frame [] steps whos w has = subst (λ whos. HasSessions whos w) (sym (append-nil whos)) has
has-all frame (who ∷ more) steps whos w has =
    subst (λ whos. HasSessions whos (with_new_sessions frame more steps (with_new_session frame who steps w)))
    (append_assoc whos (who ∷ []) more)
    (has-all frame more steps (whos ++ who ∷ []) (with_new_session frame who steps w) (has-more frame who steps whos w has))

-- they change nothing else
has-log : (frame : Frame) (more : List (List (List ℕ))) (steps : ℕ) (w : World) → (with_new_sessions frame more steps w).log ≡ w.log
has-log frame [] steps w = refl
has-log frame (who ∷ more) steps w = has-log frame more steps (with_new_session frame who steps w)

has-declarations : (frame : Frame) (more : List (List (List ℕ))) (steps : ℕ) (w : World)
    → (with_new_sessions frame more steps w).declarations ≡ w.declarations
has-declarations frame [] steps w = refl
has-declarations frame (who ∷ more) steps w = has-declarations frame more steps (with_new_session frame who steps w)

none-yet : (w : World) → w.sessions ≡ [] → HasSessions [] w
none-yet w none = record {
  many = ap (λ (ks : List Session). length ks) none;
  places = λ n who is. absurd (let nobody : ◌≡◌ {A = Option (List (List ℕ))} None (Some who) = sym (ap (λ ks. its_who (first n ks)) none) ∙ is in cc);
}

-- ---- runs

-- the pair of a place
pair-at : (pairs : List Pair) (i : ℕ) (who : List (List ℕ)) → slice_get (map (λ (p : Pair). p.ids) pairs) i ≡ Some who
    → (pair : Pair) × ((slice_get pairs i ≡ Some pair) × (pair.ids ≡ who))
pair-at [] i who is = absurd (let none : ◌≡◌ {A = Option (List (List ℕ))} None (Some who) = is in cc)
pair-at (p ∷ ps) zero who is = (p, (refl, let same : Some p.ids ≡ Some who = is in cc))
pair-at (p ∷ ps) (suc i) who is = pair-at ps i who is

module _ (d : Declarations) (pairs : List Pair) (w : World) (of : IsOf d w) (none : w.sessions ≡ []) (frame : Frame) (m : IsMonitored frame)
    (listed : List ℕ) (steps : ℕ) where
  abbrev whos : List (List (List ℕ))
  whos = map (λ (p : Pair). p.ids) pairs

  abbrev begun : World
  begun = with_new_sessions frame whos steps w

  of-pair : (e : Entry) → IsLogged begun e → IsOfPair d pairs e
  of-pair e is =
      let place = (has-all frame whos steps [] w (none-yet w none)).places e.session is.who is.runs in
      let pair = pair-at pairs place.0 is.who place.1.1 in
      record {
        place = place.0;
        number = place.1.0;
        pair = pair.0;
        stands = pair.1.0;
        decided = subst (λ who. IsDecided d who e) (sym pair.1.1)
            (subst (λ (d : Declarations). IsDecided d is.who e) (has-declarations frame whos steps w ∙ of.0) is.decided);
      }

  each-of_pair : All (IsOfPair d pairs) (played_from frame w whos listed steps).log
  each-of_pair =
      let after = runs-add frame m listed begun in
      let log : (played_from frame w whos listed steps).log ≡ after.added =
      after.log ∙ ap (λ log. log ++ after.added) (has-log frame whos steps w ∙ of.1) in
      subst (All (IsOfPair d pairs)) (sym log)
      (All-weaker (IsLogged begun) (IsOfPair d pairs) (λ e is. of-pair e is) after.added after.logged)

pub each_entry-decided : EachEntryIsDecided
each_entry-decided r contents d body w trees ready last reaches =
    let v : World = read_into (scripts_of r contents) w in
    subst (λ (last : World). All (IsOfPair d r.pairs) last.log) reaches.comes
    (each-of_pair d r.pairs v (world-of d r.cells body w ready.admitted.loaded)
    (fresh-world d r.cells body w ready.admitted.loaded) (run_of v.names v.declarations body reaches.scripts)
    (λ v op m. refl) r.turns r.steps)

-- what is told to the command that words give
abbrev Tells : Option Command → (List ℕ → List ℕ) → List ℕ → ℕ → Type 0
Tells o contents text status =
    MatchOption o ((text ≡ usage) × (status ≡ 2)) (λ command. ToldCommand command contents text status)

pub each_told_entry-decided : EachToldEntryIsDecided
each_told_entry-decided words contents text status tells r is d body w trees ready =
    let tells_run : ToldCommand (run r) contents text status =
    subst (λ (o : Option Command). Tells o contents text status) is tells in
    let played : ToldPlayed r body (read_into (scripts_of r contents) w) trees text status =
    told-played r contents text status d body w trees ready tells_run in
    let log : All (IsOfPair d r.pairs) played.log =
    subst (All (IsOfPair d r.pairs)) played.plays.entries
    (each_entry-decided r contents d body w trees ready played.plays.last played.plays.reaches) in
    (played.sessions, (played.log, (played.said, log)))
