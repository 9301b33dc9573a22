-- A session more.
use Rattle.std.proofs.Common.{◌≡◌, refl, sym, ap, subst, ◌∙◌, ℕ, suc, ◌+◌, ◌-◌, ◌^◌, ◌<◌, List, [], ◌∷◌, ◌++◌, map, length, slice_get, Some, None, option_map, arith}
use Rattle.std.specs.Prelude.{IsSomeAnd}
use Rattle.std.specs.List.{All}
use Rattle.std.specs.declared.vec.Vec.{Vec}
use Rattle.std.specs.declared.alloc.Global.{Global}
use Rattle.std.proofs.lemmas.List.{length-append, length-map, map-append}
use Rattle.std.proofs.lemmas.List.Elements.{All-append, All-cons, All-nil}
use Rattle.rp_base.specs.declared.value.Oid.{Oid}
use Rattle.rp_decl.proofs.Growth.{GrowsTo-refl}
use Rattle.rp_interact.specs.Interacting.{Interacting}
use Rattle.rp_meaning.specs.Expressions.{empty_slots}
use Rattle.rp_meaning.specs.Frame.{Run}
use Rattle.rp_meaning.specs.Load.{locals_of, with_new_session}
use Rattle.rp_meaning.specs.Sessions as meant
use Rattle.rp_meaning.specs.Sessions.{first_end}
use Rattle.rp_proxy.specs.Faithful.{IsFaithful}
use Rattle.rp_proxy.specs.Held.{IsNamed}
use Rattle.rp_proxy.specs.declared.world.Running.{Running}
use Rattle.rp_proxy.specs.declared.world.World.{World}
use Rattle.rp_engine.specs.Moment.{program_at, program_view, run_of}
use Rattle.rp_engine.specs.declared.units.Program.{Program}
use Rattle.rp_engine.specs.declared.units.Units.{Units}
use Rattle.rp_store.specs.Heap.{Owned}
use Rattle.rp_store.specs.Kept.{IsScopeOf}
use Rattle.rp_store.specs.Object as object
use Rattle.rp_store.specs.Parts.{IsScope}
use Rattle.rp_store.specs.Shape.{KeepsShape}
use Rattle.rp_store.specs.Store.{added}
use Rattle.rp_session.specs.Begun.{globals_of}
use Rattle.rp_session.specs.Ready.{AnswersIn, AreNumberedFrom, AreReady, IsAtHome}
use Rattle.rp_session.specs.View.{end_view, session_view, shared}
use Rattle.rp_session.specs.declared.session.Session.{Session}
use Rattle.rp_session.specs.declared.sessions.Sessions.{Sessions}
use Rattle.rp_session.proofs.Lasting.{home-last}
use Rattle.rp_session.proofs.Numbered.{numbered-last}
use Rattle.rp_store.proofs.CallerLemmas.{slice_get-last}

-- what the session of a number runs with at first
abbrev pub first_running : ℕ → Interacting → ℕ → Running
first_running n who steps = record { session = n; interaction = who; meter = record { left = steps }; printed = [] }

-- the world with the scope of the program of a number
abbrev pub with_globals : World → ℕ → Program → World
with_globals w n p = record w { store = added w.store (record { 0 = n }) (globals_of p) }

-- the meaning of a session of a number that begins
abbrev first_session : Run → List (List ℕ) → ℕ → meant.World → ℕ → meant.Session
first_session run who steps w n = record {
  side = record { 0 = n };
  who = who;
  globals = record { 0 = length w.store.heap };
  steps = steps;
  printed = [];
  next = 0;
  end = first_end (run.programs (record { 0 = n })).body;
}

abbrev with_session_of : Run → List (List ℕ) → ℕ → meant.World → ℕ → meant.World
with_session_of run who steps w n = record w {
  store = added w.store (record { 0 = n }) (object.scope (Some 0) None (empty_slots (length (locals_of (run.programs (record { 0 = n }))))));
  sessions = w.sessions ++ first_session run who steps w n ∷ [];
}

pub begun : (base : Run) (units : Units) (w : World) (ks : List Session) (who : Interacting) (steps n : ℕ) (p : Program) (at : Oid) (j : Session) (v : World)
    (js : List Session)
    → n ≡ length ks + 1 → p ≡ program_at units (record { 0 = n }) → v ≡ with_globals w n p → at.0 ≡ length w.store.heap → js ≡ ks ++ j ∷ []
    → j.running ≡ first_running n who steps → j.globals ≡ at → j.next ≡ 0 → option_map end_view j.end ≡ first_end (program_view p).body
    → shared v (map session_view js) ≡ with_new_session (run_of base units) who.ids steps (shared w (map session_view ks))
begun base units w ks who steps n p at j v js number program world place list running globals next end =
    let run = run_of base units in
    let old = shared w (map session_view ks) in
    let total : length (map session_view ks) ≡ length ks = length-map ks session_view in
    let counted : n ≡ suc (length (map session_view ks)) = omega arith in
    let session : session_view j ≡ first_session run who.ids steps old n = λ i. record {
      side = record { 0 = (running i).session };
      who = (running i).interaction.ids;
      globals = (globals ∙ ap (λ m. record { 0 = m }) place) i;
      steps = (running i).meter.left;
      printed = (running i).printed;
      next = next i;
      end = (end ∙ ap (λ p. first_end (program_view p).body) program) i;
    } in
    let sessions : map session_view js ≡ map session_view ks ++ first_session run who.ids steps old n ∷ [] =
    ap (map session_view) list ∙ map-append session_view ks (j ∷ []) ∙ ap (λ k. map session_view ks ++ k ∷ []) session in
    ap (λ v. shared v (map session_view js)) world
    ∙ ap (λ p. shared (with_globals w n p) (map session_view js)) program
    ∙ ap (shared (with_globals w n (program_at units (record { 0 = n })))) sessions
    ∙ ap (with_session_of run who.ids steps old) counted

-- the object that stands last

scope-last : (heap : List Owned) (o : Owned) (at : Oid) → at.0 ≡ length heap → IsScope o.content → IsScopeOf (heap ++ o ∷ []) o.owner at
scope-last heap o at place is =
    let there : slice_get (heap ++ o ∷ []) at.0 ≡ Some o = ap (slice_get (heap ++ o ∷ [])) place ∙ slice_get-last heap o in
    (subst (λ c. IsSomeAnd c IsScope) (sym (ap (option_map (λ (o : Owned). o.content)) there)) is, ap (option_map (λ (o : Owned). o.owner)) there)

-- the world is as faithful with the scope
faithful-more : (w : World) (n : ℕ) (p : Program) → IsFaithful w → IsFaithful (with_globals w n p)
faithful-more w n p faithful = record {
  read = faithful.read;
  ordered = faithful.ordered;
  rows = faithful.rows;
  rows_within = faithful.rows_within;
  grants = faithful.grants;
  classes = All-append (λ (o : Owned). IsNamed w.names o.content) w.store.heap (record { owner = record { 0 = n }; content = globals_of p } ∷ []) faithful.classes
      (All-cons (λ (o : Owned). IsNamed w.names o.content) (record { owner = record { 0 = n }; content = globals_of p }) [] tt
      (All-nil (λ (o : Owned). IsNamed w.names o.content)));
  entries = faithful.entries;
}

ready-so : (x : Sessions) (n : ℕ) (p : Program) (at : Oid) (j : Session) (who : Interacting) (steps : ℕ) (alloc : Global) (list : Vec Session Global)
    → AreReady x → length x.list.items < 2 ^ 32 - 1 → n ≡ length x.list.items + 1 → at.0 ≡ length x.world.store.heap → list.items ≡ x.list.items ++ j ∷ []
    → j.running ≡ first_running n who steps → j.globals ≡ at → j.given ≡ steps → AnswersIn x.world who
    → KeepsShape x.world.store.heap (with_globals x.world n p).store.heap
    → AreReady (record { alloc = alloc; world = with_globals x.world n p; list = list })
ready-so x n p at j who steps alloc list ready few number place items running globals given grants shape =
    let w = x.world in
    let v = with_globals w n p in
    let faithful : IsFaithful v = faithful-more w n p ready.faithful in
    let session : j.running.session ≡ 1 + length x.list.items = ap (λ (r : Running). r.session) running ∙ omega arith in
    let scope : IsScopeOf v.store.heap (record { 0 = n }) at =
    scope-last w.store.heap (record { owner = record { 0 = n }; content = globals_of p }) at place tt in
    let left : j.running.meter.left ≡ steps = ap (λ (r : Running). r.meter.left) running in
    let own : IsAtHome v j = record {
      scope = subst (λ m. IsScopeOf v.store.heap (record { 0 = m }) j.globals) (sym (ap (λ (r : Running). r.session) running))
          (subst (IsScopeOf v.store.heap (record { 0 = n })) (sym globals) scope);
      grants = subst (AnswersIn v) (sym (ap (λ (r : Running). r.interaction) running)) grants;
      steps = omega (arith, left, given);
    } in
    let others : All (IsAtHome v) x.list.items = λ i k inside.
    home-last w v _ ready.faithful faithful (record { declarations = refl; names = GrowsTo-refl w.names }) shape (ready.home i k inside) in
    record {
      faithful = faithful;
      numbered = subst (AreNumberedFrom 1) (sym items) (numbered-last 1 x.list.items j ready.numbered session);
      home = subst (λ ks. All (IsAtHome v) ks) (sym items)
          (All-append (IsAtHome v) x.list.items (j ∷ []) others (All-cons (IsAtHome v) j [] own (All-nil (IsAtHome v))));
      few = let many : length list.items ≡ length x.list.items + 1 = ap length items ∙ length-append x.list.items (j ∷ []) in omega arith;
    }

pub ready-more : (x : Sessions) (n : ℕ) (p : Program) (at : Oid) (j : Session) (who : Interacting) (steps : ℕ) (v : World) (alloc : Global)
    (list : Vec Session Global)
    → AreReady x → length x.list.items < 2 ^ 32 - 1 → n ≡ length x.list.items + 1 → v ≡ with_globals x.world n p → at.0 ≡ length x.world.store.heap → list.items ≡ x.list.items ++ j ∷ []
    → j.running ≡ first_running n who steps → j.globals ≡ at → j.given ≡ steps → AnswersIn x.world who → KeepsShape x.world.store.heap v.store.heap
    → AreReady (record { alloc = alloc; world = v; list = list })
ready-more x n p at j who steps v alloc list ready few number world place items running globals given grants shape =
    subst (λ (v : World). AreReady (record { alloc = alloc; world = v; list = list })) (sym world)
    (ready-so x n p at j who steps alloc list ready few number place items running globals given grants
    (subst (λ (v : World). KeepsShape x.world.store.heap v.store.heap) world shape))

-- the steps that each was given, with one more
pub given-more : (ks js : List Session) (j : Session) (steps : ℕ) → js ≡ ks ++ j ∷ [] → j.given ≡ steps
    → map (λ (k : Session). k.given) js ≡ map (λ (k : Session). k.given) ks ++ steps ∷ []
given-more ks js j steps items given =
    ap (map (λ (k : Session). k.given)) items ∙ map-append (λ (k : Session). k.given) ks (j ∷ [])
    ∙ ap (λ (n : ℕ). map (λ (k : Session). k.given) ks ++ n ∷ []) given
