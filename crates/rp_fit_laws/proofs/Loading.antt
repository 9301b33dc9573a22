-- The objects of the world that is loaded fit the module, and so whatever programs there are beside it.
use Rattle.std.proofs.Common.{true, ◌≡◌, ◌≤◌, refl, sym, ap, subst, ◌∙◌, ℕ, ◌+◌, ◌-◌, List, [], ◌∷◌, ◌++◌, length}
use Rattle.std.proofs.Common.{map, slice_get, Option, Some, None, Result, Ok, Err, arith}
use Rattle.std.proofs.lemmas.List.{length-append, length-map}
use Rattle.std.specs.Option.{option_map}
use Rattle.rp_base.specs.declared.value.Name.{Name}
use Rattle.rp_base.specs.declared.value.Oid.{Oid}
use Rattle.rp_base.specs.declared.value.Rock.TheVariants as rock
use Rattle.rp_base.specs.declared.value.Side.{Side}
use Rattle.rp_base.specs.declared.value.Value.{Value}
use Rattle.rp_decl.specs.Order.{least}
use Rattle.rp_decl.specs.Records as records
use Rattle.rp_decl.specs.Records.{Class, Declarations, Entries, Field, Fields, Object}
use Rattle.rp_ops.specs.Outcome.{End}
use Rattle.rp_store.specs.Heap.{Owned, changed_at}
use Rattle.rp_store.specs.Object as object
use Rattle.rp_store.specs.Object.{Content}
use Rattle.rp_store.specs.Shape.{shape, shaped}
use Rattle.rp_store.specs.Store.{Cells, added}
use Rattle.rp_store.specs.Writers.{on_slots, with_rock}
use Rattle.rp_meaning.specs.BuiltIn.{name_of}
use Rattle.rp_meaning.specs.Expressions.{empty_slots}
use Rattle.rp_meaning.specs.Frame.{Program, Run}
use Rattle.rp_meaning.specs.Load.{AllMade, Refused, class_place, classes_made, declared_made, exposed_value, exposing}
use Rattle.rp_meaning.specs.Load.{field_made, instance_made, list_made, load, loaded, loaded_after, locals_of}
use Rattle.rp_meaning.specs.Load.{module_scope, module_state, objects_made, table_made, trusted, unbound}
use Rattle.rp_meaning.specs.Meaning as meaning
use Rattle.rp_meaning.specs.Running.{program_frame}
use Rattle.rp_meaning.specs.Sessions.{Session, World}
use Rattle.rp_meaning.specs.State.{Flow, Outcome, State, heap_of}
use Rattle.rp_apart_laws.specs.Apart.{Each, OnSome}
use Rattle.rp_fixed_laws.specs.Fixed.{IsQuietRun}
use Rattle.rp_keeper_laws.specs.Keepers.{Keeper}
use Rattle.rp_keeper_laws.proofs.Going.{Anything, Keeps, by_option}
use Rattle.rp_keeper_laws.proofs.Mildly.{IsMade, made_mild}
use Rattle.rp_keeper_laws.proofs.Plainly.{rock_spares}
use Rattle.rp_keeper_laws.proofs.Programs.{frame_fits, spot}
use Rattle.rp_keeper_laws.proofs.Trees.{block}
use Rattle.rp_keeper_laws.proofs.Everything.{each_more}
use Rattle.rp_owner_laws.proofs.Owners.{blocks_keep_owners}
use Rattle.rp_fit_laws.specs.Fit.{AreCodeOf, IsCodeOf, IsScope, block_of}
use Rattle.rp_fit_laws.specs.Programs.{IsLaidOut}
use Rattle.rp_fit_laws.specs.Worlds.{WorldsAreLoadedFit}
use Rattle.rp_fit_laws.proofs.FitKeeper.{Runs, fit_keeper, length_replicate}
use Rattle.rp_fit_laws.proofs.Keeping.{Kept, Suits, appended, changed_there, fit_elsewhere, last_scope, made_suits}
use Rattle.rp_fit_laws.proofs.Laws.{fit_of}
use Rattle.rp_fit_laws.proofs.Numbers.{whole_has}

-- the trusted side alone has code
abbrev IsTrusted : Side → Type 0
IsTrusted side = side ≡ trusted

-- ---- what is declared

-- the scope of the exposed names, which is the first object
abbrev first_of : Declarations → Owned
first_of d = record { owner = trusted; content = object.scope None None (empty_slots (length d.expose)) }

module _ (programs : Side → Program) (first : Owned) where
  -- all objects fit, and the first is this
  abbrev Good : Cells → Type 0
  Good cells = Kept programs IsTrusted cells.heap × (slice_get cells.heap 0 ≡ Some first)

  first_later : (heap news : List Owned) → slice_get heap 0 ≡ Some first → slice_get (heap ++ news) 0 ≡ Some first
  first_later [] news e = absurd (cc)
  first_later (x ∷ xs) news e = e

  good_added : (cells : Cells) (c : Content) → Suits programs IsTrusted cells.heap trusted c → Good cells
      → Good (added cells trusted c)
  good_added cells c p h = (
    (appended programs IsTrusted cells.heap trusted c p h.0).0,
    first_later cells.heap (record { owner = trusted; content = c } ∷ []) h.1,
  )

  mutual
    field_good : (x : Field) (cells : Cells) → Good cells → Good (field_made x cells).1
    field_good (records.int z) cells h = h
    field_good (records.text t) cells h = h
    field_good (records.truth b) cells h = h
    field_good (records.list xs) cells h = list_good [] xs cells h
    field_good (records.table es) cells h = table_good (object.dict []) es cells tt h

    list_good : (vs : List Value) (xs : Fields) (cells : Cells) → Good cells → Good (list_made vs xs cells).1
    list_good vs records.no_fields cells h = good_added cells (object.list vs) (tt, tt) h
    list_good vs (records.field x xs) cells h =
        list_good (vs ++ (field_made x cells).0 ∷ []) xs (field_made x cells).1 (field_good x cells h)

    table_good : (c : Content) (es : Entries) (cells : Cells) → IsMade c → Good cells → Good (table_made c es cells).1
    table_good c records.no_entries cells p h =
        good_added cells c (made_suits programs IsTrusted cells.heap trusted c p) h
    table_good c (records.entry key x es) cells p h =
        table_good (with_rock (rock.Text key) (field_made x cells).0 c) es (field_made x cells).1
        (made_mild (with_rock (rock.Text key) (field_made x cells).0)
        (rock_spares (rock.Text key) (field_made x cells).0) c p) (field_good x cells h)

  module _ (names : List (List ℕ)) (d : Declarations) where
    -- and there are so many values
    abbrev Many : ℕ → AllMade → Type 0
    Many n all = Good all.1 × (length all.0 ≡ n)

    one_more : (vs : List Value) (v : Value) (n : ℕ) → length vs ≡ n → length (vs ++ v ∷ []) ≡ n + 1
    one_more vs v n e = length-append vs (v ∷ []) ∙ ap (λ (n : ℕ). n + 1) e

    classes_good : (n : ℕ) (cs : List Class) (all : AllMade) → Many n all
        → Many (n + length cs) (classes_made names d cs all)
    classes_good n [] all h = let l = h.1 in (h.0, omega (arith, l))
    classes_good n (c ∷ cs) all h =
        let class : Content = object.class (name_of names c.name) true [] in
        let these = classes_good (n + 1) cs (all.0 ++ _ ∷ [], added all.1 trusted class)
        (good_added all.1 class (tt, tt) h.0, one_more all.0 _ n h.1) in
        let l = these.1 in (these.0, omega (arith, l))

    instance_good : (of : Oid) (xs : List (List ℕ × Field)) (fs : List (Name × Value)) (cells : Cells) → Good cells
        → Good (instance_made names d of xs fs cells).1
    instance_good of [] fs cells h = good_added cells (object.instance of fs) (tt, tt) h
    instance_good of (x ∷ xs) fs cells h =
        instance_good of xs (fs ++ (name_of names x.0, (field_made x.1 cells).0) ∷ []) (field_made x.1 cells).1
        (field_good x.1 cells h)

    objects_good : (n : ℕ) (os : List Object) (all : AllMade) → Many n all
        → Many (n + length os) (objects_made names d os all)
    objects_good n [] all h = let l = h.1 in (h.0, omega (arith, l))
    objects_good n (o ∷ os) all h =
        let these = objects_good (n + 1) os (all.0 ++ _ ∷ [], _)
        (instance_good (class_place names d o.class) o.fields [] all.1 h.0, one_more all.0 _ n h.1) in
        let l = these.1 in (these.0, omega (arith, l))

-- ---- the module, and what is exposed

abbrev OnOk : (World → Type 0) → Result World Refused → Type 0
OnOk P (Ok w) = P w
OnOk P (Err e) = Unit {0}

slots_block : (vs : List (Option Value)) (c : Content) → block_of (on_slots (λ _. vs) c) ≡ block_of c
slots_block vs (object.scope block parent xs) = refl
slots_block vs (object.list xs) = refl
slots_block vs (object.tuple xs) = refl
slots_block vs (object.dict es) = refl
slots_block vs (object.instance of fs) = refl
slots_block vs (object.class name declared ms) = refl
slots_block vs (object.function name unit number within ds) = refl
slots_block vs (object.method v called) = refl

module _ (programs : Side → Program) where
  -- an object that has the kind of the first, with its slots set
  slots_suit : (heap : List Owned) (vs xs : List (Option Value)) (side : Side) (c : Content)
      → shape c ≡ object.scope None None (map (λ _. None) xs) → Suits programs IsTrusted heap side c
      → Suits programs IsTrusted heap side (on_slots (λ _. vs) c)
  slots_suit heap vs xs side (object.scope None parent ys) e h = h
  slots_suit heap vs xs side (object.scope (Some number) parent ys) e h = absurd (no_block (ap block_of e)) where
    no_block : Some number ≡ None → ⊥
    no_block e = absurd (cc)
  slots_suit heap vs xs side (object.list ys) e h = h
  slots_suit heap vs xs side (object.tuple ys) e h = h
  slots_suit heap vs xs side (object.dict es) e h = h
  slots_suit heap vs xs side (object.instance of fs) e h = h
  slots_suit heap vs xs side (object.class name declared ms) e h = h
  slots_suit heap vs xs side (object.function name unit number within ds) e h = h
  slots_suit heap vs xs side (object.method v called) e h = h

  abbrev KindOfFirst : Owned → Option Owned → Type 0
  KindOfFirst first o = option_map shaped o ≡ Some (shaped first)

  world_kept : (d : Declarations) (vs : List (Option Value)) (heap : List Owned) → Kept programs IsTrusted heap
      → KindOfFirst (first_of d) (slice_get heap 0)
      → Kept programs IsTrusted (changed_at heap (record { 0 = 0 }) (on_slots (λ _. vs)))
  world_kept d vs heap h e =
      (changed_there programs IsTrusted heap (record { 0 = 0 }) (on_slots (λ _. vs)) (slots_block vs)
      (spared (slice_get heap 0) e) h).0
    where
      spared : (o : Option Owned) → KindOfFirst (first_of d) o
          → OnSome (λ (o : Owned). Suits programs IsTrusted heap o.owner o.content
          → Suits programs IsTrusted heap o.owner (on_slots (λ _. vs) o.content)) o
      spared None e = tt
      spared (Some o) e =
          let same : shaped o ≡ shaped (first_of d) = cc in
          slots_suit heap vs (empty_slots (length d.expose)) o.owner o.content (ap (λ (o : Owned). o.content) same)

  -- the world that is loaded, as far as the module is concerned
  abbrev IsKeptWorld : World → Type 0
  IsKeptWorld w = Kept programs IsTrusted w.store.heap × (w.sessions ≡ [])

  loaded_kept : (d : Declarations) (limit : ℕ) (vs : List (Option Value)) (s : State)
      → Kept programs IsTrusted (heap_of s) → KindOfFirst (first_of d) (slice_get (heap_of s) 0)
      → OnOk IsKeptWorld (loaded limit vs s)
  loaded_kept d limit vs s h e =
      by_option (least (unbound s.declarations.expose vs))
      (λ f. rw f (world_kept d vs (heap_of s) h e, refl)) (λ word f. rw f tt)

  after_kept : (d : Declarations) (locals : List Name) (limit : ℕ) (globals : Oid) (o : Outcome Flow)
      → Kept programs IsTrusted (heap_of o.state) → KindOfFirst (first_of d) (slice_get (heap_of o.state) 0)
      → OnOk IsKeptWorld (loaded_after locals limit globals o)
  after_kept d locals limit globals o h e = by o.answer where
    by : (answer : Result Flow End)
        → OnOk IsKeptWorld (loaded_after locals limit globals (record { answer = answer; state = o.state }))
    by (Err e) = tt
    by (Ok flow) =
        loaded_kept d limit (map (exposed_value locals globals o.state) o.state.declarations.expose) o.state h e

module _ (run : Run) (quiet : IsQuietRun run) (laid : IsLaidOut (run.programs trusted)) where
  laid_out : (side : Side) → IsTrusted side → IsLaidOut (run.programs side)
  laid_out side e = subst (λ (side : Side). IsLaidOut (run.programs side)) (sym e) laid

  abbrev keeper : Keeper
  keeper = fit_keeper run.programs IsTrusted laid_out

  runs : Runs run.programs IsTrusted laid_out run
  runs = record { quiet = quiet; same = λ side e. refl }

  load_kept : (names : List (List ℕ)) (d : Declarations)
      → length d.classes + length d.objects ≤ length (locals_of (run.programs trusted)) → (limit : ℕ)
      → OnOk (IsKeptWorld run.programs) (load run names d limit)
  load_kept names d room limit =
      after_kept run.programs d (locals_of (run.programs trusted)) limit globals
      (meaning.block (run.programs trusted).body (program_frame run trusted globals) s) i.there.0
      (blocks_keep_owners (run.programs trusted).body run quiet trusted 0 globals s (record { 0 = 0 })
      (first_of d) good.1)
    where
      all : AllMade
      all = declared_made names d

      globals : Oid
      globals = record { 0 = length all.1.heap }

      locals : ℕ
      locals = length (locals_of (run.programs trusted))

      s : State
      s = module_state names d locals all

      good_exposing : Many run.programs (first_of d) names d 0 ([], exposing names d)
      good_exposing = ((((refl, tt), tt), refl), refl)

      many : Many run.programs (first_of d) names d (0 + length d.classes + length d.objects) all
      many = objects_good run.programs (first_of d) names d (0 + length d.classes) d.objects
          (classes_made names d d.classes ([], exposing names d))
          (classes_good run.programs (first_of d) names d 0 d.classes ([], exposing names d) good_exposing)

      slots_are : length (map Some all.0 ++ empty_slots (locals - length all.0)) ≡ locals
      slots_are =
          let a = length-append (map Some all.0) (empty_slots (locals - length all.0)) in
          let m = length-map all.0 Some in
          let r = length_replicate {A = Option Value} (locals - length all.0) None in
          let l = many.1 in
          omega (arith, a, m, r, l, room)

      good : Good run.programs (first_of d) (added all.1 trusted (module_scope names d locals all.0))
      good = good_added run.programs (first_of d) all.1 (module_scope names d locals all.0)
          ((slots_are, refl), refl) many.0

      inside : IsScope (heap_of s) trusted 0 globals
      inside = last_scope all.1.heap trusted 0 None (map Some all.0 ++ empty_slots (locals - length all.0))

      i : Keeps keeper (program_frame run trusted globals) (heap_of s) Anything
          (meaning.block (run.programs trusted).body (program_frame run trusted globals) s)
      i = block keeper (spot trusted 0) (run.programs trusted).body (whole_has (run.programs trusted) laid)
          (program_frame run trusted globals) (frame_fits keeper run runs trusted 0 globals refl) s (good.0, inside)

code_of : (programs : Side → Program) (heap : List Owned) → Kept programs IsTrusted heap → AreCodeOf IsTrusted heap
code_of programs heap h = each_more (λ (o : Owned). Suits programs IsTrusted heap o.owner o.content)
    (λ (o : Owned). IsCodeOf IsTrusted o.owner o.content) (λ o p. p.1) heap h

pub worlds_are_loaded_fit : WorldsAreLoadedFit
worlds_are_loaded_fit run quiet laid names d room limit w e programs same =
    let these : IsKeptWorld run.programs w = subst (OnOk (IsKeptWorld run.programs)) e
    (load_kept run quiet laid names d room limit) in
    record {
      objects = fit_elsewhere IsTrusted run.programs programs w.store.heap
          (λ side t. ap run.programs t ∙ same ∙ ap programs (sym t)) (code_of run.programs w.store.heap these.0)
          (fit_of run.programs IsTrusted w.store.heap these.0);
      sessions = subst (λ (ks : List Session). Each (λ (k : Session). IsScope w.store.heap k.side 0 k.globals) ks)
          (sym these.1) tt;
    }
