-- The objects of the world that is loaded are such as code of their owners makes them.
use Rattle.std.proofs.Common.{◌≡◌, ◌≤◌, ◌<◌, refl, sym, subst, ap, ℕ, zero, suc, ◌+◌, cond, Bool, true, false, not}
use Rattle.std.proofs.Common.{List, [], ◌∷◌, ◌++◌, length, map, Option, Some, None, Result, Ok, Err, arith}
use Rattle.std.proofs.lemmas.List.{length-append}
use Rattle.std.specs.List.{position_from, prefix_len}
use Rattle.std.specs.Option.{option_map}
use Rattle.rp_base.specs.Same.{same_text}
use Rattle.rp_base.specs.declared.value.Name.{Name}
use Rattle.rp_base.specs.declared.value.Oid.{Oid}
use Rattle.rp_base.specs.declared.value.Rock.TheVariants as rock
use Rattle.rp_base.specs.declared.value.Side.{Side}
use Rattle.rp_base.specs.declared.value.Value.{Value}
use Rattle.rp_decl.specs.Order.{least}
use Rattle.rp_decl.specs.Records as records
use Rattle.rp_decl.specs.Records.{Class, Declarations, Entries, Field, Fields, Object}
use Rattle.rp_ops.specs.Outcome.{End}
use Rattle.rp_store.specs.Heap.{Owned}
use Rattle.rp_store.specs.Object as object
use Rattle.rp_store.specs.Object.{Content}
use Rattle.rp_store.specs.Store.{Cells, added}
use Rattle.rp_store.specs.Writers.{on_slots, with_rock}
use Rattle.rp_meaning.specs.BuiltIn.{name_of}
use Rattle.rp_meaning.specs.Frame.{Run}
use Rattle.rp_meaning.specs.Load.{AllMade, Refused, class_place, classes_made, declared_made, exposed_value, exposing}
use Rattle.rp_meaning.specs.Load.{field_made, instance_made, list_made, load, loaded, loaded_after, locals_of}
use Rattle.rp_meaning.specs.Load.{module_scope, module_state, objects_made, table_made, trusted, unbound, world_of}
use Rattle.rp_meaning.specs.Meaning as meaning
use Rattle.rp_meaning.specs.Running.{program_frame}
use Rattle.rp_meaning.specs.Sessions.{World}
use Rattle.rp_meaning.specs.State.{Flow, Outcome, State, heap_of}
use Rattle.rp_apart_laws.proofs.Lists.{each_append}
use Rattle.rp_apart_laws.specs.Apart.{Each, OnSome}
use Rattle.rp_fixed_laws.specs.Fixed.{IsQuietRun}
use Rattle.rp_order_laws.specs.Ordered.{AreOrdered, ClassesAreTrusted, IsHeldBy, IsOf, Suits}
use Rattle.rp_order_laws.specs.Worlds.{IsOrderlyWorld, WorldsAreLoadedOrderly}
use Rattle.rp_keeper_laws.proofs.Going.{Anything, IsKept, Keeps, by_option}
use Rattle.rp_keeper_laws.proofs.Programs.{frame_fits, spot}
use Rattle.rp_keeper_laws.proofs.Trees.{block}
use Rattle.rp_scope.specs.Blocks.{stmts_blocks}
use Rattle.rp_meaning.specs.Blocks.{of_stmts}
use Rattle.rp_keeper_laws.specs.Blocks.{telling_around}
use Rattle.rp_order_laws.proofs.Keeping.{any_held, changed_grows, changed_ordered, classes_later}
use Rattle.rp_order_laws.proofs.Keeping.{spares_of}
use Rattle.rp_keeper_laws.proofs.Mildly.{IsMade, made_mild}
use Rattle.rp_keeper_laws.proofs.Plainly.{rock_spares}
use Rattle.rp_keeper_laws.proofs.Everything.{each_more, some_more}
use Rattle.rp_order_laws.proofs.Laws.{any_has}
use Rattle.rp_order_laws.proofs.OrderKeeper.{order_keeper}

-- ---- places

position_below : {A : Type 0} (p : A → Bool) (i : ℕ) (xs : List A)
    → OnSome (λ (j : ℕ). j < i + length xs) (position_from p i xs)
position_below p i [] = tt
position_below p i (x ∷ xs) = by (p x) (position_below p (i + 1) xs) where
  by : (b : Bool) → OnSome (λ (j : ℕ). j < (i + 1) + length xs) (position_from p (i + 1) xs)
      → OnSome (λ (j : ℕ). j < i + length (x ∷ xs)) (cond b (Some i) (position_from p (i + 1) xs))
  by true q = omega arith
  by false q = some_more (λ (j : ℕ). j < (i + 1) + length xs) (λ (j : ℕ). j < i + length (x ∷ xs))
      (λ j l. omega arith) (position_from p (i + 1) xs) q

prefix_within : {A : Type 0} (p : A → Bool) (xs : List A) → prefix_len p xs ≤ length xs
prefix_within p [] = omega arith
prefix_within p (x ∷ xs) = by (p x) (prefix_within p xs) where
  by : (b : Bool) → prefix_len p xs ≤ length xs → cond b (1 + prefix_len p xs) 0 ≤ length (x ∷ xs)
  by true l = omega arith
  by false l = omega arith

-- ---- what is declared, with the places of classes up to one

module _ (last : ℕ) where
  abbrev Simple : Content → Type 0
  Simple (object.list xs) = Unit {0}
  Simple (object.tuple xs) = Unit {0}
  Simple (object.dict es) = Unit {0}
  Simple (object.instance of fs) = of.0 ≤ last
  Simple (object.class name declared ms) = ms ≡ []
  Simple (object.function name unit number within ds) = ⊥
  Simple (object.method v called) = ⊥
  Simple (object.scope number parent vs) = parent ≡ None

  abbrev Declared : Owned → Type 0
  Declared o = (o.owner ≡ trusted) × Simple o.content

  -- all are such, and there are so many at least
  abbrev Good : ℕ → Cells → Type 0
  Good m cells = Each Declared cells.heap × (m ≤ length cells.heap)

  good_more : (m : ℕ) (cells : Cells) (c : Content) → Simple c → Good m cells → Good (m + 1) (added cells trusted c)
  good_more m cells c p h =
      let new : Owned = record { owner = trusted; content = c } in
      let l = h.1 in
      let count : length (cells.heap ++ new ∷ []) ≡ length cells.heap + 1 = length-append cells.heap (new ∷ []) in
      (each_append Declared cells.heap (new ∷ []) h.0 ((refl, p), tt), omega (arith, l, count))

  good_added : (m : ℕ) (cells : Cells) (c : Content) → Simple c → Good m cells → Good m (added cells trusted c)
  good_added m cells c p h =
      let more = good_more m cells c p h in let l = more.1 in (more.0, omega (arith, l))

  simple_made : (c : Content) → IsMade c → Simple c
  simple_made (object.list xs) p = tt
  simple_made (object.tuple xs) p = tt
  simple_made (object.dict es) p = tt
  simple_made (object.instance of fs) p = absurd p
  simple_made (object.class name declared ms) p = absurd p
  simple_made (object.function name unit number within ds) p = absurd p
  simple_made (object.method v called) p = absurd p
  simple_made (object.scope number parent vs) p = absurd p

  mutual
    field_good : (m : ℕ) (x : Field) (cells : Cells) → Good m cells → Good m (field_made x cells).1
    field_good m (records.int z) cells h = h
    field_good m (records.text t) cells h = h
    field_good m (records.truth b) cells h = h
    field_good m (records.list xs) cells h = list_good m [] xs cells h
    field_good m (records.table es) cells h = table_good m (object.dict []) es cells tt h

    list_good : (m : ℕ) (vs : List Value) (xs : Fields) (cells : Cells) → Good m cells
        → Good m (list_made vs xs cells).1
    list_good m vs records.no_fields cells h = good_added m cells (object.list vs) tt h
    list_good m vs (records.field x xs) cells h =
        list_good m (vs ++ (field_made x cells).0 ∷ []) xs (field_made x cells).1 (field_good m x cells h)

    table_good : (m : ℕ) (c : Content) (es : Entries) (cells : Cells) → IsMade c → Good m cells
        → Good m (table_made c es cells).1
    table_good m c records.no_entries cells p h = good_added m cells c (simple_made c p) h
    table_good m c (records.entry key x es) cells p h =
        table_good m (with_rock (rock.Text key) (field_made x cells).0 c) es (field_made x cells).1
        (made_mild (with_rock (rock.Text key) (field_made x cells).0)
        (rock_spares (rock.Text key) (field_made x cells).0) c p) (field_good m x cells h)

  module _ (names : List (List ℕ)) (d : Declarations) where
    classes_good : (m : ℕ) (cs : List Class) (all : AllMade) → Good m all.1
        → Good (m + length cs) (classes_made names d cs all).1
    classes_good m [] all h = let l = h.1 in (h.0, omega (arith, l))
    classes_good m (c ∷ cs) all h =
        let class : Content = object.class (name_of names c.name) true [] in
        let these = classes_good (m + 1) cs
        (all.0 ++ _ ∷ [], added all.1 trusted class) (good_more m all.1 class refl h) in
        let l = these.1 in (these.0, omega (arith, l))

    instance_good : (m : ℕ) (of : Oid) (xs : List (List ℕ × Field)) (fs : List (Name × Value)) (cells : Cells)
        → of.0 ≤ last → Good m cells → Good m (instance_made names d of xs fs cells).1
    instance_good m of [] fs cells p h = good_added m cells (object.instance of fs) p h
    instance_good m of (x ∷ xs) fs cells p h =
        instance_good m of xs (fs ++ (name_of names x.0, (field_made x.1 cells).0) ∷ []) (field_made x.1 cells).1 p
        (field_good m x.1 cells h)

    objects_good : (m : ℕ) (os : List Object) (all : AllMade) → length d.classes < last → Good m all.1
        → Good m (objects_made names d os all).1
    objects_good m [] all p h = h
    objects_good m (o ∷ os) all p h =
        objects_good m os (all.0 ++ _ ∷ [], _) p
        (instance_good m (class_place names d o.class) o.fields [] all.1 (within o.class) h)
      where
        within : (word : List ℕ) → (class_place names d word).0 ≤ last
        within word =
            let l = prefix_within (λ (c : Class). not (same_text word c.name)) d.classes in omega (arith, l, p)

-- ---- so they are ordered

trusted_at : (last : ℕ) (heap : List Owned) → Each (Declared last) heap → (i : ℕ) → i < length heap
    → IsOf heap trusted (record { 0 = i })
trusted_at last [] h i l = absurd (omega (arith, l))
trusted_at last (x ∷ xs) h zero l = ap Some h.0.0
trusted_at last (x ∷ xs) h (suc i) l = trusted_at last xs h.1 i (omega (arith, l))

all_held : (heap : List Owned) (vs : List (Option Value)) → Each (OnSome (IsHeldBy heap trusted)) vs
all_held heap [] = tt
all_held heap (None ∷ vs) = (tt, all_held heap vs)
all_held heap (Some v ∷ vs) = (any_held heap trusted v refl, all_held heap vs)

simple_suits : (last : ℕ) (heap : List Owned) → Each (Declared last) heap → last < length heap → (c : Content)
    → Simple last c → Suits heap trusted c
simple_suits last heap h l (object.list xs) p = tt
simple_suits last heap h l (object.tuple xs) p = tt
simple_suits last heap h l (object.dict es) p = tt
simple_suits last heap h l (object.instance of fs) p = trusted_at last heap h of.0 (omega (arith, l, p))
simple_suits last heap h l (object.class name declared ms) p =
    subst (λ (ms : List (Name × Oid)). Each (λ (m : Name × Oid). IsOf heap trusted m.1) ms) (sym p) tt
simple_suits last heap h l (object.function name unit number within ds) p = absurd p
simple_suits last heap h l (object.method v called) p = absurd p
simple_suits last heap h l (object.scope number parent vs) p =
    (subst (λ (o : Option Oid). OnSome (IsOf heap trusted) o) (sym p) tt, all_held heap vs)

declared_ordered : (last : ℕ) (heap : List Owned) → Each (Declared last) heap → last < length heap → AreOrdered heap
declared_ordered last heap h l =
    each_more (Declared last) (λ (o : Owned). Suits heap o.owner o.content)
    (λ o p. subst (λ (s : Side). Suits heap s o.content) (sym p.0) (simple_suits last heap h l o.content p.1)) heap h

classes_trusted : (last : ℕ) (heap : List Owned) (classes : List Class) → Each (Declared last) heap
    → length classes < length heap → ClassesAreTrusted classes heap
classes_trusted last heap classes h l word =
    placed (position_from (λ (c : Class). same_text word c.name) 1 classes)
    (position_below (λ (c : Class). same_text word c.name) 1 classes)
  where
    placed : (i : Option ℕ) → OnSome (λ (j : ℕ). j < 1 + length classes) i
        → OnSome (IsOf heap trusted) (option_map (λ (i : ℕ). record { 0 = i }) i)
    placed None q = tt
    placed (Some i) q = trusted_at last heap h i (omega (arith, l, q))

-- ---- the module, and what is exposed

abbrev OnOk : (World → Type 0) → Result World Refused → Type 0
OnOk P (Ok w) = P w
OnOk P (Err e) = Unit {0}

slots_suit : (heap : List Owned) (exposed : List (Option Value)) (c : Content) → Suits heap trusted c
    → Suits heap trusted (on_slots (λ _. exposed) c)
slots_suit heap exposed (object.scope number parent vs) h = (h.0, all_held heap exposed)
slots_suit heap exposed (object.list xs) h = h
slots_suit heap exposed (object.tuple xs) h = h
slots_suit heap exposed (object.dict es) h = h
slots_suit heap exposed (object.instance of fs) h = h
slots_suit heap exposed (object.class name declared ms) h = h
slots_suit heap exposed (object.function name unit number within ds) h = h
slots_suit heap exposed (object.method v called) h = h

world_orderly : (limit : ℕ) (exposed : List (Option Value)) (s : State) → IsKept order_keeper s
    → IsOf (heap_of s) trusted (record { 0 = 0 }) → IsOrderlyWorld (world_of limit exposed s)
world_orderly limit exposed s h p =
    let change : Content → Content = on_slots (λ _. exposed) in
    let at : Oid = record { 0 = 0 } in
    record {
      objects = changed_ordered (heap_of s) at change
          (spares_of (heap_of s) at change trusted p (slots_suit (heap_of s) exposed)) h.0;
      classes = classes_later (heap_of s) _ (changed_grows (heap_of s) at change) s.declarations.classes h.1;
      sessions = tt;
    }

loaded_orderly : (limit : ℕ) (exposed : List (Option Value)) (s : State) → IsKept order_keeper s
    → IsOf (heap_of s) trusted (record { 0 = 0 }) → OnOk IsOrderlyWorld (loaded limit exposed s)
loaded_orderly limit exposed s h p =
    by_option (least (unbound s.declarations.expose exposed)) (λ e. rw e (world_orderly limit exposed s h p))
    (λ word e. rw e tt)

after_orderly : (locals : List Name) (limit : ℕ) (globals : Oid) (o : Outcome Flow) → IsKept order_keeper o.state
    → IsOf (heap_of o.state) trusted (record { 0 = 0 }) → OnOk IsOrderlyWorld (loaded_after locals limit globals o)
after_orderly locals limit globals o h p = by o.answer where
  by : (answer : Result Flow End)
      → OnOk IsOrderlyWorld (loaded_after locals limit globals (record { answer = answer; state = o.state }))
  by (Err e) = tt
  by (Ok flow) =
      loaded_orderly limit (map (exposed_value locals globals o.state) o.state.declarations.expose) o.state h p

load_orderly : (run : Run) → IsQuietRun run → (names : List (List ℕ)) (d : Declarations) (limit : ℕ)
    → OnOk IsOrderlyWorld (load run names d limit)
load_orderly run quiet names d limit =
    after_orderly (locals_of (run.programs trusted)) limit globals
    (meaning.block (run.programs trusted).body (program_frame run trusted globals) s) i.there.0
    (i.grows (record { 0 = 0 }) trusted (trusted_at last heap (good_all.0) 0 (omega (arith, enough))))
  where
    last : ℕ
    last = suc (length d.classes)

    all : AllMade
    all = declared_made names d

    globals : Oid
    globals = record { 0 = length all.1.heap }

    locals : ℕ
    locals = length (locals_of (run.programs trusted))

    s : State
    s = module_state names d locals all

    heap : List Owned
    heap = heap_of s

    good_exposing : Good last 1 (exposing names d)
    good_exposing = (((refl, refl), tt), omega arith)

    good_declared : Good last (1 + length d.classes) all.1
    good_declared = objects_good last names d (1 + length d.classes) d.objects
        (classes_made names d d.classes ([], exposing names d)) (omega arith)
        (classes_good last names d 1 d.classes ([], exposing names d) good_exposing)

    good_all : Good last (1 + length d.classes + 1) (added all.1 trusted (module_scope names d locals all.0))
    good_all = good_more last (1 + length d.classes) all.1 (module_scope names d locals all.0) refl good_declared

    enough : last < length heap
    enough = let l = good_all.1 in omega (arith, l)

    own : IsOf heap trusted globals
    own = trusted_at last heap good_all.0 (length all.1.heap) (longer)
      where
        longer : length all.1.heap < length heap
        longer =
            let count = length-append all.1.heap (record {
              owner = trusted;
              content = module_scope names d locals all.0;
            } ∷ []) in
            omega (arith, count)

    orderly : IsKept order_keeper s
    orderly = (
      declared_ordered last heap good_all.0 enough,
      classes_trusted last heap d.classes good_all.0 (omega (arith, enough)),
    )

    i : Keeps order_keeper (program_frame run trusted globals) heap Anything
        (meaning.block (run.programs trusted).body (program_frame run trusted globals) s)
    i = block order_keeper (spot trusted 0) (run.programs trusted).body
        (any_has trusted (of_stmts (run.programs trusted).body)
        (stmts_blocks telling_around 0 (run.programs trusted).body))
        (program_frame run trusted globals) (frame_fits order_keeper run quiet trusted 0 globals tt) s (orderly, own)

pub worlds_are_loaded_orderly : WorldsAreLoadedOrderly
worlds_are_loaded_orderly run quiet names d limit w e =
    subst (OnOk IsOrderlyWorld) e (load_orderly run quiet names d limit)
