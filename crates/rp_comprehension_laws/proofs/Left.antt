-- Code leaves the result of a comprehension as it is.
use Rattle.std.proofs.Common.{◌≡◌, refl, sym, ap, subst, ◌∙◌, ℕ, zero, suc, ◌+◌, ◌<◌, ◌≤◌, arith, length, List, []}
use Rattle.std.proofs.Common.{◌∷◌, ◌++◌, slice_get, Bool, true, false, Option, Some, None, Result, Ok, Err}
use Rattle.std.specs.Prelude.{IfSome, IsSomeAnd}
use Rattle.std.specs.List.{All}
use Rattle.std.specs.Option.{option_map}
use Rattle.std.proofs.lemmas.List.{length-append}
use Rattle.rp_base.specs.declared.value.Name.{Name}
use Rattle.rp_base.specs.declared.value.Oid.{Oid}
use Rattle.rp_base.specs.declared.value.Rock.{Rock}
use Rattle.rp_base.specs.declared.value.Side.{Side}
use Rattle.rp_base.specs.declared.value.Value.{Value}
use Rattle.rp_base.specs.declared.value.Value.TheVariants as value
use Rattle.rp_decl.specs.Records.{Declarations}
use Rattle.rp_ops.specs.Outcome as plain
use Rattle.rp_ops.specs.Outcome.{End, gives, on_value}
use Rattle.rp_ops.specs.Walk.{Cursor}
use Rattle.rp_store.specs.Heap.{Names, Owned}
use Rattle.rp_store.specs.Kept.{IsCallee, IsEntry, IsKept, IsSafe, IsScopeOf, IsSound}
use Rattle.rp_store.specs.Kept.{Holds as MayHold}
use Rattle.rp_store.specs.Object as object
use Rattle.rp_store.specs.Object.{Content}
use Rattle.rp_store.specs.Parts.{IsClass, IsFunction, IsScope}
use Rattle.rp_store.specs.declared.key.Key.{Key}
use Rattle.rp_store.specs.declared.object.Callee.{Callee}
use Rattle.rp_store.specs.declared.object.Callee.TheVariants as callee
use Rattle.rp_meaning.specs.Expressions.{Clause, empty_slots, new_scope}
use Rattle.rp_meaning.specs.Frame.{Frame, Meaning, layouts_of}
use Rattle.rp_meaning.specs.Meaning.{clause, clauses, eval}
use Rattle.rp_meaning.specs.State.{State, Outcome, done, heap_of, lifted, makes}
use Rattle.rp_meaning.specs.Statements.{Store}
use Rattle.rp_meaning.specs.Walks.{next_element}
use Rattle.rp_more_laws.proofs.Going.{Holds, HoldsOf, IsMade, goes, held_at, makes_held, step_held, then_held}
use Rattle.rp_more_laws.proofs.Going.{bind as held_bind}
use Rattle.rp_fixed_laws.specs.Fixed.{Placed}
use Rattle.rp_apart_laws.specs.Apart.{Avoids, CalleeAvoids, ContentAvoids, Each, Fit, HeapAvoids, IsApart, IsOther}
use Rattle.rp_apart_laws.specs.Apart.{OnSome, Stays}
use Rattle.rp_apart_laws.proofs.Forms as form
use Rattle.rp_apart_laws.proofs.Going.{Anything, MoreAvoids, StaysAt, bind, same}
use Rattle.rp_apart_laws.proofs.Lists.{each_append, each_replicate}
use Rattle.rp_apart_laws.proofs.Parts.{ClauseKeeps, Means}
use Rattle.rp_apart_laws.proofs.Trees as trees
use Rattle.rp_comprehension_laws.specs.Comprehensions.{put_key, put_last}
use Rattle.rp_comprehension_laws.specs.Elements.{Gives, GivesFrom, Keeps, KeepsFrom, at_end, begins, element, left_out}
use Rattle.rp_comprehension_laws.specs.Elements.{opens, passes, selected, selects, within}
use Rattle.rp_comprehension_laws.specs.Left.{EachListIsLeft, EachSetIsLeft, IsInOrder, OpensInOrder}
use Rattle.rp_comprehension_laws.proofs.Own.{OwnIn, PutsOwn, is_apart, is_own, placed, puts_key, puts_last}

-- ---- parts of clauses

begins_so : {k : Placed} (c : Clause) → ClauseKeeps c → StaysAt k (Anything k) (begins c)
begins_so {k} c i f fit s h = bind (i.of k f fit s h) (λ v p s h. form.walks v f fit s h)

passes_so : {k : Placed} (ms : List Meaning) → Each (λ m. Means m) ms → StaysAt k (Anything k) (passes ms)
passes_so [] i f fit s h = same h tt
passes_so {k} (m ∷ ms) i f fit s h = bind (i.0 k f fit s h)
    (λ v p s h. form.truth v f fit s h (λ s h. passes_so ms i.1 f fit s h) (λ s h. same h tt))

selects_so : {k : Placed} (c : Clause) → ClauseKeeps c → (v : Value) → Avoids k.at v
    → StaysAt k (Anything k) (selects c v)
selects_so {k} c i v p f fit s h =
    bind (i.bind k v p f fit s h) (λ flow q s h. passes_so c.tests i.tests f fit s h)

-- ---- a run

-- what was done and gave something
given : {A : Type 0} {k : Placed} {P : A → Type 0} {o : Outcome A} (a : A) (u : State) → Stays k P o → o ≡ gives a u
    → Stays k P (gives a u)
given {A} {k} {P} a u h e = subst (λ (o : Outcome A). Stays k P o) e h

module _ (at : Oid) (m : Meaning) (put : Store) (frame : Frame) (puts : PutsOwn at put) (means : Means m)
    (fit : (c : Content) → Fit (placed at c) frame.calls frame.run frame.scope) where
  next_so : (w x : Cursor) (v : Value) (s t : State) (h : OwnIn at s)
      → next_element frame w s ≡ gives (Some (v, x)) t
      → Stays (placed at h.own.content) (MoreAvoids (placed at h.own.content)) (gives (Some (v, x)) t)
  next_so w x v s t h e =
      given (Some (v, x)) t (form.element w frame (fit h.own.content) s (is_apart at s h)) e

  -- a turn begins: what comes next is bound, and the tests are evaluated
  turn_so : (c : Clause) → ClauseKeeps c → (w x : Cursor) (v : Value) (b : Bool) (s t u : State) (h : OwnIn at s)
      → next_element frame w s ≡ gives (Some (v, x)) t → selects c v frame t ≡ gives b u
      → IsApart (placed at h.own.content) u
  turn_so c i w x v b s t u h e f =
      let first = next_so w x v s t h e in
      let tested = given b u (selects_so c i v first.gives frame (fit h.own.content) t first.there) f in
      tested.there

  mutual
    leaves : {cs : List Clause} {s u : State} {vs : List Value} (g : Gives m put frame cs s vs u)
        → Each ClauseKeeps cs → OwnIn at s → Keeps at g × OwnIn at u
    leaves (element {s = s} {t = t} {u = u} {v = v} e p) i h =
        let there = given v t (means (placed at h.own.content) frame (fit h.own.content) s (is_apart at s h)) e in (
          there.there.heap.there ∙ sym h.own.left.there,
          puts v there.gives frame t u (is_own at h.own.content t there.there) p,
        )
    leaves (within {c = c} {s = s} {t = t} {w = w} e g) i h =
        let there = given w t (begins_so c i.0 frame (fit h.own.content) s (is_apart at s h)) e in
        let rest = leaves_from g i.0 i.1 (is_own at h.own.content t there.there) in
        ((there.there.heap.there ∙ sym h.own.left.there, rest.0), rest.1)

    leaves_from : {c : Clause} {cs : List Clause} {w : Cursor} {s u : State} {vs : List Value}
        (g : GivesFrom m put frame c cs w s vs u) → ClauseKeeps c → Each ClauseKeeps cs → OwnIn at s
        → KeepsFrom at g × OwnIn at u
    leaves_from (at_end {w = w} {s = s} {u = u} e) i j h =
        let there = given None u (form.element w frame (fit h.own.content) s (is_apart at s h)) e in
        (there.there.heap.there ∙ sym h.own.left.there, is_own at h.own.content u there.there)
    leaves_from (left_out {c = c} {w = w} {x = x} {s = s} {t = t} {r = r} {v = v} e f g) i j h =
        let there = turn_so c i w x v false s t r h e f in
        let rest = leaves_from g i j (is_own at h.own.content r there) in
        ((there.heap.there ∙ sym h.own.left.there, rest.0), rest.1)
    leaves_from (selected {c = c} {w = w} {x = x} {s = s} {t = t} {q = q} {v = v} e f g l) i j h =
        let there = turn_so c i w x v true s t q h e f in
        let this = leaves g j (is_own at h.own.content q there) in
        let rest = leaves_from l i j this.1 in
        ((there.heap.there ∙ sym h.own.left.there, this.0, rest.0), rest.1)

-- ---- a new object: no object of a store in order refers to it

below : (heap : List Owned) (i : ℕ) (P : Content → Type 0)
    → IsSomeAnd (option_map (λ (o : Owned). o.content) (slice_get heap i)) P → i < length heap
below [] i P h = absurd h
below (o ∷ os) zero P h = omega arith
below (o ∷ os) (suc i) P h = let less = below os i P h in omega arith

named_other : (a : Oid) (heap : List Owned) (P : Content → Type 0) (at : Oid) → length heap ≤ a.0 → Names heap P at
    → IsOther a at
named_other a heap P at behind h = λ (e : at.0 ≡ a.0). let less = below heap at.0 P h in omega arith

module _ (a : Oid) (heap : List Owned) (behind : length heap ≤ a.0) where
  sound_avoids : (v : Value) → IsSound heap v → Avoids a v
  sound_avoids (value.Rock r) h = tt
  sound_avoids (value.Ref at) h = named_other a heap _ at behind h
  sound_avoids (value.Prox at) h = named_other a heap _ at behind h

  all_avoid : {A : Type 0} (P Q : A → Type 0) → ((x : A) → P x → Q x) → (xs : List A) → All P xs → Each Q xs
  all_avoid P Q more [] h = tt
  all_avoid P Q more (x ∷ xs) h =
      (more x (h 0 x (omega arith)), all_avoid P Q more xs (λ i d within. h (suc i) d (omega arith)))

  some_avoids : {A : Type 0} (P Q : A → Type 0) → ((x : A) → P x → Q x) → (o : Option A) → IfSome o P → OnSome Q o
  some_avoids P Q more None h = tt
  some_avoids P Q more (Some x) h = more x h

  callee_avoids : (called : Callee) → IsCallee heap called → CalleeAvoids a called
  callee_avoids (callee.Function at) h = named_other a heap IsFunction at behind h
  callee_avoids (callee.Native id) h = tt

  content_avoids : (owner : Side) (c : Content) → MayHold heap owner c → ContentAvoids a c
  content_avoids owner (object.list xs) h = all_avoid (IsSound heap) (Avoids a) sound_avoids xs h
  content_avoids owner (object.tuple xs) h = all_avoid (IsSound heap) (Avoids a) sound_avoids xs h
  content_avoids owner (object.dict es) h =
      all_avoid (IsEntry heap) (λ (e : Key × (Rock × Value)). Avoids a e.1.1) (λ e p. sound_avoids e.1.1 p.1) es h
  content_avoids owner (object.instance of fs) h = (
    named_other a heap IsClass of behind h.0,
    all_avoid (λ (f : Name × Value). IsSound heap f.1) (λ (f : Name × Value). Avoids a f.1)
        (λ f p. sound_avoids f.1 p) fs h.1,
  )
  content_avoids owner (object.class n declared ms) h =
      all_avoid (λ (m : Name × Oid). Names heap IsFunction m.1) (λ (m : Name × Oid). IsOther a m.1)
      (λ m p. named_other a heap IsFunction m.1 behind p) ms h
  content_avoids owner (object.function n unit block around ds) h = (
    named_other a heap IsScope around behind h.1.0,
    all_avoid (IsSound heap) (Avoids a) sound_avoids ds h.2,
  )
  content_avoids owner (object.method v called) h = (sound_avoids v h.0, callee_avoids called h.2)
  content_avoids owner (object.scope block parent vs) h = (
    some_avoids (IsScopeOf heap owner) (IsOther a) (λ at p. named_other a heap IsScope at behind p.0) parent h.0,
    all_avoid (λ (slot : Option Value). IfSome slot (λ v. IsSound heap v × IsSafe heap owner v)) (OnSome (Avoids a))
        (λ slot p. some_avoids (λ (v : Value). IsSound heap v × IsSafe heap owner v) (Avoids a)
        (λ v q. sound_avoids v q.0) slot p) vs h.1,
  )

  heap_avoids : IsKept heap → HeapAvoids a heap
  heap_avoids kept =
      all_avoid (λ (o : Owned). MayHold heap o.owner o.content) (λ (o : Owned). ContentAvoids a o.content)
      (λ o p. content_avoids o.owner o.content p) heap kept.each

-- ---- a comprehension

lifted_declared : {A : Type 0} (o : plain.Outcome A) (s : State)
    → Holds (lifted o s) (λ _ u. u.declarations ≡ s.declarations)
lifted_declared {A} o s = by o.answer
  where
    by : (r : Result A End) → HoldsOf r (record s { plain = o.state }) (λ _ u. u.declarations ≡ s.declarations)
    by (Ok a) = refl
    by (Err e) = tt

declared_kept : (side : Side) (content : Content) (s u : State) (at : Oid) → makes side content s ≡ gives at u
    → u.declarations ≡ s.declarations
declared_kept side content s u at e =
    held_at (makes side content s) (λ _ u. u.declarations ≡ s.declarations) at u
    (lifted_declared (plain.makes side content s.plain) s) e

abbrev owned : Side → Content → Owned
owned side content = record { owner = side; content = content }

-- one more
longer : (xs ys : List Owned) (o : Owned) → ys ≡ xs ++ o ∷ [] → length ys ≡ length xs + 1
longer xs ys o e = ap length e ∙ length-append xs (o ∷ [])

-- the scope of a comprehension is made in a store in order, and then the result
made_apart : (empty : Content) → ((at : Oid) → ContentAvoids at empty) → (frame : Frame) (block : ℕ)
    (slots : List (Option Value)) → ((a : Oid) → Each (OnSome (Avoids a)) slots) → (scope at : Oid) (s t u : State)
    → IsInOrder frame s → IsMade frame.side (object.scope (Some block) (Some frame.scope) slots) s scope t
    → IsMade frame.side empty t at u → t.declarations ≡ s.declarations → u.declarations ≡ t.declarations
    → IsApart (placed at empty) u × IsOther at scope
made_apart empty bare frame block slots unbound scope at s t u order first second before behind =
    let inner : Content = object.scope (Some block) (Some frame.scope) slots in
    let more : length (heap_of t) ≡ length (heap_of s) + 1 =
    longer (heap_of s) (heap_of t) (owned frame.side inner) first.heap in
    let place : at.0 ≡ length (heap_of t) = second.place in
    let scope_place : scope.0 ≡ length (heap_of s) = first.place in
    let around : frame.scope.0 < length (heap_of s) = order.scope in
    let classes : length s.declarations.classes < length (heap_of s) = order.declared in
    let parent : IsOther at frame.scope = λ (e : frame.scope.0 ≡ at.0). omega arith in
    let in_scope : HeapAvoids at (heap_of s ++ owned frame.side inner ∷ []) =
    each_append (λ (o : Owned). ContentAvoids at o.content) (heap_of s) (owned frame.side inner ∷ [])
    (heap_avoids at (heap_of s) (omega arith) order.kept) ((parent, unbound at), tt) in
    let between : HeapAvoids at (heap_of t) = subst (HeapAvoids at) (sym first.heap) in_scope in
    let last : HeapAvoids at (heap_of t ++ owned frame.side empty ∷ []) =
    each_append (λ (o : Owned). ContentAvoids at o.content) (heap_of t) (owned frame.side empty ∷ []) between
    (bare at, tt) in
    let few : length s.declarations.classes < at.0 = omega arith in (
      record {
        heap = record { there = second.there; others = subst (HeapAvoids at) (sym second.heap) last };
        declared = subst (λ (d : Declarations). length d.classes < at.0) (sym (behind ∙ before)) few;
      },
      (λ (e : scope.0 ≡ at.0). omega arith),
    )

opens_so : (block : ℕ) (c : Clause) (empty : Content) (frame : Frame) (s : State) → ((at : Oid) → ContentAvoids at empty)
    → OpensInOrder c frame s
    → Holds (opens block c empty frame s) (λ r u. IsApart (placed r.2 empty) u × IsOther r.2 r.1)
opens_so block c empty frame s bare order =
    step_held s (λ s. on_value (begins c frame s) after) P (λ s1 e1.
    held_bind (begins c frame s1) after P (λ w s2 e2.
    then_held (new_scope block frame slots s2) (made w) (IsMade frame.side inner s2) P
    (makes_held frame.side inner s2) (λ scope s3 e3 first.
    then_held (makes frame.side empty s3) (λ at s. gives (w, scope, at) s) (IsMade frame.side empty s3) P
    (makes_held frame.side empty s3) (λ at s4 e4 second.
    made_apart empty bare frame block slots (λ a. each_replicate (OnSome (Avoids a)) _ None tt) scope at s2 s3 s4
    (order s1 s2 w (goes (λ _ s. done s) e1 refl) e2) first second (declared_kept frame.side inner s2 s3 scope e3)
    (declared_kept frame.side empty s3 s4 at e4))))) where
      P : Cursor × Oid × Oid → State → Type 0
      P r u = IsApart (placed r.2 empty) u × IsOther r.2 r.1

      slots : List (Option Value)
      slots = empty_slots (length ((layouts_of frame).locals block))

      inner : Content
      inner = object.scope (Some block) (Some frame.scope) slots

      made : Cursor → Oid → State → Outcome (Cursor × Oid × Oid)
      made w scope s = on_value (makes frame.side empty s) (λ at s. gives (w, scope, at) s)

      after : Cursor → State → Outcome (Cursor × Oid × Oid)
      after w s = on_value (new_scope block frame slots s) (made w)

opened_so : (block : ℕ) (c : Clause) (empty : Content) (frame : Frame) (s u : State) (w : Cursor) (scope at : Oid)
    → ((at : Oid) → ContentAvoids at empty) → OpensInOrder c frame s
    → opens block c empty frame s ≡ gives (w, scope, at) u → IsApart (placed at empty) u × IsOther at scope
opened_so block c empty frame s u w scope at bare order e =
    held_at (opens block c empty frame s) (λ r u. IsApart (placed r.2 empty) u × IsOther r.2 r.1) (w, scope, at) u
    (opens_so block c empty frame s bare order) e

pub list_left : EachListIsLeft
list_left block x c cs frame s u vs at g alone order =
    let opened = opened_so block (clause c) (object.list []) frame s g.before g.walked g.scope at (λ at. tt) order
    g.opened in
    let left = leaves_from at (eval x) (put_last at) (record frame { block = block; scope = g.scope }) (puts_last at)
    (trees.expression x)
    (λ content. record { calls = alone.calls (placed at content); quiet = alone.quiet; scope = opened.1 })
    g.given (trees.clause c) (trees.clauses cs) (is_own at (object.list []) g.before opened.0) in
    left.0

pub set_left : EachSetIsLeft
set_left block x c cs frame s u vs at g alone order =
    let opened = opened_so block (clause c) (object.dict []) frame s g.before g.walked g.scope at (λ at. tt) order
    g.opened in
    let left = leaves_from at (eval x) (put_key at) (record frame { block = block; scope = g.scope }) (puts_key at)
    (trees.expression x)
    (λ content. record { calls = alone.calls (placed at content); quiet = alone.quiet; scope = opened.1 })
    g.given (trees.clause c) (trees.clauses cs) (is_own at (object.dict []) g.before opened.0) in
    left.0
