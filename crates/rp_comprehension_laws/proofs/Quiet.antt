-- What changes no object but scopes leaves the result of a comprehension as it is.
use Rattle.std.proofs.Common.{◌≡◌, refl, sym, ap, ◌∙◌, ℕ, zero, suc, ◌+◌, Bool, true, false}
use Rattle.std.proofs.Common.{List, [], ◌∷◌, ◌++◌}
use Rattle.std.proofs.Common.{append-nil, length, slice_get, codes, Option, Some, None, Result, Ok, Err}
use Rattle.std.proofs.Common.{if◌then◌else◌}
use Rattle.std.specs.Prelude.{nat_lt, ◌==◌, encode_utf8_all}
use Rattle.std.specs.Option.{option_map}
use Rattle.rp_base.specs.Names.{word_of}
use Rattle.rp_base.specs.declared.kind.Kind.TheVariants.{RuntimeError}
use Rattle.rp_base.specs.declared.value.Name.{Name}
use Rattle.rp_base.specs.declared.value.Oid.{Oid}
use Rattle.rp_base.specs.declared.value.Rock.TheVariants as rock
use Rattle.rp_base.specs.declared.value.Value.{Value}
use Rattle.rp_base.specs.declared.value.Value.TheVariants as value
use Rattle.rp_base.specs.declared.word.TheConstants.{BOOL, ITER}
use Rattle.rp_checker.specs.RowOf.{reading}
use Rattle.rp_ops.specs.Binary.{new_text}
use Rattle.rp_ops.specs.Operand.{truth_of}
use Rattle.rp_ops.specs.Outcome as plain
use Rattle.rp_ops.specs.Outcome.{End, ends, gives, on_value, on_found}
use Rattle.rp_ops.specs.Walk as walking
use Rattle.rp_ops.specs.Walk.{Cursor, characters_from, elements_from, keys_from, walk_of}
use Rattle.rp_proxy.specs.Decide.{Decision, Monitor}
use Rattle.rp_proxy.specs.Taken.{taken}
use Rattle.rp_store.specs.Heap.{content_at}
use Rattle.rp_store.specs.Object as object
use Rattle.rp_store.specs.Object.{Content}
use Rattle.rp_meaning.specs.Expressions.{Clause, empty_slots, new_scope}
use Rattle.rp_meaning.specs.Frame.{Frame, Meaning, asked_for, decided, layouts_of, on_decision}
use Rattle.rp_meaning.specs.Meaning.{clause, eval}
use Rattle.rp_meaning.specs.State.{State, Outcome, choose, heap_of, makes, monitor_of, next, plainly}
use Rattle.rp_meaning.specs.State.{with_monitor}
use Rattle.rp_meaning.specs.Statements.{Store}
use Rattle.rp_meaning.specs.Walks.{next_element, on_truth, walk}
use Rattle.rp_fixed_laws.specs.Fixed.{DecidesQuietly}
use Rattle.rp_more_laws.proofs.Going.{Holds, HoldsOf, IsMade, bind, choose_held, found_held, held_at, lifted_held}
use Rattle.rp_more_laws.proofs.Going.{makes_held, step_held, then_held, weaker}
use Rattle.rp_more_laws.proofs.Filled.{rocks_of}
use Rattle.rp_comprehension_laws.specs.Comprehensions.{put_key, put_last}
use Rattle.rp_comprehension_laws.specs.Elements.{Gives, GivesFrom, Keeps, KeepsFrom, Same, at_end, begins, element}
use Rattle.rp_comprehension_laws.specs.Elements.{left_out, opens, passes, selected, selects, within}
use Rattle.rp_comprehension_laws.specs.Quiet.{AllQuiet, ClausesQuiet}
use Rattle.rp_comprehension_laws.specs.Quiet.{EachQuietListIsLeft, EachQuietSetIsLeft, IsNoScope, IsQuiet}
use Rattle.rp_comprehension_laws.specs.Quiet.{ObjectsStay, TurnsQuiet}
use Rattle.rp_comprehension_laws.proofs.Contents.{Entries, IsHeld, Keyed, Listed, dict_of, follows}
use Rattle.rp_comprehension_laws.proofs.Contents.{key_one, keys_two, last_one, lists_two}

-- ---- one behind another

stay_then : (s t u : State) → ObjectsStay s t → ObjectsStay t u → ObjectsStay s u
stay_then s t u first more at c other is = more at c other (first at c other is)

pub stay_same : (s u : State) → heap_of u ≡ heap_of s → ObjectsStay s u
stay_same s u e at c other is = ap (λ heap. content_at heap at) e ∙ is

-- where it gives something, the objects of a state stay
abbrev pub Stay : {A : Type 0} → State → Outcome A → Type 0
Stay s o = Holds o (λ a u. ObjectsStay s u)

stays : {A : Type 0} (frame : Frame) (does : Frame → State → Outcome A) → IsQuiet frame does → (s : State)
    → Stay s (does frame s)
stays {A} frame does quiet s = by (does frame s).answer refl where
  by : (r : Result A End) → (does frame s).answer ≡ r → HoldsOf r (does frame s).state (λ a u. ObjectsStay s u)
  by (Ok a) e = quiet s (does frame s).state a (λ i. record { answer = e i; state = (does frame s).state })
  by (Err x) e = tt

pub is_quiet : {A : Type 0} (frame : Frame) (does : Frame → State → Outcome A) → ((s : State) → Stay s (does frame s))
    → IsQuiet frame does
is_quiet frame does h s u a e = held_at (does frame s) (λ a u. ObjectsStay s u) a u (h s) e

pub further : {A : Type 0} (s t : State) (o : Outcome A) → ObjectsStay s t → Stay t o → Stay s o
further s t o first more =
    weaker o (λ a u. ObjectsStay t u) (λ a u. ObjectsStay s u) (λ a u h. stay_then s t u first h) more

pub then_stay : {A B : Type 0} (s : State) (o : Outcome A) (more : A → State → Outcome B) → Stay s o
    → ((a : A) (t : State) → Stay t (more a t)) → Stay s (on_value o more)
then_stay s o more h rest =
    then_held o more (λ a t. ObjectsStay s t) (λ b u. ObjectsStay s u) h
    (λ a t _ first. further s t (more a t) first (rest a t))

pub nothing_done : (s : State) → ObjectsStay s s
nothing_done s at c other is = is

-- ---- decisions

decided_stay : {A : Type 0} (d : Decision × Monitor) (s : State) (more : State → Outcome A)
    → d.1.store.heap ≡ heap_of s → ((t : State) → Stay t (more t)) → Stay s (decided d s more)
decided_stay d s more e rest = by d.0 where
  by : (r : Decision) → Stay s (on_decision r (with_monitor d.1 s) more)
  by (Ok nothing) =
      further s (with_monitor d.1 s) (more (with_monitor d.1 s)) (stay_same s (with_monitor d.1 s) e)
      (rest (with_monitor d.1 s))
  by (Err x) = tt

pub asked_stay : {A : Type 0} (frame : Frame) → DecidesQuietly frame.run → (n : Name) (v : Value) (s : State)
    (more : State → Outcome A) → ((t : State) → Stay t (more t)) → Stay s (asked_for frame n v s more)
asked_stay frame free n v s more rest =
    decided_stay (frame.run.decide v (reading (word_of s.names n)) (monitor_of s)) s more
    (free v (reading (word_of s.names n)) (monitor_of s)) rest

pub walk_stay : (frame : Frame) → DecidesQuietly frame.run → (v : Value) (s : State) → Stay s (walk v frame s)
walk_stay frame free v s =
    asked_stay frame free ITER v s (λ s. on_found (walk_of (heap_of s) v) s gives)
    (λ t. found_held (walk_of (heap_of t) v) t gives (λ a u. ObjectsStay t u) (λ c _. nothing_done t))

pub truth_stay : {A : Type 0} (frame : Frame) → DecidesQuietly frame.run → (v : Value) (s : State)
    (this other : State → Outcome A) → ((t : State) → Stay t (this t)) → ((t : State) → Stay t (other t))
    → Stay s (on_truth v frame s this other)
truth_stay frame free v s this other h k =
    asked_stay frame free BOOL v s (λ s. choose (truth_of (heap_of s) v) this other s)
    (λ t. choose_held (truth_of (heap_of t) v) this other t (λ a u. ObjectsStay t u) (h t) (k t))

-- ---- clauses

begins_stay : (frame : Frame) → DecidesQuietly frame.run → (c : Clause) → IsQuiet frame c.of → (s : State)
    → Stay s (begins c frame s)
begins_stay frame free c quiet s =
    then_stay s (c.of frame s) (λ v s. walk v frame s) (stays frame c.of quiet s) (walk_stay frame free)

passes_stay : (frame : Frame) → DecidesQuietly frame.run → (ms : List Meaning) → AllQuiet frame ms → (s : State)
    → Stay s (passes ms frame s)
passes_stay frame free [] quiet s = nothing_done s
passes_stay frame free (m ∷ ms) quiet s =
    then_stay s (m frame s) (λ v s. on_truth v frame s (passes ms frame) (gives false)) (stays frame m quiet.0 s)
    (λ v t. truth_stay frame free v t (passes ms frame) (gives false) (passes_stay frame free ms quiet.1) nothing_done)

selects_stay : (frame : Frame) → DecidesQuietly frame.run → (c : Clause) → TurnsQuiet frame c → (v : Value) (s : State)
    → Stay s (selects c v frame s)
selects_stay frame free c quiet v s =
    then_stay s (c.bind v frame s) (λ _ s. passes c.tests frame s) (stays frame (c.bind v) (quiet.0 v) s)
    (λ _ t. passes_stay frame free c.tests quiet.1 t)

-- what comes next in a walk changes no object

abbrev Kept : plain.State → plain.Outcome (Option (Value × Cursor)) → Type 0
Kept p o = Holds o (λ a q. q.store.heap ≡ p.store.heap)

taken_kept : (o : Option Value) (c : Cursor) (p : plain.State) → Kept p (walking.taken o c p)
taken_kept None c p = refl
taken_kept (Some v) c p = by p.steps where
  by : (n : ℕ) → Kept p (plain.stepped (record p { steps = n }) (gives (Some (v, c))))
  by zero = tt
  by (suc n) = refl

text_kept : (t : List ℕ) (c : Cursor) (cells : ℕ) (p : plain.State)
    → Kept p (on_value (plain.charged cells p (gives (value.Rock (rock.Text t)))) (λ v p. gives (Some (v, c)) p))
text_kept t c cells p = by (nat_lt p.store.limit (p.store.used + cells)) where
  by : (b : Bool)
      → Kept p (on_value (if b then ends plain.no_cell p
      else gives (value.Rock (rock.Text t)) (plain.with_used p (p.store.used + cells))) (λ v p. gives (Some (v, c)) p))
  by true = tt
  by false = refl

character_kept : (cs : List ℕ) (p : plain.State) → Kept p (walking.next_character cs p)
character_kept [] p = refl
character_kept (c ∷ cs) p = by p.steps where
  by : (n : ℕ)
      → Kept p (plain.stepped (record p { steps = n })
      (λ p. on_value (new_text (c ∷ []) p) (λ v p. gives (Some (v, characters_from cs)) p)))
  by zero = tt
  by (suc n) =
      text_kept (c ∷ []) (characters_from cs) (length (encode_utf8_all (c ∷ []))) (record p { steps = n })

key_kept : (keys : List Value) (at : Oid) (i n : ℕ) (p : plain.State) → Kept p (walking.next_key keys at i n p)
key_kept keys at i n p = by (length keys == n) where
  by : (b : Bool)
      → Kept p (if b then walking.taken (slice_get keys i) (keys_from at (i + 1) n) p
      else plain.raises RuntimeError (codes "dict size") p)
  by true = taken_kept (slice_get keys i) (keys_from at (i + 1) n) p
  by false = tt

next_kept : (w : Cursor) (p : plain.State) → Kept p (walking.next_of w p)
next_kept (elements_from lent at i) p =
    taken_kept (slice_get (walking.elements_in p.store.heap lent at) i) (elements_from lent at (i + 1)) p
next_kept (keys_from at i n) p = key_kept (walking.keys_in p.store.heap at) at i n p
next_kept (characters_from cs) p = character_kept cs p

pub next_stay : (frame : Frame) (w : Cursor) (s : State) → Stay s (next_element frame w s)
next_stay frame w s =
    then_held (plainly (walking.next_of w) s)
    (λ e s. gives (option_map (λ (e : Value × Cursor). (taken (heap_of s) frame.side e.0, e.1)) e) s)
    (λ e u. heap_of u ≡ heap_of s)
    (λ e u. ObjectsStay s u)
    (lifted_held (walking.next_of w s.plain) s (λ e u. heap_of u ≡ heap_of s) (next_kept w s.plain))
    (λ e u _ same. stay_same s u same)

-- ---- a run

module _ (X : Type 0) (content : X → Content) (Added : X → List Value → X → Type 0) (at : Oid) (m : Meaning)
    (put : Store) (frame : Frame) (none : (x : X) → Added x [] x)
    (both : (x y z : X) (vs ws : List Value) → Added x vs y → Added y ws z → Added x (vs ++ ws) z)
    (one : (x : X) (v : Value) (s u : State) → content_at (heap_of s) at ≡ Some (content x)
    → put v frame s ≡ gives next u → IsHeld X content Added at x (v ∷ []) u)
    (objects : (x : X) → IsNoScope (content x)) (free : DecidesQuietly frame.run) (quiet : IsQuiet frame m) where
  as_it_was : (s u : State) (x : X) → ObjectsStay s u → content_at (heap_of s) at ≡ Some (content x) → Same at s u
  as_it_was s u x h is = h at (content x) (objects x) is ∙ sym is

  next_stays : (w : Cursor) (s u : State) (e : Option (Value × Cursor)) → next_element frame w s ≡ gives e u
      → ObjectsStay s u
  next_stays w s u e h = held_at (next_element frame w s) (λ e u. ObjectsStay s u) e u (next_stay frame w s) h

  turn_stays : (c : Clause) (w x : Cursor) (v : Value) (b : Bool) (s t u : State) → TurnsQuiet frame c
      → next_element frame w s ≡ gives (Some (v, x)) t → selects c v frame t ≡ gives b u → ObjectsStay s u
  turn_stays c w x v b s t u quiet h k =
      stay_then s t u (next_stays w s t (Some (v, x)) h)
      (held_at (selects c v frame t) (λ b u. ObjectsStay t u) b u (selects_stay frame free c quiet v t) k)

  mutual
    leaves : {cs : List Clause} {s u : State} {vs : List Value} (g : Gives m put frame cs s vs u)
        → ClausesQuiet frame cs → (x : X) → content_at (heap_of s) at ≡ Some (content x) → Keeps at g
    leaves (element {s = s} {t = t} {v = v} e p) h x is = as_it_was s t x (quiet s t v e) is
    leaves (within {c = c} {s = s} {t = t} {w = w} e g) h x is =
        let first = held_at (begins c frame s) (λ w u. ObjectsStay s u) w t (begins_stay frame free c h.0 s) e in
        (as_it_was s t x first is, leaves_from g h.1 h.2 x (first at (content x) (objects x) is))

    leaves_from : {c : Clause} {cs : List Clause} {w : Cursor} {s u : State} {vs : List Value}
        (g : GivesFrom m put frame c cs w s vs u) → TurnsQuiet frame c → ClausesQuiet frame cs → (x : X)
        → content_at (heap_of s) at ≡ Some (content x) → KeepsFrom at g
    leaves_from (at_end {w = w} {s = s} {u = u} e) h k x is = as_it_was s u x (next_stays w s u None e) is
    leaves_from (left_out {c = c} {w = w} {x = y} {s = s} {t = t} {r = r} {v = v} e f g) h k x is =
        let first = turn_stays c w y v false s t r h e f in
        (as_it_was s r x first is, leaves_from g h k x (first at (content x) (objects x) is))
    leaves_from (selected {c = c} {w = w} {x = y} {s = s} {t = t} {q = q} {v = v} e f g i) h k x is =
        let first = turn_stays c w y v true s t q h e f in
        let there = first at (content x) (objects x) is in
        let this = leaves g k x there in
        let held = follows X content Added at m put frame none both one g this x there in
        (as_it_was s q x first is, this, leaves_from i h k held.after held.there)

-- ---- a comprehension

opens_held : (block : ℕ) (c : Clause) (empty : Content) (frame : Frame) (s : State)
    → Holds (opens block c empty frame s) (λ r u. content_at (heap_of u) r.2 ≡ Some empty)
opens_held block c empty frame s =
    step_held s (λ s. on_value (begins c frame s) after) P (λ s1 _.
    bind (begins c frame s1) after P (λ w s2 _.
    bind (new_scope block frame slots s2) (made w) P (λ scope s3 _.
    then_held (makes frame.side empty s3) (λ at s. gives (w, scope, at) s) (IsMade frame.side empty s3) P
    (makes_held frame.side empty s3) (λ at s4 _ made. made.there)))) where
      P : Cursor × Oid × Oid → State → Type 0
      P r u = content_at (heap_of u) r.2 ≡ Some empty

      slots : List (Option Value)
      slots = empty_slots (length ((layouts_of frame).locals block))

      made : Cursor → Oid → State → Outcome (Cursor × Oid × Oid)
      made w scope s = on_value (makes frame.side empty s) (λ at s. gives (w, scope, at) s)

      after : Cursor → State → Outcome (Cursor × Oid × Oid)
      after w s = on_value (new_scope block frame slots s) (made w)

pub quiet_list : EachQuietListIsLeft
quiet_list block x c cs frame s u vs at g quiet =
    leaves_from (List Value) object.list Listed at (eval x) (put_last at)
    (record frame { block = block; scope = g.scope }) (λ xs. sym (append-nil xs)) lists_two
    (last_one at (record frame { block = block; scope = g.scope })) (λ xs. tt) quiet.decides quiet.expression g.given
    quiet.turns quiet.later []
    (held_at (opens block (clause c) (object.list []) frame s)
    (λ r u. content_at (heap_of u) r.2 ≡ Some (object.list []))
    (g.walked, g.scope, at) g.before (opens_held block (clause c) (object.list []) frame s) g.opened)

pub quiet_set : EachQuietSetIsLeft
quiet_set block x c cs frame s u vs at g quiet =
    leaves_from Entries dict_of Keyed at (eval x) (put_key at) (record frame { block = block; scope = g.scope })
    (λ es. (sym (append-nil (rocks_of es.0)), tt)) keys_two
    (key_one at (record frame { block = block; scope = g.scope })) (λ es. tt) quiet.decides quiet.expression g.given
    quiet.turns quiet.later ([], tt)
    (held_at (opens block (clause c) (object.dict []) frame s)
    (λ r u. content_at (heap_of u) r.2 ≡ Some (object.dict []))
    (g.walked, g.scope, at) g.before (opens_held block (clause c) (object.dict []) frame s) g.opened)
