-- The laws of sets.
use Rattle.std.proofs.Common.{◌≡◌, refl, sym, ap, subst, ◌∙◌, ℕ, ◌+◌, zero, suc, Bool, true, false, List, [], ◌∷◌}
use Rattle.std.proofs.Common.{length, map, slice_get, Option, Some, None, Result, Ok, codes, pos, if◌then◌else◌}
use Rattle.std.specs.Prelude.{is_some, nat_eq, ◌&&◌}
use Rattle.std.specs.List.{list_all, list_any}
use Rattle.std.specs.Option.{option_map, option_map_or}
use Rattle.std.proofs.lemmas.Bool.{eq-eqb}
use Rattle.std.proofs.lemmas.List.{length-map}
use Rattle.rp_base.specs.declared.value.Line.{Line}
use Rattle.rp_base.specs.declared.value.Oid.{Oid}
use Rattle.rp_base.specs.Names.{word_of}
use Rattle.rp_base.specs.declared.kind.Kind.TheVariants.{TypeError}
use Rattle.rp_base.specs.declared.value.Raised.{Raised}
use Rattle.rp_base.specs.declared.value.Rock.{Rock}
use Rattle.rp_base.specs.declared.value.Rock.TheVariants as rock
use Rattle.rp_base.specs.declared.value.Side.{Side}
use Rattle.rp_base.specs.declared.value.Value.{Value}
use Rattle.rp_base.specs.declared.value.Value.TheVariants as value
use Rattle.rp_base.specs.declared.word.TheConstants.{CONTAINS, ITER}
use Rattle.rp_checker.specs.RowOf.{reading}
use Rattle.rp_compare.specs.Membership.{content_contains}
use Rattle.rp_ops.specs.Keys.{entry_in}
use Rattle.rp_ops.specs.Numbers.{refused}
use Rattle.rp_ops.specs.Outcome as plain
use Rattle.rp_ops.specs.Outcome.{gives, on_value, on_found}
use Rattle.rp_ops.specs.View.{key_rock}
use Rattle.rp_ops.specs.Walk as walking
use Rattle.rp_ops.specs.Walk.{Cursor, keys_from, keys_in}
use Rattle.rp_proxy.specs.Taken.{taken}
use Rattle.rp_store.specs.Heap.{Owned, content_at}
use Rattle.rp_store.specs.Key.{key_form}
use Rattle.rp_store.specs.Object as object
use Rattle.rp_store.specs.Object.{Entry}
use Rattle.rp_store.specs.declared.key.Key.{Key}
use Rattle.rp_store.specs.declared.key.Key.TheVariants as key
use Rattle.rp_store.specs.Parts.{entries}
use Rattle.rp_tree.specs.declared.parts.Test.TheVariants as test
use Rattle.rp_tree.specs.Expressions as tree
use Rattle.rp_meaning.specs.State.{State, Outcome, choose, heap_of, lifted, makes, monitor_of, plainly, stepped}
use Rattle.rp_meaning.specs.Frame.{Frame}
use Rattle.rp_meaning.specs.Access.{is_within}
use Rattle.rp_meaning.specs.Expressions as expression
use Rattle.rp_meaning.specs.Expressions.{dict_with, makes_own, nil, truth}
use Rattle.rp_meaning.specs.Meaning as meaning
use Rattle.rp_meaning.specs.Meaning.{eval}
use Rattle.rp_meaning.specs.Operators.{tested}
use Rattle.rp_meaning.specs.Walks.{next_element, walk}
use Rattle.rp_more_laws.specs.Deciding.{DecidesProxiesAlone}
use Rattle.rp_more_laws.specs.Sets.{EachTestTellsWhetherAnElementIsEqual, EachWalkGivesDistinctElements, HaveNones}
use Rattle.rp_more_laws.specs.Sets.{IsNone, IsTested, IsWalked, distinct, element_values, equals, is_key}
use Rattle.rp_more_laws.specs.Sets.{set_tree, set_values, turn, within_tree}
use Rattle.rp_more_laws.proofs.Going.{Holds, IsMade, asked_own, bind, found_held, goes, held_at, lifted_held}
use Rattle.rp_more_laws.proofs.Going.{makes_held, step, step_held, then_held}
use Rattle.rp_more_laws.proofs.Keys.{AreKeys, IsKey, key_is, keys_are}
use Rattle.rp_more_laws.proofs.Filled.{AreKeyed, IsFilled, OnOk, entry_any, filled, rocks_of, with_nil}

-- ---- the elements

-- what a literal gives
gives_constant : (c v : Value) (frame : Frame) (s u : State) → expression.constant c frame s ≡ gives v u
    → (step s ≡ gives (tt {0}) u) × (v ≡ c)
gives_constant c v frame s u h =
    held_at (expression.constant c frame s) (λ v u. (step s ≡ gives (tt {0}) u) × (v ≡ c)) v u
    (step_held s (gives c) (λ v u. (step s ≡ gives (tt {0}) u) × (v ≡ c)) (λ u e. (e, refl))) h

gives_none : (x : tree.Expr) (v : Value) (frame : Frame) (s u : State) → IsNone x → eval x frame s ≡ gives v u
    → (step s ≡ gives (tt {0}) u) × (v ≡ nil)
gives_none x v frame s u none h = gives_constant nil v frame s u (sym (ap (λ x. eval x frame s) none.1) ∙ h)

abbrev AreEvaluated : tree.Pairs → Frame → State → List (Value × Value) → State → Type 0
AreEvaluated ps frame s kvs u = (vs : List Value) × (element_values ps frame s ≡ gives vs u) × (kvs ≡ map with_nil vs)

pairs_held : (ps : tree.Pairs) (frame : Frame) (s : State) → HaveNones ps
    → Holds (expression.pairs (meaning.pairs ps) frame s) (AreEvaluated ps frame s)
pairs_held tree.no_pairs frame s h = ([], refl, refl)
pairs_held (tree.pair k x ps) frame s h =
    bind (eval k frame s)
    (λ v s. on_value (eval x frame s)
    (λ w s. on_value (expression.pairs (meaning.pairs ps) frame s) (λ kvs s. gives ((v, w) ∷ kvs) s)))
    (AreEvaluated (tree.pair k x ps) frame s) (λ v s1 e1.
    bind (eval x frame s1)
    (λ w s. on_value (expression.pairs (meaning.pairs ps) frame s) (λ kvs s. gives ((v, w) ∷ kvs) s))
    (AreEvaluated (tree.pair k x ps) frame s) (λ w s2 e2.
    then_held (expression.pairs (meaning.pairs ps) frame s2) (λ kvs s. gives ((v, w) ∷ kvs) s)
    (AreEvaluated ps frame s2) (AreEvaluated (tree.pair k x ps) frame s)
    (pairs_held ps frame s2 h.1) (λ kvs s3 e3 rest. (
      v ∷ rest.0,
      goes (λ v s. stepped s (λ s. on_value (element_values ps frame s) (λ vs s. gives (v ∷ vs) s))) e1
          (goes (λ _ s. on_value (element_values ps frame s) (λ vs s. gives (v ∷ vs) s)) (gives_none x w frame s1 s2 h.0 e2).0
          (goes (λ vs s. gives (v ∷ vs) s) rest.1 refl)),
      (λ i. (v, (gives_none x w frame s1 s2 h.0 e2).1 i) ∷ rest.2 i),
    ))))

-- ---- the dict

record IsSet (ps : tree.Pairs) (frame : Frame) (s : State) (v : Value) (u : State) : Type 0 where
  held : List Value
  behind : State
  evaluated : set_values ps frame s ≡ gives held behind
  keys : AreKeys held
  at : Oid
  result : v ≡ value.Ref at
  entries : List Entry
  content : content_at (heap_of u) at ≡ Some (object.dict entries)
  keyed : AreKeyed entries
  rocks : rocks_of entries ≡ distinct held

ok_filled : (vs : List Value) (c : object.Content) (r : Result object.Content Raised) → r ≡ Ok c
    → OnOk r (IsFilled [] vs) → IsFilled [] vs c
ok_filled vs c r h f = subst (λ r. OnOk r (IsFilled [] vs)) h f

abbrev own_made : Frame → object.Content → State → Outcome Value
own_made frame c s = makes_own c frame s

set_held : (line : Line) (ps : tree.Pairs) (frame : Frame) (s : State) → HaveNones ps
    → Holds (eval (set_tree line ps) frame s) (IsSet ps frame s)
set_held line ps frame s h =
    step_held s
    (λ s. on_value (expression.pairs (meaning.pairs ps) frame s)
    (λ kvs s. on_found (dict_with (object.dict []) kvs) s (own_made frame))) (IsSet ps frame s) (λ s1 e1.
    then_held (expression.pairs (meaning.pairs ps) frame s1)
    (λ kvs s. on_found (dict_with (object.dict []) kvs) s (own_made frame)) (AreEvaluated ps frame s1)
    (IsSet ps frame s)
    (pairs_held ps frame s1 h) (λ kvs s2 _ a.
    found_held (dict_with (object.dict []) kvs) s2 (own_made frame) (IsSet ps frame s) (λ c ok.
    then_held (makes frame.side c s2) (λ at s. gives (value.Ref at) s) (IsMade frame.side c s2) (IsSet ps frame s)
    (makes_held frame.side c s2) (λ at s3 _ made.
    let f = ok_filled a.0 c (dict_with (object.dict []) kvs) ok
    (subst (λ kvs. OnOk (dict_with (object.dict []) kvs) (IsFilled [] a.0)) (sym a.2) (filled [] a.0 tt)) in
    record {
      held = a.0;
      behind = s2;
      evaluated = goes (λ _ s. element_values ps frame s) e1 a.1;
      keys = f.keys;
      at = at;
      result = refl;
      entries = f.entries;
      content = made.there ∙ ap Some f.is_dict;
      keyed = f.keyed;
      rocks = f.rocks;
    }))))

-- ---- the test

-- a key is sought
sought : (q : Rock) (k : Key) (es : List Entry) (vs : List Value) → key_form q ≡ Some k → AreKeyed es → rocks_of es
    ≡ distinct vs → AreKeys vs
    → IsKey (value.Rock q) × (is_some (entry_in es q) ≡ list_any (equals (value.Rock q)) vs)
sought q k es vs hk h e keys =
    (record { rock = q; key = k; is_rock = refl; form = hk }, entry_any q k es vs hk h e keys)

abbrev pub IsAnswered : Value → List Value → Bool → State → Type 0
IsAnswered a vs r u = IsKey a × (r ≡ list_any (equals a) vs)

dict_tested : (a : Value) (es : List Entry) (vs : List Value) (p : plain.State) → AreKeyed es → rocks_of es
    ≡ distinct vs → AreKeys vs
    → Holds (content_contains (object.dict es) a p) (λ r q. IsKey a × (r ≡ list_any (equals a) vs))
dict_tested (value.Ref at) es vs p h e keys = tt
dict_tested (value.Prox at) es vs p h e keys = tt
dict_tested (value.Rock (rock.Exc k t)) es vs p h e keys = tt
dict_tested (value.Rock (rock.Kind k)) es vs p h e keys = tt
dict_tested (value.Rock (rock.Native f)) es vs p h e keys = tt
dict_tested (value.Rock rock.Nil) es vs p h e keys = sought rock.Nil key.Nil es vs refl h e keys
dict_tested (value.Rock (rock.Truth true)) es vs p h e keys =
    sought (rock.Truth true) (key.Number (pos 1)) es vs refl h e keys
dict_tested (value.Rock (rock.Truth false)) es vs p h e keys =
    sought (rock.Truth false) (key.Number (pos 0)) es vs refl h e keys
dict_tested (value.Rock (rock.Int n)) es vs p h e keys = sought (rock.Int n) (key.Number n) es vs refl h e keys
dict_tested (value.Rock (rock.Text t)) es vs p h e keys = sought (rock.Text t) (key.Text t) es vs refl h e keys

pub within_own : (frame : Frame) (a : Value) (at : Oid) (es : List Entry) (vs : List Value) (s : State)
    → DecidesProxiesAlone frame.run
    → content_at (heap_of s) at ≡ Some (object.dict es) → AreKeyed es → rocks_of es ≡ distinct vs → AreKeys vs
    → Holds (is_within a (value.Ref at) frame s) (IsAnswered a vs)
within_own frame a at es vs s free there keyed rocks keys =
    rw (free.own at (reading (word_of s.names CONTAINS)) (monitor_of s), there)
    (rw there
    (lifted_held (content_contains (object.dict es) a s.plain) s (IsAnswered a vs)
    (dict_tested a es vs s.plain keyed rocks keys)))

pub tells : EachTestTellsWhetherAnElementIsEqual
tells line set_line x ps frame s u v free nones h =
    held_at (eval (within_tree line set_line x ps) frame s) P v u test_held h where
      P : Value → State → Type 0
      P v u = IsTested x ps frame s v

      set : Frame → State → Outcome Value
      set = eval (set_tree set_line ps)

      ending : Value → Bool → State → Outcome Value
      ending b r s = choose r (expression.tests [] b frame) (gives (truth false)) s

      ending_held : (b : Value) (r : Bool) (s4 : State) (P : Value → State → Type 0) → P (truth r) s4
          → Holds (ending b r s4) P
      ending_held b true s4 P h = h
      ending_held b false s4 P h = h

      test_held : Holds (eval (within_tree line set_line x ps) frame s) P
      test_held =
          bind (eval x frame s) (λ a s. expression.tests ((test.Within, set) ∷ []) a frame s) P (λ a s1 e1.
          step_held s1 (λ s. on_value (set frame s) (λ b s. on_value (tested test.Within a b frame s) (ending b))) P
          (λ s2 e2.
          then_held (set frame s2) (λ b s. on_value (tested test.Within a b frame s) (ending b)) (IsSet ps frame s2) P
          (set_held set_line ps frame s2 nones) (λ b s3 _ is_set.
          then_held (tested test.Within a b frame s3) (ending b) (IsAnswered a is_set.held) P
          (subst (λ b. Holds (is_within a b frame s3) (IsAnswered a is_set.held)) (sym is_set.result)
          (within_own frame a is_set.at is_set.entries is_set.held s3 free is_set.content is_set.keyed is_set.rocks
          is_set.keys)) (λ r s4 _ answered.
          ending_held b r s4 P (record {
            sought = a;
            held = is_set.held;
            behind = is_set.behind;
            evaluated = goes (λ a s. stepped s (λ s. on_value (set_values ps frame s) (λ vs s. gives (a, vs) s))) e1
                (goes (λ _ s. on_value (set_values ps frame s) (λ vs s. gives (a, vs) s)) e2
                (goes (λ vs s. gives (a, vs) s) is_set.evaluated refl));
            keys = ap (λ b. b && list_all is_key is_set.held) (key_is a answered.0) ∙ keys_are is_set.held is_set.keys;
            result = ap truth answered.1;
          })))))

-- ---- the walk

keys_are_rocks : (heap : List Owned) (at : Oid) (es : List Entry) → content_at heap at ≡ Some (object.dict es)
    → keys_in heap at ≡ rocks_of es
keys_are_rocks heap at es there = ap (λ c. map key_rock (option_map_or entries c [])) there

taken_rock : (heap : List Owned) (side : Side) (r : Rock) → taken heap side (value.Rock r) ≡ value.Rock r
taken_rock heap side r = by (nat_eq side.0 0) where
  by : (b : Bool) → (if b then value.Rock r else value.Rock r) ≡ value.Rock r
  by true = refl
  by false = refl

-- the element that comes next, as code of a side takes it
abbrev handed_on : Frame → Option (Value × Cursor) → State → Outcome (Option (Value × Cursor))
handed_on frame e s = gives (option_map (λ e. (taken (heap_of s) frame.side e.0, e.1)) e) s

next_taken : (frame : Frame) (n : ℕ) (s : State) (r : Rock) (c : Cursor)
    → on_value (plainly (λ p. walking.taken (Some (value.Rock r)) c (record p { steps = n })) s) (handed_on frame)
    ≡ stepped (record s { plain = record s.plain { steps = n } }) (gives (Some (value.Rock r, c)))
next_taken frame zero s r c = refl
next_taken frame (suc n) s r c = ap (λ v. gives (Some (v, c)) (record s { plain = record s.plain { steps = n } }))
    (taken_rock (heap_of s) frame.side r)

next_is : (frame : Frame) (s : State) (es : List Entry) (i : ℕ) (c : Cursor)
    → on_value (plainly (walking.taken (slice_get (rocks_of es) i) c) s) (handed_on frame)
    ≡ option_map_or (λ v. stepped s (gives (Some (v, c)))) (slice_get (rocks_of es) i) (gives None s)
next_is frame s [] i c = refl
next_is frame s (x ∷ es) zero c = next_taken frame s.plain.steps s x.1.0 c
next_is frame s (x ∷ es) (suc i) c = next_is frame s es i c

-- there are as many keys as at first
next_within : (keys : List Value) (at : Oid) (i : ℕ) (p : plain.State)
    → walking.next_key keys at i (length keys) p
    ≡ walking.taken (slice_get keys i) (keys_from at (i + 1) (length keys)) p
next_within keys at i p = rw (eq-eqb (length keys) (length keys) refl) refl

next_at : (frame : Frame) (at : Oid) (es : List Entry) (i : ℕ) (s : State) → content_at (heap_of s) at
    ≡ Some (object.dict es)
    → next_element frame (keys_from at i (length (rocks_of es))) s ≡ turn (rocks_of es) at i s
next_at frame at es i s there =
    ap (λ (ks : List Value). on_value (plainly (walking.next_key ks at i (length (rocks_of es))) s) (handed_on frame))
    (keys_are_rocks (heap_of s) at es there)
    ∙ ap (λ (o : plain.Outcome (Option (Value × Cursor))). on_value (lifted o s) (handed_on frame))
    (next_within (rocks_of es) at i s.plain)
    ∙ next_is frame s es i (keys_from at (i + 1) (length (rocks_of es)))

walk_own : (frame : Frame) (at : Oid) (es : List Entry) (s : State) → DecidesProxiesAlone frame.run
    → content_at (heap_of s) at ≡ Some (object.dict es)
    → walk (value.Ref at) frame s ≡ gives (keys_from at 0 (length (rocks_of es))) s
walk_own frame at es s free there =
    asked_own frame free ITER at s (λ s. on_found (walking.walk_of (heap_of s) (value.Ref at)) s gives)
    ∙ ap (λ c. on_found (option_map_or (walking.content_walk false at) c (refused TypeError (codes "iterate"))) s
    gives) there
    ∙ ap (λ n. gives (keys_from at 0 n) s) (sym (length-map es key_rock))

pub own_walked : (frame : Frame) (at : Oid) (es : List Entry) (s : State) → DecidesProxiesAlone frame.run
    → content_at (heap_of s) at ≡ Some (object.dict es)
    → IsWalked (rocks_of es) at frame s
own_walked frame at es s free there = record {
  begun = walk_own frame at es s free there;
  next = λ i u same. next_at frame at es i u (same ∙ there);
  all = ap (λ c. option_map_or (λ c. walking.content_elements (λ v. v) c s.plain) c (walking.not_walked s.plain)) there;
}

pub gives_distinct : EachWalkGivesDistinctElements
gives_distinct line ps frame s u v free nones h =
    let is_set = held_at (eval (set_tree line ps) frame s) (IsSet ps frame s) v u (set_held line ps frame s nones) h in
    record {
      held = is_set.held;
      behind = is_set.behind;
      evaluated = is_set.evaluated;
      keys = keys_are is_set.held is_set.keys;
      at = is_set.at;
      result = is_set.result;
      is_walked = subst (λ vs. IsWalked vs is_set.at frame u) is_set.rocks
          (own_walked frame is_set.at is_set.entries u free is_set.content);
    }
