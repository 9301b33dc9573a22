-- What only reads, and makes new objects, changes no object but scopes.
use Rattle.std.proofs.Common.{◌≡◌, refl, sym, ap, subst, ◌∙◌, true≢false, ℕ, zero, suc, Bool, true, false, List, []}
use Rattle.std.proofs.Common.{◌∷◌, length, Option, Some, None}
use Rattle.std.proofs.Common.{Result, Ok, Err}
use Rattle.std.specs.Prelude.{◌==◌}
use Rattle.std.specs.Option.{option_map}
use Rattle.std.proofs.lemmas.Bool.{eq-eqb, eqb-true}
use Rattle.rp_base.specs.Names.{word_of}
use Rattle.rp_base.specs.declared.kind.Kind.{Kind}
use Rattle.rp_base.specs.declared.kind.Kind.TheVariants.{NameError, UnboundLocalError}
use Rattle.rp_base.specs.declared.operator.BinOp.{BinOp}
use Rattle.rp_base.specs.declared.operator.BinOp.TheVariants.{Pow}
use Rattle.rp_base.specs.declared.operator.UnOp.{UnOp}
use Rattle.rp_base.specs.declared.value.Name.{Name}
use Rattle.rp_base.specs.declared.value.Oid.{Oid}
use Rattle.rp_base.specs.declared.value.Raised.{Raised}
use Rattle.rp_base.specs.declared.value.Rock.TheVariants as rock
use Rattle.rp_base.specs.declared.value.Side.{Side}
use Rattle.rp_base.specs.declared.value.Value.{Value}
use Rattle.rp_base.specs.declared.value.Value.TheVariants as value
use Rattle.rp_base.specs.declared.word.TheConstants.{GET_ITEM}
use Rattle.rp_attributes.specs.Attributes as attributes
use Rattle.rp_compare.specs.Order.{compare}
use Rattle.rp_items.specs.Slices as slices
use Rattle.rp_ops.specs.Binary as binary
use Rattle.rp_ops.specs.Outcome as plain
use Rattle.rp_ops.specs.Outcome.{End, gives, on_found, on_value}
use Rattle.rp_ops.specs.Walk.{Cursor}
use Rattle.rp_store.specs.Heap.{Owned, changed_at, content_at}
use Rattle.rp_store.specs.Object as object
use Rattle.rp_store.specs.Object.{Content}
use Rattle.rp_store.specs.Writers.{with_slot}
use Rattle.rp_store.proofs.CallerLemmas.{content_at-changed_at, content_at-changed_other}
use Rattle.rp_tree.specs.Expressions as tree
use Rattle.rp_tree.specs.declared.parts.Test.{Test}
use Rattle.rp_tree.specs.declared.parts.Test.TheVariants as test
use Rattle.rp_meaning.specs.Expressions as expression
use Rattle.rp_meaning.specs.Expressions.{Clause}
use Rattle.rp_meaning.specs.Access.{get_slice}
use Rattle.rp_meaning.specs.Frame.{Frame, Meaning, asked_for, got, place_of, read_name, slot_of, takes}
use Rattle.rp_meaning.specs.Meaning as meaning
use Rattle.rp_meaning.specs.Meaning.{clause, clauses, eval}
use Rattle.rp_meaning.specs.Operators.{comparison_name, left_name, mirrored, operate, operate_unary, right_name}
use Rattle.rp_meaning.specs.Operators.{tested, unary_name}
use Rattle.rp_meaning.specs.Scopes.{Place, Slot, bound_or, global, global_value, held, local, outer, value_at}
use Rattle.rp_meaning.specs.Scopes.{with_slot_set}
use Rattle.rp_meaning.specs.State.{State, Outcome, Flow, broke, choose, continued, heap_of, lifted, makes, next}
use Rattle.rp_meaning.specs.State.{on_flow}
use Rattle.rp_meaning.specs.State.{plainly, returned, stepped, with_change}
use Rattle.rp_meaning.specs.Statements as statement
use Rattle.rp_meaning.specs.Statements.{Store}
use Rattle.rp_meaning.specs.Walks.{next_element, on_truth, walk}
use Rattle.rp_fixed_laws.specs.Fixed.{DecidesQuietly, Placed}
use Rattle.rp_fixed_laws.proofs.Objects.{attribute, slice}
use Rattle.rp_fixed_laws.proofs.Operations.{binary_leaves, compare as compare_leaves}
use Rattle.rp_fixed_laws.proofs.Plainly.{Leaves, There}
use Rattle.rp_more_laws.proofs.Going.{HoldsOf, IsMade, choose_held, makes_held, step_heap, step_held}
use Rattle.rp_more_laws.proofs.Going.{then_held, weaker}
use Rattle.rp_comprehension_laws.specs.Elements.{inner_frame}
use Rattle.rp_comprehension_laws.specs.Quiet.{AllQuiet, AllRead, AreOfNames, ClausesQuiet, ClausesRead}
use Rattle.rp_comprehension_laws.specs.Quiet.{DefaultsRead, EachReadingComprehensionIsQuiet, FormReads}
use Rattle.rp_comprehension_laws.specs.Quiet.{IsNoMembership, IsNoScope, IsOfName, IsOfNames, ObjectsStay, Reads}
use Rattle.rp_comprehension_laws.specs.Quiet.{MaybeReads, OpsRead, PairsRead, PlainRead, TestsRead, TrailerReads}
use Rattle.rp_comprehension_laws.specs.Quiet.{TrailersRead, TurnsQuiet, TurnsRead}
use Rattle.rp_comprehension_laws.proofs.Quiet.{Stay, asked_stay, further, is_quiet, next_stay, nothing_done, stay_same}
use Rattle.rp_comprehension_laws.proofs.Quiet.{then_stay, truth_stay, walk_stay}

-- ---- plain operations

-- an operation that leaves every object as it is
plainly_stay : {A : Type 0} (o : plain.Outcome A) (s : State) → ((k : Placed) → There k s.plain → Leaves k o)
    → Stay s (lifted o s)
plainly_stay {A} o s h = by o.answer
  where
    by : (r : Result A End) → HoldsOf r (record s { plain = o.state }) (λ a u. ObjectsStay s u)
    by (Ok a) = λ at c other is. (h (record { at = at; content = c }) is).there
    by (Err e) = tt

found_stay : {A B : Type 0} (r : Result A Raised) (s : State) (more : A → State → Outcome B)
    → ((a : A) → Stay s (more a s)) → Stay s (on_found r s more)
found_stay (Ok a) s more h = h a
found_stay (Err e) s more h = tt

-- ---- names

stepped_stay : {A : Type 0} (s : State) (more : State → Outcome A) → ((t : State) → Stay t (more t))
    → Stay s (stepped s more)
stepped_stay s more rest =
    step_held s more (λ a u. ObjectsStay s u) (λ t e. further s t (more t) (stay_same s t (step_heap s t e)) (rest t))

bound_stay : (kind : Kind) (word : List ℕ) (o : Option Value) (s : State) → Stay s (bound_or kind word o s)
bound_stay kind word None s = tt
bound_stay kind word (Some v) s = nothing_done s

value_stay : (side : Side) (p : Place) (o : Option Value) (word : List ℕ) (s : State)
    → Stay s (value_at side p o word s)
value_stay side (local i) o word s = bound_stay UnboundLocalError word o s
value_stay side (outer n i) o word s = bound_stay NameError word o s
value_stay side global o word s = bound_stay NameError word (global_value side o word s) s

slot_keeps : (i : ℕ) (o : Option Value) (c : Content) → IsNoScope c → with_slot i o c ≡ c
slot_keeps i o (object.list xs) other = refl
slot_keeps i o (object.tuple xs) other = refl
slot_keeps i o (object.dict es) other = refl
slot_keeps i o (object.instance of fs) other = refl
slot_keeps i o (object.class n d ms) other = refl
slot_keeps i o (object.function n f b w ds) other = refl
slot_keeps i o (object.method r f) other = refl
slot_keeps i o (object.scope b p vs) other = elim other [ ]

slot_written : (at : Oid) (i : ℕ) (v : Option Value) (s : State)
    → ObjectsStay s (with_change at (with_slot i v) s)
slot_written scope i v s at c other is = by (scope.0 == at.0) refl where
  changed : List Owned
  changed = changed_at (heap_of s) scope (with_slot i v)

  by : (b : Bool) → (scope.0 == at.0) ≡ b → content_at changed at ≡ Some c
  by true e =
      subst (λ (n : ℕ). content_at changed (record { 0 = n }) ≡ Some c) (eqb-true scope.0 at.0 e)
      (content_at-changed_at (heap_of s) scope (with_slot i v)
      ∙ ap (option_map (with_slot i v))
      (subst (λ (n : ℕ). content_at (heap_of s) (record { 0 = n }) ≡ Some c) (sym (eqb-true scope.0 at.0 e)) is)
      ∙ ap Some (slot_keeps i v c other))
  by false e =
      content_at-changed_other (heap_of s) scope at (with_slot i v)
      (λ same. true≢false (sym (eq-eqb scope.0 at.0 same) ∙ e)) ∙ is

slot_stays : (o : Option Slot) (v : Option Value) (s : State) → ObjectsStay s (with_slot_set o v s)
slot_stays None v s = nothing_done s
slot_stays (Some slot) v s = slot_written slot.scope slot.index v s

-- ---- forms, by their parts

abbrev Quietly : Frame → Meaning → Type 0
Quietly frame m = (s : State) → Stay s (m frame s)

abbrev AllQuietly : Frame → List Meaning → Type 0
AllQuietly frame [] = Unit {0}
AllQuietly frame (m ∷ ms) = Quietly frame m × AllQuietly frame ms

abbrev TestsQuietly : Frame → List (Test × Meaning) → Type 0
TestsQuietly frame [] = Unit {0}
TestsQuietly frame (t ∷ ts) = IsNoMembership t.0 × Quietly frame t.1 × TestsQuietly frame ts

module _ (frame : Frame) (free : DecidesQuietly frame.run) where
  values_stay : (ms : List Meaning) → AllQuietly frame ms → (s : State) → Stay s (expression.values ms frame s)
  values_stay [] h s = nothing_done s
  values_stay (m ∷ ms) h s =
      then_stay s (m frame s) (λ v s. on_value (expression.values ms frame s) (λ vs s. gives (v ∷ vs) s)) (h.0 s)
      (λ v t. then_stay t (expression.values ms frame t) (λ vs s. gives (v ∷ vs) s) (values_stay ms h.1 t)
      (λ vs u. nothing_done u))

  made_stay : (c : Content) (s : State) → Stay s (expression.makes_own c frame s)
  made_stay c s =
      then_held (makes frame.side c s) (λ at s. gives (value.Ref at) s) (IsMade frame.side c s)
      (λ v u. ObjectsStay s u) (makes_held frame.side c s) (λ at u _ made other d apart is. made.stay other d is)

  sequence_stay : (of : List Value → Content) (ms : List Meaning) → AllQuietly frame ms → (s : State)
      → Stay s (stepped s (λ s. on_value (expression.values ms frame s) (λ vs s. expression.makes_own (of vs) frame s)))
  sequence_stay of ms h s =
      stepped_stay s (λ s. on_value (expression.values ms frame s) (λ vs s. expression.makes_own (of vs) frame s))
      (λ t. then_stay t (expression.values ms frame t) (λ vs s. expression.makes_own (of vs) frame s)
      (values_stay ms h t) (λ vs u. made_stay (of vs) u))

  cond_stay : (x a b : Meaning) → Quietly frame x → Quietly frame a → Quietly frame b
      → Quietly frame (expression.cond x a b)
  cond_stay x a b h i j s =
      stepped_stay s (λ s. on_value (x frame s) (λ v s. on_truth v frame s (a frame) (b frame)))
      (λ t. then_stay t (x frame t) (λ v s. on_truth v frame s (a frame) (b frame)) (h t)
      (λ v u. truth_stay frame free v u (a frame) (b frame) i j))

  later_or_stay : (ms : List Meaning) → AllQuietly frame ms → (v : Value) (s : State)
      → Stay s (expression.later_or ms v frame s)
  later_or_stay [] h v s = nothing_done s
  later_or_stay (m ∷ ms) h v s =
      truth_stay frame free v s (gives v)
      (λ s. stepped s (λ s. on_value (m frame s) (λ w s. expression.later_or ms w frame s))) nothing_done
      (λ t. stepped_stay t (λ s. on_value (m frame s) (λ w s. expression.later_or ms w frame s))
      (λ u. then_stay u (m frame u) (λ w s. expression.later_or ms w frame s) (h.0 u) (later_or_stay ms h.1)))

  later_and_stay : (ms : List Meaning) → AllQuietly frame ms → (v : Value) (s : State)
      → Stay s (expression.later_and ms v frame s)
  later_and_stay [] h v s = nothing_done s
  later_and_stay (m ∷ ms) h v s =
      truth_stay frame free v s
      (λ s. stepped s (λ s. on_value (m frame s) (λ w s. expression.later_and ms w frame s))) (gives v)
      (λ t. stepped_stay t (λ s. on_value (m frame s) (λ w s. expression.later_and ms w frame s))
      (λ u. then_stay u (m frame u) (λ w s. expression.later_and ms w frame s) (h.0 u) (later_and_stay ms h.1)))
      nothing_done

  or_stay : (ms : List Meaning) → AllQuietly frame ms → Quietly frame (expression.or ms)
  or_stay [] h s = nothing_done s
  or_stay (m ∷ ms) h s =
      then_stay s (m frame s) (λ v s. expression.later_or ms v frame s) (h.0 s) (later_or_stay ms h.1)

  and_stay : (ms : List Meaning) → AllQuietly frame ms → Quietly frame (expression.and ms)
  and_stay [] h s = nothing_done s
  and_stay (m ∷ ms) h s =
      then_stay s (m frame s) (λ v s. expression.later_and ms v frame s) (h.0 s) (later_and_stay ms h.1)

  negated_stay : (m : Meaning) → Quietly frame m → Quietly frame (expression.negated m)
  negated_stay m h s =
      stepped_stay s
      (λ s. on_value (m frame s)
      (λ v s. on_truth v frame s (gives (expression.truth false)) (gives (expression.truth true))))
      (λ t. then_stay t (m frame t)
      (λ v s. on_truth v frame s (gives (expression.truth false)) (gives (expression.truth true))) (h t)
      (λ v u. truth_stay frame free v u (gives (expression.truth false)) (gives (expression.truth true)) nothing_done
      nothing_done))

  tested_stay : (o : Test) → IsNoMembership o → (a b : Value) (s : State) → Stay s (tested o a b frame s)
  tested_stay test.Within h a b s = elim h [ ]
  tested_stay test.NotWithin h a b s = elim h [ ]
  tested_stay test.Is h a b s = nothing_done s
  tested_stay test.IsNot h a b s = nothing_done s
  tested_stay (test.Order op) h a b s =
      asked_stay frame free (comparison_name op) a s
      (λ s. asked_for frame (comparison_name (mirrored op)) b s (plainly (compare op a b)))
      (λ t. asked_stay frame free (comparison_name (mirrored op)) b t (plainly (compare op a b))
      (λ u. plainly_stay (compare op a b u.plain) u (λ k h. compare_leaves op a b u.plain h)))

  tests_stay : (ts : List (Test × Meaning)) → TestsQuietly frame ts → (a : Value) (s : State)
      → Stay s (expression.tests ts a frame s)
  tests_stay [] h a s = nothing_done s
  tests_stay (t ∷ ts) h a s = stepped_stay s rest (λ u. then_stay u (t.1 frame u) first (h.1 u) (λ b w.
      then_stay w (tested t.0 a b frame w) (ended b) (tested_stay t.0 h.0 a b w) (λ r x.
      choose_held r (expression.tests ts b frame) (gives (expression.truth false)) x (λ v y. ObjectsStay x y)
      (tests_stay ts h.2 b x) (nothing_done x)))) where
        ended : Value → Bool → State → Outcome Value
        ended b r s = choose r (expression.tests ts b frame) (gives (expression.truth false)) s

        first : Value → State → Outcome Value
        first b s = on_value (tested t.0 a b frame s) (ended b)

        rest : State → Outcome Value
        rest s = on_value (t.1 frame s) first

  compared_stay : (m : Meaning) (ts : List (Test × Meaning)) → Quietly frame m → TestsQuietly frame ts
      → Quietly frame (expression.compare m ts)
  compared_stay m ts h i s =
      then_stay s (m frame s) (λ a s. expression.tests ts a frame s) (h s) (tests_stay ts i)

  operated_stay : (o : BinOp) (a b : Value) (s : State) → Stay s (operate o a b frame s)
  operated_stay o a b s =
      asked_stay frame free (left_name o) a s (λ s. asked_for frame (right_name o) b s done)
      (λ t. asked_stay frame free (right_name o) b t done
      (λ u. then_stay u (plainly (binary.binary frame.side o a b) u) (λ v s. takes v frame s)
      (plainly_stay (binary.binary frame.side o a b u.plain) u (λ k h. binary_leaves frame.side o a b u.plain h))
      (λ v w. nothing_done w)))
    where
      done : State → Outcome Value
      done s = on_value (plainly (binary.binary frame.side o a b) s) (λ v s. takes v frame s)

  abbrev OpsQuietly : List (BinOp × Meaning) → Type 0
  OpsQuietly [] = Unit {0}
  OpsQuietly (o ∷ os) = Quietly frame o.1 × OpsQuietly os

  operands_stay : (os : List (BinOp × Meaning)) → OpsQuietly os → (a : Value) (s : State)
      → Stay s (expression.operands os a frame s)
  operands_stay [] h a s = nothing_done s
  operands_stay (o ∷ os) h a s =
      stepped_stay s
      (λ s. on_value (o.1 frame s)
      (λ b s. on_value (operate o.0 a b frame s) (λ v s. expression.operands os v frame s)))
      (λ t. then_stay t (o.1 frame t)
      (λ b s. on_value (operate o.0 a b frame s) (λ v s. expression.operands os v frame s)) (h.0 t)
      (λ b u. then_stay u (operate o.0 a b frame u) (λ v s. expression.operands os v frame s)
      (operated_stay o.0 a b u) (operands_stay os h.1)))

  chain_stay : (m : Meaning) (os : List (BinOp × Meaning)) → Quietly frame m → OpsQuietly os
      → Quietly frame (expression.chain m os)
  chain_stay m os h i s =
      then_stay s (m frame s) (λ a s. expression.operands os a frame s) (h s) (operands_stay os i)

  unary_stay : (o : UnOp) (m : Meaning) → Quietly frame m → Quietly frame (expression.unary o m)
  unary_stay o m h s =
      stepped_stay s (λ s. on_value (m frame s) (λ a s. operate_unary o a frame s))
      (λ t. then_stay t (m frame t) (λ a s. operate_unary o a frame s) (h t)
      (λ a u. asked_stay frame free (unary_name o) a u
      (λ s. on_found (binary.int_value (binary.unary (heap_of s) o a)) s gives)
      (λ w. found_stay (binary.int_value (binary.unary (heap_of w) o a)) w gives (λ v. nothing_done w))))

  power_stay : (m n : Meaning) → Quietly frame m → Quietly frame n → Quietly frame (expression.power m n)
  power_stay m n h i s =
      stepped_stay s (λ s. on_value (m frame s) (λ a s. on_value (n frame s) (λ b s. operate Pow a b frame s)))
      (λ t. then_stay t (m frame t) (λ a s. on_value (n frame s) (λ b s. operate Pow a b frame s)) (h t)
      (λ a u. then_stay u (n frame u) (λ b s. operate Pow a b frame s) (i u) (λ b w. operated_stay Pow a b w)))

  -- ---- trailers

  abbrev TrailerQuietly : (Value → Meaning) → Type 0
  TrailerQuietly t = (v : Value) (s : State) → Stay s (t v frame s)

  abbrev TrailersQuietly : List (Value → Meaning) → Type 0
  TrailersQuietly [] = Unit {0}
  TrailersQuietly (t ∷ ts) = TrailerQuietly t × TrailersQuietly ts

  trailers_stay : (ts : List (Value → Meaning)) → TrailersQuietly ts → (v : Value) (s : State)
      → Stay s (expression.trailers ts v frame s)
  trailers_stay [] h v s = nothing_done s
  trailers_stay (t ∷ ts) h v s =
      then_stay s (stepped s (t v frame)) (λ w s. expression.trailers ts w frame s)
      (stepped_stay s (t v frame) (h.0 v)) (trailers_stay ts h.1)

  primary_stay : (m : Meaning) (ts : List (Value → Meaning)) → Quietly frame m → TrailersQuietly ts
      → Quietly frame (expression.primary m ts)
  primary_stay m ts h i s =
      then_stay s (m frame s) (λ v s. expression.trailers ts v frame s) (h s) (trailers_stay ts i)

  attribute_stays : (n : Name) → TrailerQuietly (expression.attribute n)
  attribute_stays n o s =
      asked_stay frame free n o s read (λ t. then_stay t
      (plainly (attributes.attribute frame.side o n (word_of t.names n)) t) (λ v s. got o v frame s)
      (plainly_stay (attributes.attribute frame.side o n (word_of t.names n) t.plain) t
      (λ k h. attribute frame.side o n (word_of t.names n) t.plain h)) (λ v u. nothing_done u))
    where
      read : State → Outcome Value
      read s =
          on_value (plainly (attributes.attribute frame.side o n (word_of s.names n)) s) (λ v s. got o v frame s)

  abbrev MaybeQuietly : Option Meaning → Type 0
  MaybeQuietly None = Unit {0}
  MaybeQuietly (Some m) = Quietly frame m

  part_stays : (m : Option Meaning) → MaybeQuietly m → Quietly frame (expression.part m)
  part_stays None h s = nothing_done s
  part_stays (Some m) h s = h s

  sliced_stay : (o x y z : Value) (s : State) → Stay s (get_slice o x y z frame s)
  sliced_stay o x y z s =
      asked_stay frame free GET_ITEM o s read (λ t. then_stay t (plainly (slices.slice o x y z) t)
      (λ v s. got o v frame s)
      (plainly_stay (slices.slice o x y z t.plain) t (λ k h. slice o x y z t.plain h)) (λ v u. nothing_done u))
    where
      read : State → Outcome Value
      read s = on_value (plainly (slices.slice o x y z) s) (λ v s. got o v frame s)

  slice_stays : (a b c : Option Meaning) → MaybeQuietly a → MaybeQuietly b → MaybeQuietly c
      → TrailerQuietly (expression.slice a b c)
  slice_stays a b c h i j o s =
      then_stay s (expression.part a frame s) first (part_stays a h s) (λ x t.
      then_stay t (expression.part b frame t) (second x) (part_stays b i t) (λ y u.
      then_stay u (expression.part c frame u) (third x y) (part_stays c j u) (λ z w. sliced_stay o x y z w)))
    where
      third : Value → Value → Value → State → Outcome Value
      third x y z s = get_slice o x y z frame s

      second : Value → Value → State → Outcome Value
      second x y s = on_value (expression.part c frame s) (third x y)

      first : Value → State → Outcome Value
      first x s = on_value (expression.part b frame s) (second x)

  -- ---- dicts and functions

  abbrev PairsQuietly : List (Meaning × Meaning) → Type 0
  PairsQuietly [] = Unit {0}
  PairsQuietly (p ∷ ps) = Quietly frame p.0 × Quietly frame p.1 × PairsQuietly ps

  pairs_stay : (ps : List (Meaning × Meaning)) → PairsQuietly ps → (s : State) → Stay s (expression.pairs ps frame s)
  pairs_stay [] h s = nothing_done s
  pairs_stay (p ∷ ps) h s =
      then_stay s (p.0 frame s) key (h.0 s) (λ k t. then_stay t (p.1 frame t) (entry k) (h.1 t) (λ v u.
      then_stay u (expression.pairs ps frame u) (all k v) (pairs_stay ps h.2 u) (λ kvs w. nothing_done w)))
    where
      all : Value → Value → List (Value × Value) → State → Outcome (List (Value × Value))
      all k v kvs s = gives ((k, v) ∷ kvs) s

      entry : Value → Value → State → Outcome (List (Value × Value))
      entry k v s = on_value (expression.pairs ps frame s) (all k v)

      key : Value → State → Outcome (List (Value × Value))
      key k s = on_value (p.1 frame s) (entry k)

  dict_stay : (ps : List (Meaning × Meaning)) → PairsQuietly ps → Quietly frame (expression.dict ps)
  dict_stay ps h s =
      stepped_stay s (λ s. on_value (expression.pairs ps frame s) made) (λ t.
      then_stay t (expression.pairs ps frame t) made (pairs_stay ps h t) (λ kvs u.
      found_stay (expression.dict_with (object.dict []) kvs) u (λ c s. expression.makes_own c frame s)
      (λ c. made_stay c u)))
    where
      made : List (Value × Value) → State → Outcome Value
      made kvs s = on_found (expression.dict_with (object.dict []) kvs) s (λ c s. expression.makes_own c frame s)

  makes_stay : (c : Content) (s : State) → Stay s (makes frame.side c s)
  makes_stay c s =
      weaker (makes frame.side c s) (IsMade frame.side c s) (λ at u. ObjectsStay s u)
      (λ at u made other d apart is. made.stay other d is) (makes_held frame.side c s)

  function_stays : (n : Option Name) (block : ℕ) (ms : List Meaning) → AllQuietly frame ms → (s : State)
      → Stay s (expression.makes_function n block ms frame s)
  function_stays n block ms h s =
      then_stay s (expression.values ms frame s) made (values_stay ms h s)
      (λ vs t. makes_stay (object.function n frame.side block frame.scope vs) t)
    where
      made : List Value → State → Outcome Oid
      made vs s = makes frame.side (object.function n frame.side block frame.scope vs) s

  lambda_stays : (block : ℕ) (ms : List Meaning) → AllQuietly frame ms → Quietly frame (expression.lambda block ms)
  lambda_stays block ms h s =
      stepped_stay s
      (λ s. on_value (expression.makes_function None block ms frame s) (λ at s. gives (value.Ref at) s))
      (λ t. then_stay t (expression.makes_function None block ms frame t) (λ at s. gives (value.Ref at) s)
      (function_stays None block ms h t) (λ at u. nothing_done u))

  -- ---- targets

  abbrev BindsQuietly : Store → Type 0
  BindsQuietly store = (v : Value) (s : State) → Stay s (store v frame s)

  abbrev AllBindQuietly : List Store → Type 0
  AllBindQuietly [] = Unit {0}
  AllBindQuietly (d ∷ ds) = BindsQuietly d × AllBindQuietly ds

  flow_stay : (flow : Flow) (s : State) (more : State → Outcome Flow) → ((t : State) → Stay t (more t))
      → Stay s (on_flow flow s more)
  flow_stay next s more h = h s
  flow_stay broke s more h = nothing_done s
  flow_stay continued s more h = nothing_done s
  flow_stay (returned v) s more h = nothing_done s

  each_stay : (ds : List Store) → AllBindQuietly ds → (vs : List Value) (s : State)
      → Stay s (statement.store_each ds vs frame s)
  each_stay [] h vs s = nothing_done s
  each_stay (d ∷ ds) h [] s = nothing_done s
  each_stay (d ∷ ds) h (v ∷ vs) s =
      then_stay s (d v frame s) (λ flow s. on_flow flow s (statement.store_each ds vs frame)) (h.0 v s)
      (λ flow t. flow_stay flow t (statement.store_each ds vs frame) (each_stay ds h.1 vs))

  ended_stay : (e : Option (Value × Cursor)) (s : State) → Stay s (statement.at_end e s)
  ended_stay None s = nothing_done s
  ended_stay (Some e) s = tt

  exactly_stay : (n : ℕ) (w : Cursor) (s : State) → Stay s (statement.exactly n w frame s)
  exactly_stay zero w s =
      then_stay s (next_element frame w s) statement.at_end (next_stay frame w s) ended_stay
  exactly_stay (suc n) w s =
      then_stay s (next_element frame w s)
      (λ e s. statement.on_element e s
      (λ v w s. on_value (statement.exactly n w frame s) (λ vs s. gives (v ∷ vs) s)))
      (next_stay frame w s) (λ e t. by e t (exactly_stay n)) where
        by : (e : Option (Value × Cursor)) (t : State)
            → ((w : Cursor) (s : State) → Stay s (statement.exactly n w frame s))
            → Stay t (statement.on_element e t
            (λ v w s. on_value (statement.exactly n w frame s) (λ vs s. gives (v ∷ vs) s)))
        by None t more = tt
        by (Some e) t more =
            then_stay t (statement.exactly n e.1 frame t) (λ vs s. gives (e.0 ∷ vs) s) (more e.1 t)
            (λ vs u. nothing_done u)

  unpack_stay : (ds : List Store) → AllBindQuietly ds → BindsQuietly (statement.unpack ds)
  unpack_stay ds h v s =
      then_stay s (walk v frame s)
      (λ w s. on_value (statement.exactly (length ds) w frame s) (λ vs s. statement.store_each ds vs frame s))
      (walk_stay frame free v s)
      (λ w t. then_stay t (statement.exactly (length ds) w frame t) (λ vs s. statement.store_each ds vs frame s)
      (exactly_stay (length ds) w t) (each_stay ds h))

  mutual
    target_stays : (p : tree.Target) → IsOfNames p → BindsQuietly (meaning.target p)
    target_stays (tree.to_place p) h = place_stays p h
    target_stays (tree.group ps) h = unpack_stay (meaning.targets ps) (targets_stay ps h)

    targets_stay : (ps : tree.Targets) → AreOfNames ps → AllBindQuietly (meaning.targets ps)
    targets_stay tree.no_targets h = tt
    targets_stay (tree.target p ps) h = (target_stays p h.0, targets_stay ps h.1)

    place_stays : (p : tree.Place) → IsOfName p → BindsQuietly (meaning.place p)
    place_stays (tree.to_name n) h v s = slot_stays (slot_of frame n.name s) (Some v) s
    place_stays (tree.to_attr x n g) h v s = elim h [ ]
    place_stays (tree.to_item x i g) h v s = elim h [ ]

  -- ---- trees

  literal_stays : (v : Value) → Quietly frame (expression.constant v)
  literal_stays v s = stepped_stay s (gives v) nothing_done

  mutual
    reads : (x : tree.Expr) → Reads x → Quietly frame (eval x)
    reads (tree.node line x) h = form_reads x h

    form_reads : (x : tree.Form) → FormReads x → Quietly frame (meaning.eval_form x)
    form_reads (tree.name n) h = λ s.
        stepped_stay s (read_name n frame) (λ t.
        value_stay frame.side (place_of frame n) (held (heap_of t) (slot_of frame n t)) (word_of t.names n) t)
    form_reads (tree.int z) h = literal_stays (value.Rock (rock.Int z))
    form_reads (tree.text t) h = literal_stays (value.Rock (rock.Text t))
    form_reads (tree.const c) h = literal_stays (meaning.constant c)
    form_reads (tree.tuple es) h = sequence_stay object.tuple (meaning.exprs es) (all_read es h)
    form_reads (tree.list es) h = sequence_stay object.list (meaning.exprs es) (all_read es h)
    form_reads (tree.cond x a b) h = cond_stay (eval x) (eval a) (eval b) (reads x h.0) (reads a h.1) (reads b h.2)
    form_reads (tree.or es) h = or_stay (meaning.exprs es) (all_read es h)
    form_reads (tree.and es) h = and_stay (meaning.exprs es) (all_read es h)
    form_reads (tree.not x) h = negated_stay (eval x) (reads x h)
    form_reads (tree.compare x ts) h = compared_stay (eval x) (meaning.tests ts) (reads x h.0) (tests_read ts h.1)
    form_reads (tree.dict ps) h = dict_stay (meaning.pairs ps) (pairs_read ps h)
    form_reads (tree.list_of n x cs) h = elim h [ ]
    form_reads (tree.dict_of n k x cs) h = elim h [ ]
    form_reads (tree.lambda n ps x) h = lambda_stays n (meaning.defaults ps) (defaults_read ps h)
    form_reads (tree.chain x os) h = chain_stay (eval x) (meaning.ops os) (reads x h.0) (ops_read os h.1)
    form_reads (tree.unary u x) h = unary_stay u (eval x) (reads x h)
    form_reads (tree.power a b) h = power_stay (eval a) (eval b) (reads a h.0) (reads b h.1)
    form_reads (tree.primary x ts) h = primary_stay (eval x) (meaning.trailers ts) (reads x h.0) (trailers_read ts h.1)

    all_read : (es : tree.Exprs) → AllRead es → AllQuietly frame (meaning.exprs es)
    all_read tree.no_exprs h = tt
    all_read (tree.expr x xs) h = (reads x h.0, all_read xs h.1)

    tests_read : (ts : tree.Tests) → TestsRead ts → TestsQuietly frame (meaning.tests ts)
    tests_read tree.no_tests h = tt
    tests_read (tree.test o x ts) h = (h.0, reads x h.1, tests_read ts h.2)

    pairs_read : (ps : tree.Pairs) → PairsRead ps → PairsQuietly (meaning.pairs ps)
    pairs_read tree.no_pairs h = tt
    pairs_read (tree.pair k x ps) h = (reads k h.0, reads x h.1, pairs_read ps h.2)

    ops_read : (os : tree.Ops) → OpsRead os → OpsQuietly (meaning.ops os)
    ops_read tree.no_ops h = tt
    ops_read (tree.op o x os) h = (reads x h.0, ops_read os h.1)

    maybe_reads : (x : tree.Maybe) → MaybeReads x → MaybeQuietly (meaning.maybe x)
    maybe_reads tree.none h = tt
    maybe_reads (tree.some x) h = reads x h

    defaults_read : (ps : tree.Params) → DefaultsRead ps → AllQuietly frame (meaning.defaults ps)
    defaults_read (tree.params ps list dict) h = plain_read ps h

    plain_read : (ps : tree.Plain) → PlainRead ps → AllQuietly frame (meaning.plain ps)
    plain_read tree.no_plain h = tt
    plain_read (tree.plain n tree.none ps) h = plain_read ps h.1
    plain_read (tree.plain n (tree.some x) ps) h = (reads x h.0, plain_read ps h.1)

    trailers_read : (ts : tree.Trailers) → TrailersRead ts → TrailersQuietly (meaning.trailers ts)
    trailers_read tree.no_trailers h = tt
    trailers_read (tree.trailer x ts) h = (trailer_reads x h.0, trailers_read ts h.1)

    trailer_reads : (x : tree.Trailer) → TrailerReads x → TrailerQuietly (meaning.trailer x)
    trailer_reads (tree.attr n g) h = attribute_stays n.name
    trailer_reads (tree.item x g) h = elim h [ ]
    trailer_reads (tree.slice a b c g) h =
        slice_stays (meaning.maybe a) (meaning.maybe b) (meaning.maybe c) (maybe_reads a h.0) (maybe_reads b h.1)
        (maybe_reads c h.2)
    trailer_reads (tree.call as' g) h = elim h [ ]

  all_quiet : (ms : List Meaning) → AllQuietly frame ms → AllQuiet frame ms
  all_quiet [] h = tt
  all_quiet (m ∷ ms) h = (is_quiet frame m h.0, all_quiet ms h.1)

  turns_read : (c : tree.Clause) → TurnsRead c → TurnsQuiet frame (clause c)
  turns_read (tree.a_clause (tree.a_walk p x g) es) h =
      (λ v. is_quiet frame (meaning.target p v) (target_stays p h.0 v), all_quiet (meaning.exprs es) (all_read es h.1))

  clauses_read : (cs : tree.Clauses) → ClausesRead cs → ClausesQuiet frame (clauses cs)
  clauses_read tree.no_clauses h = tt
  clauses_read (tree.clause (tree.a_clause (tree.a_walk p x g) es) cs) h = (
    is_quiet frame (eval x) (reads x h.0.0),
    turns_read (tree.a_clause (tree.a_walk p x g) es) (h.0.1, h.0.2),
    clauses_read cs h.1,
  )

pub reading_is_quiet : EachReadingComprehensionIsQuiet
reading_is_quiet frame block scope x c cs free h i j = record {
  decides = free;
  expression = is_quiet (inner_frame block scope frame) (eval x) (reads (inner_frame block scope frame) free x h);
  turns = turns_read (inner_frame block scope frame) free c i;
  later = clauses_read (inner_frame block scope frame) free cs j;
}
