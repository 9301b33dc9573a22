-- The laws of lists and sets by comprehension.
use Rattle.std.proofs.Common.{◌≡◌, refl, sym, ap, subst, ◌∙◌, ℕ, Bool, true, false, [], ◌∷◌, Result}
use Rattle.std.proofs.Common.{Ok, Err}
use Rattle.std.specs.Prelude.{◌&&◌}
use Rattle.std.specs.List.{list_all}
use Rattle.rp_base.specs.declared.value.Line.{Line}
use Rattle.rp_base.specs.declared.value.Oid.{Oid}
use Rattle.rp_base.specs.declared.value.Value.{Value}
use Rattle.rp_base.specs.declared.value.Value.TheVariants as value
use Rattle.rp_items.specs.Items.{set_item}
use Rattle.rp_ops.specs.Outcome.{End, gives, on_answer, on_value}
use Rattle.rp_store.specs.Object as object
use Rattle.rp_tree.specs.declared.parts.Test.TheVariants as test
use Rattle.rp_tree.specs.Expressions as tree
use Rattle.rp_meaning.specs.Access.{is_within}
use Rattle.rp_meaning.specs.Expressions as expression
use Rattle.rp_meaning.specs.Expressions.{adds_element, adds_entry, nil, truth}
use Rattle.rp_meaning.specs.Frame.{Frame}
use Rattle.rp_meaning.specs.Meaning.{clause, clauses, eval}
use Rattle.rp_meaning.specs.Operators.{tested}
use Rattle.rp_meaning.specs.State.{State, Outcome, choose, plainly_done, stepped}
use Rattle.rp_more_laws.specs.Sets.{IsNone, IsWalked, is_key}
use Rattle.rp_more_laws.proofs.Going.{Holds, HoldsOf, bind, goes, held_at, step, step_held, then_held}
use Rattle.rp_more_laws.proofs.Keys.{key_is, keys_are}
use Rattle.rp_more_laws.proofs.Sets.{IsAnswered, own_walked, within_own}
use Rattle.rp_comprehension_laws.specs.Comprehensions.{EachListHoldsItsElements, EachTestTellsWhetherAnElementIsEqual}
use Rattle.rp_comprehension_laws.specs.Comprehensions.{EachWalkGivesDistinctElements, IsTestedIn, list_of_tree}
use Rattle.rp_comprehension_laws.specs.Comprehensions.{put_key, put_last, set_of_tree, within_tree}
use Rattle.rp_comprehension_laws.specs.Elements.{KeepsFrom}
use Rattle.rp_comprehension_laws.proofs.Contents.{list_follows, put_key_binds, put_last_binds, set_follows}
use Rattle.rp_comprehension_laws.proofs.Runs.{IsGathered, comprehension_held}
use Rattle.rp_comprehension_laws.proofs.Targets.{clause_binds, clauses_bind}

-- ---- lists

pub holds_its_elements : EachListHoldsItsElements
holds_its_elements line block x c cs frame s u v h =
    let g = held_at (eval (list_of_tree line block x c cs) frame s)
    (IsGathered block (eval x) (clause c) (clauses cs) (object.list []) put_last frame s) v u
    (comprehension_held block (eval x) (clause c) (clauses cs) (object.list []) put_last (adds_element (eval x))
    frame s
    (λ at frame s. refl) put_last_binds (clause_binds c) (clauses_bind cs)) h in
    record {
      held = g.held;
      at = g.at;
      result = g.result;
      gathered = g.gathered;
      content = λ leaves.
          list_follows (eval x) g.at (record frame { block = block; scope = g.gathered.scope }) g.gathered.given leaves
          g.there;
    }

-- ---- sets

then_given : {A B C : Type 0} (o : Outcome A) (v : B) (go : B → State → Outcome C)
    → on_value (on_value o (λ _ s. gives v s)) go ≡ on_value o (λ _ s. go v s)
then_given {A} {B} {C} o v go = by o.answer where
  by : (r : Result A End)
      → on_value (on_answer r o.state (λ _ s. gives v s)) go ≡ on_answer r o.state (λ _ s. go v s)
  by (Ok a) = refl
  by (Err e) = refl

none_then : (none : tree.Expr) (frame : Frame) (s : State) {C : Type 0} (go : Value → State → Outcome C) → IsNone none
    → on_value (eval none frame s) go ≡ stepped s (go nil)
none_then none frame s go is = ap (λ x. on_value (eval x frame s) go) is.1 ∙ then_given (step s) nil go

key_added : (x none : tree.Expr) → IsNone none → (at : Oid) (frame : Frame) (s : State)
    → adds_entry (eval x) (eval none) at frame s ≡ on_value (eval x frame s) (λ v s. put_key at v frame s)
key_added x none is at frame s i =
    on_value (eval x frame s)
    (λ k s. none_then none frame s (λ v s. plainly_done (set_item (value.Ref at) k v) s) is i)

set_held : (line : Line) (block : ℕ) (x none : tree.Expr) (c : tree.Clause) (cs : tree.Clauses) (frame : Frame)
    (s : State) → IsNone none
    → Holds (eval (set_of_tree line block x none c cs) frame s)
    (IsGathered block (eval x) (clause c) (clauses cs) (object.dict []) put_key frame s)
set_held line block x none c cs frame s is =
    comprehension_held block (eval x) (clause c) (clauses cs) (object.dict []) put_key (adds_entry (eval x) (eval none))
    frame s (key_added x none is) put_key_binds (clause_binds c) (clauses_bind cs)

-- ---- the walk

pub gives_distinct : EachWalkGivesDistinctElements
gives_distinct line block x none c cs frame s u v free is h =
    let g = held_at (eval (set_of_tree line block x none c cs) frame s)
    (IsGathered block (eval x) (clause c) (clauses cs) (object.dict []) put_key frame s) v u
    (set_held line block x none c cs frame s is) h in
    let inner : Frame = record frame { block = block; scope = g.gathered.scope } in
    record {
      held = g.held;
      at = g.at;
      result = g.result;
      gathered = g.gathered;
      keys = λ leaves. keys_are g.held (set_follows (eval x) g.at inner g.gathered.given leaves g.there).added.1;
      is_walked = λ leaves.
          let k = set_follows (eval x) g.at inner g.gathered.given leaves g.there in
          subst (λ vs. IsWalked vs g.at frame u) k.added.0 (own_walked frame g.at k.after.0 u free k.there);
    }

-- ---- the test

-- what holds under a condition
under : {A : Type 0} (o : Outcome A) (L : Type 0) (Q : A → State → Type 0) → (L → Holds o Q)
    → Holds o (λ a s. L → Q a s)
under {A} o L Q h = by o.answer h where
  by : (r : Result A End) → (L → HoldsOf r o.state Q) → HoldsOf r o.state (λ a s. L → Q a s)
  by (Ok a) h = h
  by (Err e) h = tt

pub tells : EachTestTellsWhetherAnElementIsEqual
tells line set_line y block x none c cs frame s u v free is h =
    held_at (eval (within_tree line y (set_of_tree set_line block x none c cs)) frame s) P v u test_held h where
      P : Value → State → Type 0
      P v u = IsTestedIn y block x c cs frame s v

      set : Frame → State → Outcome Value
      set = eval (set_of_tree set_line block x none c cs)

      ending : Value → Bool → State → Outcome Value
      ending b r s = choose r (expression.tests [] b frame) (gives (truth false)) s

      ending_held : (b : Value) (r : Bool) (s4 : State) (P : Value → State → Type 0) → P (truth r) s4
          → Holds (ending b r s4) P
      ending_held b true s4 P h = h
      ending_held b false s4 P h = h

      Set : State → Value → State → Type 0
      Set s2 = IsGathered block (eval x) (clause c) (clauses cs) (object.dict []) put_key frame s2

      Left : (s2 s3 : State) (b : Value) → Set s2 b s3 → Type 0
      Left s2 s3 b g = KeepsFrom g.at g.gathered.given

      answered : (a b : Value) (s2 s3 : State) (g : Set s2 b s3)
          → Holds (tested test.Within a b frame s3) (λ r u. Left s2 s3 b g → IsAnswered a g.held r u)
      answered a b s2 s3 g =
          under (tested test.Within a b frame s3) (Left s2 s3 b g) (IsAnswered a g.held) (λ leaves.
          let k = set_follows (eval x) g.at (record frame { block = block; scope = g.gathered.scope }) g.gathered.given
          leaves g.there in
          subst (λ b. Holds (is_within a b frame s3) (IsAnswered a g.held)) (sym g.result)
          (within_own frame a g.at k.after.0 g.held s3 free k.there k.after.1 k.added.0 k.added.1))

      test_held : Holds (eval (within_tree line y (set_of_tree set_line block x none c cs)) frame s) P
      test_held =
          bind (eval y frame s) (λ a s. expression.tests ((test.Within, set) ∷ []) a frame s) P (λ a s1 e1.
          step_held s1 (λ s. on_value (set frame s) (λ b s. on_value (tested test.Within a b frame s) (ending b))) P
          (λ s2 e2.
          then_held (set frame s2) (λ b s. on_value (tested test.Within a b frame s) (ending b)) (Set s2) P
          (set_held set_line block x none c cs frame s2 is) (λ b s3 _ g.
          then_held (tested test.Within a b frame s3) (ending b) (λ r u. Left s2 s3 b g → IsAnswered a g.held r u) P
          (answered a b s2 s3 g) (λ r s4 _ told.
          ending_held b r s4 P (record {
            sought = a;
            held = g.held;
            at = g.at;
            before = s2;
            behind = s3;
            evaluated = goes (λ a s. stepped s (gives a)) e1 (goes (λ _ s. gives a s) e2 refl);
            gathered = g.gathered;
            keys = λ leaves.
                let k = set_follows (eval x) g.at (record frame { block = block; scope = g.gathered.scope })
                g.gathered.given leaves g.there in
                ap (λ b. b && list_all is_key g.held) (key_is a (told leaves).0) ∙ keys_are g.held k.added.1;
            result = λ leaves. ap truth (told leaves).1;
          })))))
