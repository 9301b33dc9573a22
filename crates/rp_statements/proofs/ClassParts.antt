-- `class` statements, from what is known of the statements of their blocks that are done.
use Rattle.std.proofs.Common.{◌≡◌, ◌<◌, ◌≤◌, ℕ, zero, suc, ◌+◌, List, [], ◌∷◌, ◌++◌, drop, get_or, length, reverse, take, Option, Some, None, Result, Ok, Err, refl, sym, ap, ◌∙◌, subst, arith}
use Rattle.std.specs.Prelude.{Bool, IfOk, IsSomeAnd, OnOk, if◌then◌else◌, is_some, nat_lt, true, false}
use Rattle.std.proofs.lemmas.List.{at_drop_all, drop_more, take_all}
use Rattle.rp_base.specs.declared.value.Name.{Name}
use Rattle.rp_base.specs.declared.value.Oid.{Oid}
use Rattle.rp_base.specs.declared.value.OpEnd.{OpEnd}
use Rattle.rp_base.specs.declared.value.Side.{Side}
use Rattle.rp_base.specs.declared.value.Value.{Value}
use Rattle.rp_base.specs.declared.value.Value.TheVariants as value
use Rattle.rp_base.specs.Names.{word_of}
use Rattle.rp_dict.specs.Dict.{insert_entry}
use Rattle.rp_frame.specs.Top.{below, top}
use Rattle.rp_frame.specs.declared.task.Task.{Task}
use Rattle.rp_meaning.specs.Classes.{Methods, Part, class_made, declared_at, functions_in, method, methods_made, other, part_done}
use Rattle.rp_meaning.specs.Expressions as forms
use Rattle.rp_meaning.specs.Frame.{Frame, Meaning, Run, bind_name}
use Rattle.rp_meaning.specs.State.{State, Outcome, Flow, plainly}
use Rattle.rp_meaning.specs.Statements as stmt_forms
use Rattle.rp_meaning.proofs.Laws.{then_then}
use Rattle.rp_ops.specs.Outcome.{ends, gives, no_cell, on_value, with_change, with_used}
use Rattle.rp_proxy.specs.declared.world.World.{World}
use Rattle.rp_store.specs.Heap.{Names, Owned, content_at}
use Rattle.rp_store.specs.Kept.{IsFit}
use Rattle.rp_store.specs.Key.{same_name}
use Rattle.rp_store.specs.Object as object
use Rattle.rp_store.specs.Object.{Content}
use Rattle.rp_store.specs.Parts.{IsClass, IsScope}
use Rattle.rp_store.specs.Writers.{with_methods}
use Rattle.rp_tree.specs.declared.stmt.Stmt.{Stmt}
use Rattle.rp_tree.specs.declared.stmt.StmtForm.{StmtForm}
use Rattle.rp_tree.specs.declared.stmt.StmtForm.TheViews.{out-Stmt}
use Rattle.rp_access.specs.Comes.{IsEnd}
use Rattle.rp_access.specs.Moment.{state_of}
use Rattle.rp_access.specs.Parts.{step_end}
use Rattle.rp_access.proofs.Going.{IsEnd-same, IsEnd-then, gives-then, on_same}
use Rattle.rp_engine.specs.ClassSteps.{class_behind, class_bound, class_with, count_of, held_methods, made_by, name_of}
use Rattle.rp_engine.specs.ComprehensionSteps.{place_at}
use Rattle.rp_expressions.specs.Defining.{Defines}
use Rattle.rp_engine.specs.DefinitionSteps.{with_defaults}
use Rattle.rp_engine.specs.Does as does
use Rattle.rp_engine.specs.Law.{Executes, frame_in, rest_of}
use Rattle.rp_engine.specs.Rest.{after, did, gave, rest}
use Rattle.rp_engine.specs.declared.halt.Halt.{Halt}
use Rattle.rp_engine.specs.declared.machine.Machine.{Machine}
use Rattle.rp_statements.proofs.ClassEquations.{part_out}
use Rattle.rp_expressions.proofs.Definings.{made_is}
use Rattle.rp_engine.proofs.Lasts.{reverse_cons}
use Rattle.rp_engine.proofs.Moves.{on_ok}
use Rattle.rp_engine.proofs.Passing.{below_dropped}

module _ (n : Name) (f : Frame) where
  -- the step of the next statement
  pub behind_stepped : (p : Part) (ps : List Part) (ms : Methods) (s : State) → class_behind n (p ∷ ps) ms f s ≡ on_value (step_end s) (λ _ s. class_with n p ps ms f s)
  behind_stepped p ps ms s =
      ap (λ o. on_value o (λ ms s. class_bound n ms f s)) (then_then (step_end s) (λ _ s. part_done p ms f s) (λ ms s. methods_made ps ms f s))
      ∙ then_then (step_end s) (λ _ s. on_value (part_done p ms f s) (λ ms s. methods_made ps ms f s)) (λ ms s. class_bound n ms f s)
      ∙ on_same (step_end s) (λ _ s. on_value (on_value (part_done p ms f s) (λ ms s. methods_made ps ms f s)) (λ ms s. class_bound n ms f s)) (λ _ s. class_with n p ps ms f s)
      (λ _ s. then_then (part_done p ms f s) (λ ms s. methods_made ps ms f s) (λ ms s. class_bound n ms f s))

  -- a function becomes a method
  pub method_with : (name : Name) (block : ℕ) (ds : List Meaning) (ps before : List Part) (vs : List Value) (s : State)
      → class_with n (method name (forms.makes_function (Some name) block ds)) ps (held_methods before vs) f s
      ≡ on_value (with_defaults (Some name) block ds [] f s) (λ v s. class_behind n ps (held_methods (method name (forms.makes_function (Some name) block ds) ∷ before) (v ∷ vs)) f s)
  method_with name block ds ps before vs s =
      then_then (forms.makes_function (Some name) block ds f s) (λ at s. gives (insert_entry same_name (held_methods before vs) name at) s) (λ ms s. class_behind n ps ms f s)
      ∙ sym (ap (λ o. on_value o (λ v s. class_behind n ps (held_methods (method name (forms.makes_function (Some name) block ds) ∷ before) (v ∷ vs)) f s)) (sym (made_is (Some name) block ds f s))
      ∙ then_then (forms.makes_function (Some name) block ds f s) (λ at s. gives (value.Ref at) s)
      (λ v s. class_behind n ps (held_methods (method name (forms.makes_function (Some name) block ds) ∷ before) (v ∷ vs)) f s))

  -- another statement makes none
  pub other_with : (x : Meaning) (ps : List Part) (ms : Methods) (s : State)
      → class_with n (other (stmt_forms.evaluate x)) ps ms f s ≡ on_value (stmt_forms.evaluate x f s) (λ flow s. class_behind n ps ms f s)
  other_with x ps ms s = then_then (stmt_forms.evaluate x f s) (λ flow s. gives ms s) (λ ms s. class_behind n ps ms f s)

-- the statements that are done, the last one first

take_next : {A : Type 0} (i : ℕ) (x : A) (xs ys : List A) → drop i xs ≡ x ∷ ys → take (suc i) xs ≡ take i xs ++ x ∷ []
take_next zero x [] ys is = let k : [] ≡ x ∷ ys = is in absurd (cc)
take_next zero x (z ∷ zs) ys is = let k : z ∷ zs ≡ x ∷ ys = is in let j : z ≡ x = cc in ap (λ z. z ∷ []) j
take_next (suc i) x [] ys is = let k : [] ≡ x ∷ ys = is in absurd (cc)
take_next (suc i) x (z ∷ zs) ys is = ap (λ xs. z ∷ xs) (take_next i x zs ys is)

reverse_last : {A : Type 0} (xs : List A) (x : A) → reverse (xs ++ x ∷ []) ≡ x ∷ reverse xs
reverse_last [] x = refl
reverse_last (y ∷ ys) x = reverse_cons y (ys ++ x ∷ []) ∙ ap (λ zs. zs ++ y ∷ []) (reverse_last ys x) ∙ ap (λ zs. x ∷ zs) (sym (reverse_cons y ys))

parts_more : (xs : List Stmt) (x : Stmt) → does.parts (xs ++ x ∷ []) ≡ does.parts xs ++ does.part x ∷ []
parts_more [] x = refl
parts_more (y ∷ ys) x = ap (λ ps. does.part y ∷ ps) (parts_more ys x)

pub parts_done : (i j : ℕ) (x : Stmt) (xs ys : List Stmt) → j ≡ suc i → drop i xs ≡ x ∷ ys → reverse (does.parts (take j xs)) ≡ does.part x ∷ reverse (does.parts (take i xs))
parts_done i j x xs ys next is =
    ap (λ k. reverse (does.parts (take k xs))) next ∙ ap (λ zs. reverse (does.parts zs)) (take_next i x xs ys is) ∙ ap reverse (parts_more (take i xs) x) ∙ reverse_last (does.parts (take i xs)) (does.part x)

renewed_by : (b : Bool) (at : Oid) (ms : Methods) (s : State)
    → on_value (plainly (λ p. if b then ends no_cell p else gives (tt {0}) (with_used p (p.store.used + length ms))) s) (λ _ s. gives at (record s { plain = with_change s.plain at (with_methods ms) }))
    ≡ plainly (λ p. if b then ends no_cell p else gives at (with_change (with_used p (p.store.used + length ms)) at (with_methods ms))) s
renewed_by true at ms s = refl
renewed_by false at ms s = refl

-- the class of a side is that of the frame
pub made_by_is : (o : Option Oid) (n : Name) (ms : Methods) (f : Frame) (s : State) → class_made o n ms f s ≡ made_by f.side o n ms s
made_by_is None n ms f s = refl
made_by_is (Some at) n ms f s = renewed_by (nat_lt s.plain.store.limit (s.plain.store.used + length ms)) at ms s

-- what is left to be done

module _ (m n : Machine) (w u v : World) (r : Result (Unit {0}) Halt) (count : ℕ) (name : Name) (p : Part) (ps all : List Part) (ms : Methods) (is : all ≡ p ∷ ps) where
  pub behind_next : step_end (state_of w) ≡ gives (tt {0}) (state_of u)
      → OnOk r ((base : Run) → rest_of base n (state_of v) ≡ rest m.tasks (did (frame_in base m) (drop count m.values) (class_with name p ps ms (frame_in base m) (state_of u))))
      → OnOk r ((base : Run) → rest_of base n (state_of v) ≡ rest m.tasks (did (frame_in base m) (drop count m.values) (class_behind name all ms (frame_in base m) (state_of w))))
  behind_next taken h = on_ok r ((base : Run) → rest_of base n (state_of v) ≡ rest m.tasks (did (frame_in base m) (drop count m.values) (class_with name p ps ms (frame_in base m) (state_of u))))
      ((base : Run) → rest_of base n (state_of v) ≡ rest m.tasks (did (frame_in base m) (drop count m.values) (class_behind name all ms (frame_in base m) (state_of w))))
      (λ law base. law base ∙ ap (λ o. rest m.tasks (did (frame_in base m) (drop count m.values) o))
      (sym (ap (λ ps. class_behind name ps ms (frame_in base m) (state_of w)) is ∙ behind_stepped name (frame_in base m) p ps ms (state_of w)
      ∙ gives-then (tt {0}) (state_of u) _ (λ _ s. class_with name p ps ms (frame_in base m) s) taken))) h

module _ (m n : Machine) (w u : World) (r : Result (Unit {0}) Halt) (count : ℕ) (name : Name) (p : Part) (ps all : List Part) (ms : Methods) (is : all ≡ p ∷ ps) where
  pub behind_end : (e : OpEnd) → IsEnd e (state_of u) (step_end (state_of w))
      → OnOk r ((base : Run) (s : State) (o : Outcome Flow) → IsEnd e s o → rest_of base n s ≡ rest m.tasks (did (frame_in base m) (drop count m.values) o))
      → OnOk r ((base : Run) → rest_of base n (state_of u) ≡ rest m.tasks (did (frame_in base m) (drop count m.values) (class_behind name all ms (frame_in base m) (state_of w))))
  behind_end e ended h = on_ok r ((base : Run) (s : State) (o : Outcome Flow) → IsEnd e s o → rest_of base n s ≡ rest m.tasks (did (frame_in base m) (drop count m.values) o))
      ((base : Run) → rest_of base n (state_of u) ≡ rest m.tasks (did (frame_in base m) (drop count m.values) (class_behind name all ms (frame_in base m) (state_of w))))
      (λ law base. law base (state_of u) _ (IsEnd-same e (state_of u) _ _ (ap (λ ps. class_behind name ps ms (frame_in base m) (state_of w)) is ∙ behind_stepped name (frame_in base m) p ps ms (state_of w))
      (IsEnd-then e (state_of u) _ (λ _ s. class_with name p ps ms (frame_in base m) s) ended))) h

pub dropped_cut : (m z n : Machine) (r : Result (Unit {0}) Halt) (i : ℕ) (e : OpEnd) → z ≡ record m { values = drop i m.values }
    → OnOk r ((base : Run) (s : State) (o : Outcome Flow) → IsEnd e s o → rest_of base n s ≡ rest z.tasks (did (frame_in base z) z.values o))
    → OnOk r ((base : Run) (s : State) (o : Outcome Flow) → IsEnd e s o → rest_of base n s ≡ rest m.tasks (did (frame_in base m) (drop i m.values) o))
dropped_cut m z n r i e is h =
    subst (λ (z : Machine). OnOk r ((base : Run) (s : State) (o : Outcome Flow) → IsEnd e s o → rest_of base n s ≡ rest z.tasks (did (frame_in base z) z.values o))) is h

-- the statement that begins is the last one
module _ (m n : Machine) (w v : World) (r : Result (Unit {0}) Halt) (count : ℕ) (name : Name) where
  abbrev pub Left : Part → List Part → List Part → Type 0
  Left p ps before = (base : Run) → rest_of base n (state_of v) ≡ rest m.tasks (did (frame_in base m) (drop count m.values) (class_with name p ps (held_methods before m.values) (frame_in base m) (state_of w)))

  pub class_goes : (p q : Part) (before all : List Part) (ps qs : List Part) → p ≡ q → all ≡ p ∷ before → qs ≡ ps
      → OnOk r ((rest : List Part) → all ≡ q ∷ rest → Left q qs rest) → OnOk r (Left p ps before)
  class_goes p q before all ps qs same is left h = on_ok r ((rest : List Part) → all ≡ q ∷ rest → Left q qs rest) (Left p ps before)
      (λ law. subst (λ (x : Part). Left x ps before) (sym same) (subst (λ (ys : List Part). Left q ys before) left (law before (is ∙ ap (λ x. x ∷ before) same)))) h

  -- all functions are at hand, and were taken off
  pub makes_class : (z : Machine) (ms all : Methods) → z ≡ record m { values = drop count m.values } → ms ≡ all → OnOk r (Executes (class_bound name ms) z w n v)
      → OnOk r ((base : Run) → rest_of base n (state_of v) ≡ rest m.tasks (did (frame_in base m) (drop count m.values) (class_bound name all (frame_in base m) (state_of w))))
  makes_class z ms all is are h =
      subst (λ (ms : Methods). OnOk r (Executes (class_bound name ms) (record m { values = drop count m.values }) w n v)) are
      (subst (λ (z : Machine). OnOk r (Executes (class_bound name ms) z w n v)) is h)

  module _ (xs : List Stmt) (i : ℕ) (p : Part) where
    abbrev pub ps : List Part
    ps = does.parts (drop i xs)

    abbrev pub Begins : Type 0
    Begins = (before : List Part) → reverse (does.parts (take i xs)) ≡ p ∷ before → Left p ps before

    -- a function is made
    pub begins_method : (t : Task) (ts : List Task) (name' : Name) (block : ℕ) (ds : List Meaning) → p ≡ method name' (forms.makes_function (Some name') block ds) → ts ≡ t ∷ m.tasks
        → ((f : Frame) (vs : List Value) (o : Outcome Value) → after t (gave f vs o)
        ≡ did f (drop count vs) (on_value o (λ v s. class_behind name ps (held_methods (reverse (does.parts (take i xs))) (v ∷ vs)) f s)))
        → OnOk r (Defines (Some name') block 0 ds (record m { tasks = ts }) w n v) → OnOk r Begins
    begins_method t ts name' block ds is more waits h =
        on_ok r (Defines (Some name') block 0 ds (record m { tasks = t ∷ m.tasks }) w n v) Begins
        (λ law before all base. law base ∙ ap (rest m.tasks) (waits (frame_in base m) m.values (with_defaults (Some name') block ds [] (frame_in base m) (state_of w)))
        ∙ ap (λ o. rest m.tasks (did (frame_in base m) (drop count m.values) o))
        (ap (λ ys. on_value (with_defaults (Some name') block ds [] (frame_in base m) (state_of w)) (λ v s. class_behind name ps (held_methods ys (v ∷ m.values)) (frame_in base m) s))
        (all ∙ ap (λ x. x ∷ before) is)
        ∙ sym (ap (λ x. class_with name x ps (held_methods before m.values) (frame_in base m) (state_of w)) is
        ∙ method_with name (frame_in base m) name' block ds ps before m.values (state_of w))))
        (subst (λ (ts : List Task). OnOk r (Defines (Some name') block 0 ds (record m { tasks = ts }) w n v)) more h)

    -- an expression is evaluated
    pub begins_expr : (t : Task) (ts : List Task) (x : Meaning) → p ≡ other (stmt_forms.evaluate x) → ts ≡ t ∷ m.tasks
        → ((f : Frame) (vs : List Value) (o : Outcome Flow) → after t (did f vs o)
        ≡ did f (drop count vs) (on_value o (λ flow s. class_behind name ps (held_methods (reverse (does.parts (take i xs))) vs) f s)))
        → OnOk r ((base : Run) (s : State) → rest_of base n s ≡ rest ts (did (frame_in base m) m.values (stmt_forms.evaluate x (frame_in base m) s)))
        → v ≡ w → OnOk r Begins
    begins_expr t ts x is more waits h same =
        on_ok r ((base : Run) (s : State) → rest_of base n s ≡ rest (t ∷ m.tasks) (did (frame_in base m) m.values (stmt_forms.evaluate x (frame_in base m) s))) Begins
        (λ law before all base. law base (state_of v) ∙ ap (rest m.tasks) (waits (frame_in base m) m.values (stmt_forms.evaluate x (frame_in base m) (state_of v)))
        ∙ ap (λ o. rest m.tasks (did (frame_in base m) (drop count m.values) o))
        (ap (λ (z : World). on_value (stmt_forms.evaluate x (frame_in base m) (state_of z)) (λ flow s. class_behind name ps (held_methods (reverse (does.parts (take i xs))) m.values) (frame_in base m) s)) same
        ∙ ap (λ ys. on_value (stmt_forms.evaluate x (frame_in base m) (state_of w)) (λ flow s. class_behind name ps (held_methods ys m.values) (frame_in base m) s))
        (all ∙ ap (λ x. x ∷ before) is)
        ∙ sym (ap (λ x. class_with name x ps (held_methods before m.values) (frame_in base m) (state_of w)) is
        ∙ other_with name (frame_in base m) x ps (held_methods before m.values) (state_of w))))
        (subst (λ (ts : List Task). OnOk r ((base : Run) (s : State) → rest_of base n s ≡ rest ts (did (frame_in base m) m.values (stmt_forms.evaluate x (frame_in base m) s)))) more h)

    -- nothing is done
    pub begins_pass : p ≡ other stmt_forms.nothing
        → OnOk r ((base : Run) (s : State) → rest_of base n s
        ≡ rest m.tasks (did (frame_in base m) (drop count m.values) (class_behind name ps (held_methods (reverse (does.parts (take i xs))) m.values) (frame_in base m) s)))
        → v ≡ w → OnOk r Begins
    begins_pass is h same =
        on_ok r ((base : Run) (s : State) → rest_of base n s
        ≡ rest m.tasks (did (frame_in base m) (drop count m.values) (class_behind name ps (held_methods (reverse (does.parts (take i xs))) m.values) (frame_in base m) s))) Begins
        (λ law before all base. law base (state_of v)
        ∙ ap (λ o. rest m.tasks (did (frame_in base m) (drop count m.values) o))
        (ap (λ (z : World). class_behind name ps (held_methods (reverse (does.parts (take i xs))) m.values) (frame_in base m) (state_of z)) same
        ∙ ap (λ ys. class_behind name ps (held_methods ys m.values) (frame_in base m) (state_of w)) (all ∙ ap (λ x. x ∷ before) is)
        ∙ sym (ap (λ x. class_with name x ps (held_methods before m.values) (frame_in base m) (state_of w)) is))) h

-- one more function is at hand
pub method_held : (m n : Machine) (w v : World) (r : Result (Unit {0}) Halt) (count k : ℕ) (name : Name) (ps before : List Part) (a : Value) (z : Machine) → z ≡ record m { values = a ∷ m.values } → k ≡ suc count
    → OnOk r ((base : Run) → rest_of base n (state_of v) ≡ rest z.tasks (did (frame_in base z) (drop k z.values) (class_behind name ps (held_methods before z.values) (frame_in base z) (state_of w))))
    → OnOk r ((base : Run) → rest_of base n (state_of v) ≡ rest m.tasks (did (frame_in base m) (drop count m.values) (class_behind name ps (held_methods before (a ∷ m.values)) (frame_in base m) (state_of w))))
method_held m n w v r count k name ps before a z is next h =
    subst (λ (k : ℕ). OnOk r ((base : Run) → rest_of base n (state_of v) ≡ rest m.tasks (did (frame_in base m) (drop k (a ∷ m.values)) (class_behind name ps (held_methods before (a ∷ m.values)) (frame_in base m) (state_of w))))) next
    (subst (λ (z : Machine). OnOk r ((base : Run) → rest_of base n (state_of v) ≡ rest z.tasks (did (frame_in base z) (drop k z.values) (class_behind name ps (held_methods before z.values) (frame_in base z) (state_of w))))) is h)

-- the class is made
module _ (m : Machine) (w u : World) (name : Name) (ms fs : Methods) (are : fs ≡ functions_in w.store.heap ms) (o : Option Oid)
    (is : (base : Run) → o ≡ declared_at (frame_in base m) w.store.heap (word_of w.names name) (state_of w).declarations.classes) where
  class_is : (base : Run) → class_bound name ms (frame_in base m) (state_of w) ≡ on_value (made_by m.frame.side o name fs (state_of w)) (λ at s. bind_name name (value.Ref at) (frame_in base m) s)
  class_is base =
      ap (λ o. on_value (class_made o name (functions_in w.store.heap ms) (frame_in base m) (state_of w)) (λ at s. bind_name name (value.Ref at) (frame_in base m) s)) (sym (is base))
      ∙ ap (λ fs. on_value (class_made o name fs (frame_in base m) (state_of w)) (λ at s. bind_name name (value.Ref at) (frame_in base m) s)) (sym are)
      ∙ ap (λ x. on_value x (λ at s. bind_name name (value.Ref at) (frame_in base m) s)) (made_by_is o name fs (frame_in base m) (state_of w))

  pub class_gives : (at : Oid) → made_by m.frame.side o name fs (state_of w) ≡ gives at (state_of u) → (base : Run)
      → class_bound name ms (frame_in base m) (state_of w) ≡ bind_name name (value.Ref at) (frame_in base m) (state_of u)
  class_gives at made base = class_is base ∙ gives-then at (state_of u) _ (λ at s. bind_name name (value.Ref at) (frame_in base m) s) made

  pub class_ends : (e : OpEnd) → IsEnd e (state_of u) (made_by m.frame.side o name fs (state_of w)) → (base : Run)
      → IsEnd e (state_of u) (class_bound name ms (frame_in base m) (state_of w))
  class_ends e ended base = IsEnd-same e (state_of u) _ _ (class_is base) (IsEnd-then e (state_of u) _ (λ at s. bind_name name (value.Ref at) (frame_in base m) s) ended)

-- a class that got other methods may be held by the trusted code that it is of

class_sound : (o : Option Content) → IsSomeAnd o IsClass → IsSomeAnd o (λ c. ¬ IsScope c)
class_sound None is = is
class_sound (Some (object.list vs)) is = absurd is
class_sound (Some (object.tuple vs)) is = absurd is
class_sound (Some (object.dict es)) is = absurd is
class_sound (Some (object.instance of fields)) is = absurd is
class_sound (Some (object.class name declared methods)) is = λ scope. scope
class_sound (Some (object.function name unit block within defaults)) is = absurd is
class_sound (Some (object.method receiver called)) is = absurd is
class_sound (Some (object.scope block parent slots)) is = absurd is

pub renewed_fit : (heap : List Owned) (side : Side) (r : Result Oid OpEnd) (at : Oid) → side.0 ≡ 0 → Names heap IsClass at → IfOk r (λ same. same ≡ at)
    → IfOk r (λ made. IsFit heap side (value.Ref made))
renewed_fit heap side (Ok made) at trusted class is =
    subst (λ (at : Oid). IsFit heap side (value.Ref at)) (sym is) (class_sound (content_at heap at) class, (λ script. absurd (script trusted)))
renewed_fit heap side (Err e) at trusted class is = tt

-- a statement of the block that makes no method, or one

pub other_part : (p : Part) (ps : List Part) (vs : List Value) → name_of p ≡ None → held_methods (p ∷ ps) vs ≡ held_methods ps vs
other_part (method n m) ps vs is = let k : Some n ≡ None = is in absurd (cc)
other_part (other d) ps vs is = refl

method_part : (p : Part) (n : Name) (ps : List Part) (vs : List Value) → name_of p ≡ Some n
    → held_methods (p ∷ ps) vs ≡ insert_entry same_name (held_methods ps (below vs)) n (place_at (top vs))
method_part (method x m) n ps vs is =
    let k : Some x ≡ Some n = is in
    let j : x ≡ n = cc in
    ap (λ n. insert_entry same_name (held_methods ps (below vs)) n (place_at (top vs))) j
method_part (other d) n ps vs is = let k : None ≡ Some n = is in absurd (cc)

pub other_counted : (p : Part) → name_of p ≡ None → count_of (p ∷ []) ≡ 0
other_counted (method n m) is = let k : Some n ≡ None = is in absurd (cc)
other_counted (other d) is = refl

pub method_counted : (p : Part) (n : Name) → name_of p ≡ Some n → count_of (p ∷ []) ≡ 1
method_counted (method x m) n is = refl
method_counted (other d) n is = let k : None ≡ Some n = is in absurd (cc)

pub some_counted : (p : Part) → is_some (name_of p) ≡ true → 1 ≡ count_of (p ∷ [])
some_counted (method x m) is = refl
some_counted (other d) is = let k : false ≡ true = is in absurd (cc)

pub none_counted : (p : Part) → is_some (name_of p) ≡ false → 0 ≡ count_of (p ∷ [])
none_counted (method x m) is = let k : true ≡ false = is in absurd (cc)
none_counted (other d) is = refl

pub counted_first : (ps : List Part) → 0 + count_of ps ≡ count_of ps
counted_first ps = omega arith

first_counted : (p : Part) (ps : List Part) → count_of (p ∷ ps) ≡ count_of (p ∷ []) + count_of ps
first_counted (method n m) ps = omega arith
first_counted (other d) ps = omega arith

-- one function becomes a method; those of the statements behind stand upon it
pub part_put : (p : Part) (n : Name) → name_of p ≡ Some n → (ps : List Part) (vs : List Value) (left behind : ℕ) (ms ns : Methods) (at : Oid) → left ≡ suc behind
    → ms ≡ held_methods ps (drop left vs) → at ≡ place_at (top (drop behind vs)) → ns ≡ insert_entry same_name ms n at
    → ns ≡ held_methods (p ∷ ps) (drop behind vs)
part_put p n named ps vs left behind ms ns at next before place set =
    set ∙ ap (λ ms. insert_entry same_name ms n at) (before ∙ ap (λ k. held_methods ps (drop k vs)) next ∙ ap (held_methods ps) (sym (below_dropped behind vs)))
    ∙ ap (λ at. insert_entry same_name (held_methods ps (below (drop behind vs))) n at) place ∙ sym (method_part p n ps (drop behind vs) named)

-- the methods of some statements, one after another

module _ (xs : List Stmt) (i : ℕ) (x : Stmt) (form : StmtForm) (within : i < length xs) (is : x ≡ get_or xs i x) (inner : form ≡ (out-Stmt x).form.value) where
  left_is : drop i xs ≡ x ∷ drop (i + 1) xs
  left_is = drop_more xs i x within ∙ ap (λ y. y ∷ drop (i + 1) xs) (sym is)

  part_same : does.part x ≡ does.part_form form
  part_same = part_out x ∙ ap (λ (z : StmtForm). does.part_form z) (sym inner)

  pub counted_next : count_of (does.parts (drop i xs)) ≡ count_of (does.part_form form ∷ []) + count_of (does.parts (drop (i + 1) xs))
  counted_next =
      ap (λ ys. count_of (does.parts ys)) left_is ∙ ap (λ p. count_of (p ∷ does.parts (drop (i + 1) xs))) part_same
      ∙ first_counted (does.part_form form) (does.parts (drop (i + 1) xs))

  pub part_room : (left : ℕ) → left ≡ count_of (does.parts (drop i xs)) → count_of (does.part_form form ∷ []) ≤ left
  part_room left e = omega (arith, counted_next, e)

  pub part_left : (left behind : ℕ) → left ≡ count_of (does.parts (drop i xs)) → left ≡ count_of (does.part_form form ∷ []) + behind
      → behind ≡ count_of (does.parts (drop (i + 1) xs))
  part_left left behind e more = omega (arith, counted_next, e, more)

  pub part_held : (ms : Methods) (vs : List Value) → ms ≡ held_methods (does.part_form form ∷ reverse (does.parts (take i xs))) vs
      → ms ≡ held_methods (reverse (does.parts (take (i + 1) xs))) vs
  part_held ms vs e =
      e ∙ ap (λ ps. held_methods ps vs) (ap (λ p. p ∷ reverse (does.parts (take i xs))) (sym part_same) ∙ sym (parts_done i (i + 1) x xs (drop (i + 1) xs) (omega arith) left_is))

-- where none is left

pub all_held : (xs : List Stmt) (i left : ℕ) (vs : List Value) (ms : Methods) → length xs ≤ i → left ≡ count_of (does.parts (drop i xs))
    → ms ≡ held_methods (reverse (does.parts (take i xs))) (drop left vs) → ms ≡ held_methods (reverse (does.parts xs)) vs
all_held xs i left vs ms past counted is =
    is ∙ ap (λ k. held_methods (reverse (does.parts (take i xs))) (drop k vs)) (counted ∙ at_drop_all (λ ys. count_of (does.parts ys)) xs i past)
    ∙ ap (λ ys. held_methods (reverse (does.parts ys)) vs) (take_all i xs past)

-- no more methods than statements

parts_few : (ps : List Part) → count_of ps ≤ length ps
parts_few [] = omega arith
parts_few (method n m ∷ ps) = omega (arith, parts_few ps)
parts_few (other d ∷ ps) = omega (arith, parts_few ps)

parts_length : (xs : List Stmt) → length (does.parts xs) ≡ length xs
parts_length [] = refl
parts_length (x ∷ xs) = let same = parts_length xs in omega (arith, same)

pub counted_few : (xs : List Stmt) → count_of (does.parts xs) ≤ length xs
counted_few xs = omega (arith, parts_few (does.parts xs), parts_length xs)

pub counted_all : (xs : List Stmt) (i count : ℕ) → length xs ≤ i → count + count_of (does.parts (drop i xs)) ≡ count_of (does.parts xs) → count ≡ count_of (does.parts xs)
counted_all xs i count past is = omega (arith, at_drop_all (λ ys. count_of (does.parts ys)) xs i past, is)
