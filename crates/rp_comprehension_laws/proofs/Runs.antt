-- A comprehension that gives a value gives elements.
use Rattle.std.proofs.Common.{◌≡◌, refl, sym, ap, subst, ◌∙◌, ℕ, zero, suc, ◌+◌, Bool, true, false, List, [], ◌∷◌, ◌++◌}
use Rattle.std.proofs.Common.{length, Option, Some, None, Result, Ok, Err}
use Rattle.rp_base.specs.Names.{word_of}
use Rattle.rp_base.specs.declared.value.Oid.{Oid}
use Rattle.rp_base.specs.declared.value.Value.{Value}
use Rattle.rp_base.specs.declared.value.Value.TheVariants as value
use Rattle.rp_base.specs.declared.word.TheConstants.{BOOL}
use Rattle.rp_checker.specs.RowOf.{reading}
use Rattle.rp_ops.specs.Operand.{truth_of}
use Rattle.rp_ops.specs.Outcome.{End, Ending, gives, on_value}
use Rattle.rp_ops.specs.Walk.{Cursor}
use Rattle.rp_store.specs.Heap.{content_at}
use Rattle.rp_store.specs.Object.{Content}
use Rattle.rp_meaning.specs.Expressions as forms
use Rattle.rp_meaning.specs.Expressions.{Clause, empty_slots, nest, new_scope, where_all}
use Rattle.rp_meaning.specs.Frame.{Doing, Frame, Meaning, layouts_of}
use Rattle.rp_meaning.specs.State.{State, Outcome, Flow, broke, choose, continued, done, heap_of, makes, monitor_of}
use Rattle.rp_meaning.specs.State.{next, on_flow, returned}
use Rattle.rp_meaning.specs.Statements.{Store}
use Rattle.rp_meaning.specs.Walks.{each, next_element, on_more, on_truth, on_turn, turns, walk}
use Rattle.rp_more_laws.proofs.Going.{Holds, HoldsOf, IsMade, bind, decided_held, goes, makes_held, step_held}
use Rattle.rp_more_laws.proofs.Going.{then_held}
use Rattle.rp_comprehension_laws.specs.Elements.{Gathers, Gives, GivesFrom, at_end, begins, element, left_out}
use Rattle.rp_comprehension_laws.specs.Elements.{passes, selected, selects, within}
use Rattle.rp_comprehension_laws.proofs.Targets.{Binds, EachBinds, IsNext}

-- what holds where something gives a value, by that value too
pub held_by : {S A : Type 0} (o : Ending S A) (Q P : A → S → Type 0) → Holds o Q
    → ((a : A) (s : S) → o ≡ gives a s → Q a s → P a s) → Holds o P
held_by {S} {A} o Q P h more = by o.answer refl h where
  by : (r : Result A End) → o.answer ≡ r → HoldsOf r o.state Q → HoldsOf r o.state P
  by (Ok a) e h = more a o.state (λ i. record { answer = e i; state = o.state }) h
  by (Err x) e h = tt

-- ---- tests

-- where a truth is decided, one of two ways goes on, whatever they are
truth_held : {A : Type 0} (v : Value) (frame : Frame) (s : State) (this other : State → Outcome A)
    (P : A → State → Type 0)
    → ((b : Bool) (u : State)
    → ((B : Type 0) (this other : State → Outcome B) → on_truth v frame s this other ≡ choose b this other u)
    → Holds (choose b this other u) P)
    → Holds (on_truth v frame s this other) P
truth_held v frame s this other P h =
    decided_held (frame.run.decide v (reading (word_of s.names BOOL)) (monitor_of s)) s
    (λ s. choose (truth_of (heap_of s) v) this other s) P (λ u same.
    h (truth_of (heap_of u) v) u (λ B this other. same B (λ s. choose (truth_of (heap_of s) v) this other s)))

-- what is done where all tests are true
abbrev Passed : List Meaning → Doing → Frame → State → (Flow → State → Type 0) → Type 0
Passed ms inside frame s P =
    (b : Bool) (u : State) → passes ms frame s ≡ gives b u → Holds (choose b (inside frame) done u) P

where_held : (ms : List Meaning) (inside : Doing) (frame : Frame) (s : State) (P : Flow → State → Type 0)
    → Passed ms inside frame s P → Holds (where_all ms inside frame s) P
where_held [] inside frame s P h = h true s refl
where_held (m ∷ ms) inside frame s P h =
    bind (m frame s) (λ v s. on_truth v frame s (where_all ms inside frame) done) P (λ v s1 e1.
    truth_held v frame s1 (where_all ms inside frame) done P (λ b s2 same.
    by v s1 e1 b s2 (λ this other. same Bool this other) (where_held ms inside frame s2 P))) where
      by : (v : Value) (s1 : State) → m frame s ≡ gives v s1 → (b : Bool) (s2 : State)
          → ((this other : State → Outcome Bool) → on_truth v frame s1 this other ≡ choose b this other s2)
          → (Passed ms inside frame s2 P → Holds (where_all ms inside frame s2) P)
          → Holds (choose b (where_all ms inside frame) done s2) P
      by v s1 e1 true s2 same rest =
          rest (λ b u e. h b u (goes (λ v s. on_truth v frame s (passes ms frame) (gives false)) e1
          (same (passes ms frame) (gives false) ∙ e)))
      by v s1 e1 false s2 same rest =
          h false s2 (goes (λ v s. on_truth v frame s (passes ms frame) (gives false)) e1
          (same (passes ms frame) (gives false)))

-- ---- clauses

module _ (m : Meaning) (put : Store) (does : Doing)
    (is_put : (frame : Frame) (s : State) → does frame s ≡ on_value (m frame s) (λ v s. put v frame s))
    (puts : Binds put) where
  abbrev Given : List Clause → Frame → State → Flow → State → Type 0
  Given cs frame s flow u = (flow ≡ next) × (vs : List Value) × Gives m put frame cs s vs u

  abbrev GivenFrom : Clause → List Clause → Frame → Cursor → State → Flow → State → Type 0
  GivenFrom c cs frame w s flow u = (flow ≡ next) × (vs : List Value) × GivesFrom m put frame c cs w s vs u

  -- what a turn came to
  abbrev Inside : Bool → List Clause → Frame → State → State → Type 0
  Inside true cs frame s u = (vs : List Value) × Gives m put frame cs s vs u
  Inside false cs frame s u = u ≡ s

  record Turned (c : Clause) (cs : List Clause) (v : Value) (frame : Frame) (s : State) (flow : Flow) (u : State)
      : Type 0 where
    is_next : flow ≡ next
    is_true : Bool
    between : State
    is_selected : selects c v frame s ≡ gives is_true between
    inside : Inside is_true cs frame between u

  turned : (c : Clause) (cs : List Clause) (v : Value) (frame : Frame) (s : State) → Binds c.bind
      → ((s : State) → Holds (nest cs does frame s) (Given cs frame s))
      → Holds (forms.turn c (nest cs does) v frame s) (Turned c cs v frame s)
  turned c cs v frame s binds rest =
      then_held (c.bind v frame s) (λ flow s. on_flow flow s (where_all c.tests (nest cs does) frame)) IsNext
      (Turned c cs v frame s) (binds v frame s) (λ flow s1 e1 is_next.
      subst (λ flow. Holds (on_flow flow s1 (where_all c.tests (nest cs does) frame)) (Turned c cs v frame s))
      (sym is_next)
      (where_held c.tests (nest cs does) frame s1 (Turned c cs v frame s) (λ b s2 e2.
      by b s2 (goes (λ _ s. passes c.tests frame s) e1 e2)))) where
        by : (b : Bool) (s2 : State) → selects c v frame s ≡ gives b s2
            → Holds (choose b (nest cs does frame) done s2) (Turned c cs v frame s)
        by true s2 e =
            held_by (nest cs does frame s2) (Given cs frame s2) (Turned c cs v frame s) (rest s2)
            (λ flow u _ g. record {
              is_next = g.0;
              is_true = true;
              between = s2;
              is_selected = e;
              inside = (g.1, g.2);
            })
        by false s2 e = record { is_next = refl; is_true = false; between = s2; is_selected = e; inside = refl }

  -- a turn, and those behind it
  turn_then : (o : Outcome Flow) (go : State → Outcome Flow) (Q P : Flow → State → Type 0) → Holds o Q
      → ((flow : Flow) (s : State) → Q flow s → flow ≡ next)
      → ((s : State) → Q next s → Holds (go s) P) → Holds (on_turn o go) P
  turn_then o go Q P h is_next more = by o.answer h where
    by : (r : Result Flow End) → HoldsOf r o.state Q → Holds (on_turn (record { answer = r; state = o.state }) go) P
    by (Ok next) h = more o.state h
    by (Ok continued) h = more o.state (subst (λ flow. Q flow o.state) (is_next continued o.state h) h)
    by (Ok broke) h = let e = is_next broke o.state h in absurd cc
    by (Ok (returned v)) h = let e = is_next (returned v) o.state h in absurd cc
    by (Err e) h = tt

  joined : (c : Clause) (cs : List Clause) (frame : Frame) (w x : Cursor) (v : Value) (s t r u : State) (flow : Flow)
      (b : Bool) (q : State)
      → next_element frame w s ≡ gives (Some (v, x)) t → selects c v frame t ≡ gives b q → Inside b cs frame q r
      → GivenFrom c cs frame x r flow u → GivenFrom c cs frame w s flow u
  joined c cs frame w x v s t r u flow true q e f i g = (g.0, i.0 ++ g.1, selected e f i.1 g.2)
  joined c cs frame w x v s t r u flow false q e f i g =
      (g.0, g.1, left_out e f (subst (λ r. GivesFrom m put frame c cs x r g.1 u) i g.2))

  turns_held : (n : ℕ) (c : Clause) (cs : List Clause) (frame : Frame) (w : Cursor) (s : State) → Binds c.bind
      → ((s : State) → Holds (nest cs does frame s) (Given cs frame s))
      → Holds (turns n (next_element frame) (λ v s. forms.turn c (nest cs does) v frame s) w s)
      (GivenFrom c cs frame w s)
  turns_held zero c cs frame w s binds rest = tt
  turns_held (suc n) c cs frame w s binds rest =
      bind (next_element frame w s)
      (λ e s. on_more e s (λ v w s. on_turn (forms.turn c (nest cs does) v frame s)
      (λ s. turns n (next_element frame) (λ v s. forms.turn c (nest cs does) v frame s) w s)))
      (GivenFrom c cs frame w s) (λ e t is.
      by e t is (λ x r. turns_held n c cs frame x r binds rest)) where
        by : (e : Option (Value × Cursor)) (t : State) → next_element frame w s ≡ gives e t
            → ((x : Cursor) (r : State)
            → Holds (turns n (next_element frame) (λ v s. forms.turn c (nest cs does) v frame s) x r)
            (GivenFrom c cs frame x r))
            → Holds (on_more e t (λ v w s. on_turn (forms.turn c (nest cs does) v frame s)
            (λ s. turns n (next_element frame) (λ v s. forms.turn c (nest cs does) v frame s) w s)))
            (GivenFrom c cs frame w s)
        by None t is more = (refl, [], at_end is)
        by (Some e) t is more =
            turn_then (forms.turn c (nest cs does) e.0 frame t)
            (λ s. turns n (next_element frame) (λ v s. forms.turn c (nest cs does) v frame s) e.1 s)
            (Turned c cs e.0 frame t) (GivenFrom c cs frame w s)
            (turned c cs e.0 frame t binds rest) (λ flow s h. h.is_next) (λ r h.
            held_by (turns n (next_element frame) (λ v s. forms.turn c (nest cs does) v frame s) e.1 r)
            (GivenFrom c cs frame e.1 r) (GivenFrom c cs frame w s) (more e.1 r) (λ flow u _ g.
            joined c cs frame w e.1 e.0 s t r u flow h.is_true h.between is h.is_selected h.inside g))

  nest_held : (cs : List Clause) → EachBinds cs → (frame : Frame) (s : State)
      → Holds (nest cs does frame s) (Given cs frame s)
  nest_held [] binds frame s =
      subst (λ o. Holds o (Given [] frame s)) (sym (is_put frame s))
      (bind (m frame s) (λ v s. put v frame s) (Given [] frame s) (λ v t e.
      held_by (put v frame t) IsNext (Given [] frame s) (puts v frame t) (λ flow u f is_next. (
        is_next,
        v ∷ [],
        element e (f ∙ ap (λ flow. gives flow u) is_next),
      ))))
  nest_held (c ∷ cs) binds frame s =
      bind (c.of frame s)
      (λ v s. on_value (walk v frame s) (λ w s. each (forms.turn c (nest cs does)) w frame s))
      (Given (c ∷ cs) frame s) (λ v s1 e1.
      bind (walk v frame s1) (λ w s. each (forms.turn c (nest cs does)) w frame s) (Given (c ∷ cs) frame s) (λ w s2 e2.
      held_by (each (forms.turn c (nest cs does)) w frame s2) (GivenFrom c cs frame w s2) (Given (c ∷ cs) frame s)
      (turns_held (s2.plain.steps + 1) c cs frame w s2 binds.0 (nest_held cs binds.1 frame)) (λ flow u _ g. (
        g.0,
        g.1,
        within (goes (λ v s. walk v frame s) e1 e2) g.2,
      ))))

-- ---- a comprehension

pub record IsGathered (block : ℕ) (m : Meaning) (c : Clause) (cs : List Clause) (empty : Content) (put : Oid → Store)
    (frame : Frame) (s : State) (v : Value) (u : State) : Type 0 where
  pub held : List Value
  pub at : Oid
  pub result : v ≡ value.Ref at
  pub gathered : Gathers block m c cs empty put frame s held at u
  pub there : content_at (heap_of gathered.before) at ≡ Some empty

pub comprehension_held : (block : ℕ) (m : Meaning) (c : Clause) (cs : List Clause) (empty : Content) (put : Oid → Store)
    (add : Oid → Doing) (frame : Frame) (s : State)
    → ((at : Oid) (frame : Frame) (s : State) → add at frame s ≡ on_value (m frame s) (λ v s. put at v frame s))
    → ((at : Oid) → Binds (put at)) → Binds c.bind → EachBinds cs
    → Holds (forms.comprehension block (c ∷ cs) empty add frame s) (IsGathered block m c cs empty put frame s)
comprehension_held block m c cs empty put add frame s is_put puts binds each_binds =
    step_held s (λ s. on_value (c.of frame s) (λ v s. on_value (walk v frame s) run)) P (λ s1 e1.
    bind (c.of frame s1) (λ v s. on_value (walk v frame s) run) P (λ v s2 e2.
    bind (walk v frame s2) run P (λ w s3 e3.
    bind (new_scope block frame slots s3) (opened w) P (λ scope s4 e4.
    then_held (makes frame.side empty s4) (filled w scope) (IsMade frame.side empty s4) P
    (makes_held frame.side empty s4) (λ at s5 e5 made.
    then_held (each (forms.turn c (nest cs (add at))) w (inner scope) s5) (λ flow s. gives (value.Ref at) s)
    (GivenFrom m (put at) (add at) (is_put at) (puts at) c cs (inner scope) w s5) P
    (turns_held m (put at) (add at) (is_put at) (puts at) (s5.plain.steps + 1) c cs (inner scope) w s5 binds
    (nest_held m (put at) (add at) (is_put at) (puts at) cs each_binds (inner scope))) (λ flow u _ g. record {
      held = g.1;
      at = at;
      result = refl;
      gathered = record {
        walked = w;
        scope = scope;
        before = s5;
        opened = goes (λ _ s. on_value (begins c frame s) after) e1
            (goes after (goes (λ v s. walk v frame s) e2 e3)
            (goes (λ scope s. on_value (makes frame.side empty s) (λ at s. gives (w, scope, at) s)) e4
            (goes (λ at s. gives (w, scope, at) s) e5 refl)));
        given = g.2;
      };
      there = made.there;
    })))))) where
      P : Value → State → Type 0
      P v u = IsGathered block m c cs empty put frame s v u

      slots : List (Option Value)
      slots = empty_slots (length ((layouts_of frame).locals block))

      inner : Oid → Frame
      inner scope = record frame { block = block; scope = scope }

      filled : Cursor → Oid → Oid → State → Outcome Value
      filled w scope at s =
          on_value (each (forms.turn c (nest cs (add at))) w (inner scope) s) (λ flow s. gives (value.Ref at) s)

      opened : Cursor → Oid → State → Outcome Value
      opened w scope s = on_value (makes frame.side empty s) (filled w scope)

      run : Cursor → State → Outcome Value
      run w s = on_value (new_scope block frame slots s) (opened w)

      after : Cursor → State → Outcome (Cursor × Oid × Oid)
      after w s = on_value (new_scope block frame slots s) (λ scope s.
          on_value (makes frame.side empty s) (λ at s. gives (w, scope, at) s))
